-- A walk over a message, one element at a time.
use Rattle.std.proofs.Common.{◌≡◌, ℕ, zero, suc, ◌+◌, ◌-◌, ◌<◌, ◌≤◌, Bool, true, false, cond, ltb, List, length, Some, Ok, Err, Result, MatchResult, refl, sym, ap, ◌∙◌, arith}
use Rattle.std.proofs.lemmas.Bool.Decides.{nat_tests}
use Rattle.std.proofs.lemmas.List.{length-take, length-drop}
use Rattle.layout.specs.declared.element.Element.{Element}
use Rattle.layout.specs.declared.fault.Fault.{Fault}
use Rattle.layout.specs.Elements.{Part, Walk, end, bad, more, onward, walk_by, walk, Steps, steps_left, found, seen, element_at, valued, past}

-- a value lies within the message
valued_past : (m : List ℕ) (at start len : ℕ) (p : Part) → start ≤ length m → valued m at start len ≡ Ok p → (p.start ≡ start) × (length p.value ≡ len) × (start + len ≤ length m)
valued_past m at start len p s h = grind (arith, nat_tests, length-take, length-drop)

-- an element ends past its place, and within the message
pub past_place : (m : List ℕ) (at : ℕ) (p : Part) → element_at m at ≡ Ok p → (at < past p) × (past p ≤ length m)
past_place m at p h = grind (arith, nat_tests, valued_past)

pub cond_same : {X : Type 0} (b : Bool) (x y z : X) → (b ≡ true → x ≡ y) → cond b x z ≡ cond b y z
cond_same true x y z h = h refl
cond_same false x y z h = refl

pub onward_same : (r : Result Part Fault) (f g : Part → Walk) → ((p : Part) → r ≡ Ok p → f p ≡ g p) → onward r f ≡ onward r g
onward_same (Ok p) f g h = ap (more p) (h p refl)
onward_same (Err x) f g h = refl

-- how many steps are allowed does not matter where they suffice
walk_by_same : (k j : ℕ) (m : List ℕ) (at : ℕ) → length m ≤ at + k → length m ≤ at + j → walk_by k m at ≡ walk_by j m at
walk_by_same zero zero m at p q = refl
walk_by_same zero (suc j) m at p q = let f : ltb at (length m) ≡ false = grind (arith, nat_tests) in rw f
walk_by_same (suc k) zero m at p q = let f : ltb at (length m) ≡ false = grind (arith, nat_tests) in rw f
walk_by_same (suc k) (suc j) m at p q =
    cond_same (ltb at (length m)) _ _ end
    (λ _. onward_same (element_at m at) _ _ (λ e h. let n = past_place m at e h in walk_by_same k j m (past e) (omega arith) (omega arith)))

pub walk_end : (m : List ℕ) (at : ℕ) → length m ≤ at → walk m at ≡ end
unfolding walk
walk_end m at h = walk_by_same (length m - at) zero m at (omega arith) (omega arith)

pub walk_more : (m : List ℕ) (at : ℕ) → at < length m → walk m at ≡ onward (element_at m at) (λ p. walk m (past p))
unfolding walk
walk_more m at h =
    let t : ltb at (length m) ≡ true = grind (arith, nat_tests) in
    walk_by_same (length m - at) (suc (length m - at)) m at (omega arith) (omega arith)
    ∙ rw t (onward_same (element_at m at) _ _ (λ e q. let n = past_place m at e q in walk_by_same (length m - at) (length m - past e) m (past e) (omega arith) (omega arith)))

-- the walk where what stands at `at` is known
pub walk_ok : (m : List ℕ) (at : ℕ) (p : Part) → at < length m → element_at m at ≡ Ok p → walk m at ≡ more p (walk m (past p))
walk_ok m at p h q = walk_more m at h ∙ ap (λ (v : Result Part Fault). onward v (λ e. walk m (past e))) q

pub walk_bad : (m : List ℕ) (at : ℕ) (x : Fault) → at < length m → element_at m at ≡ Err x → walk m at ≡ bad x
walk_bad m at x h q = walk_more m at h ∙ ap (λ (v : Result Part Fault). onward v (λ e. walk m (past e))) q

-- a step from `at` to `to`
pub step_on : (m : List ℕ) (at to : ℕ) (r : Result Element Fault) → at < length m → found r ≡ element_at m at → MatchResult r (λ e. to ≡ past (seen e)) (λ _. to ≡ length m) → Steps (walk m at) (Some r) (walk m to)
step_on m at to (Ok e) h q t = walk_ok m at (seen e) h (sym q) ∙ ap (λ (n : ℕ). more (seen e) (walk m n)) (sym t)
step_on m at to (Err x) h q t = (walk_bad m at x h (sym q), walk_end m to (omega arith))

pub fewer_left : (w v : Walk) (r : Result Element Fault) → Steps w (Some r) v → steps_left v < steps_left w
fewer_left w v (Ok e) h = rw h (omega arith)
fewer_left w v (Err x) h = rw (h.0, h.1) (omega arith)

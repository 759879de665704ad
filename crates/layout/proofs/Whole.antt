-- The elements of a message, put together again.
use Rattle.std.proofs.Common.{◌≡◌, ℕ, zero, suc, ◌+◌, ◌-◌, ◌<◌, ◌≤◌, Bool, true, false, cond, ltb, ◌⊎◌, List, [], ◌∷◌, ◌++◌, length, get_or, take, drop, None, Ok, Err, Result, sym, refl, ap, ◌∙◌, inl, inr, ⊎_elim, append_assoc, arith}
use Rattle.std.specs.List.{flat_map}
use Rattle.std.proofs.lemmas.Bool.Decides.{nat_tests}
use Rattle.std.proofs.lemmas.Bool.{cases_lt, ltb-true, ltb-false}
use Rattle.std.proofs.lemmas.Simd.{chunk-drop}
use Rattle.std.proofs.lemmas.List.{length-take, length-drop, drop_more, drop_all, take-append-drop}
use Rattle.layout.specs.declared.fault.Fault.{Fault}
use Rattle.layout.specs.Elements.{Part, Walk, end, onward, walk_by, walk, element_at, wide, past, parts, part_octets, element_octets, size_octets, fault_in}
use Rattle.layout.proofs.Sizes.{size_small, size_wide}
use Rattle.layout.proofs.Steps.{past_place}

-- the octets of a list are bytes
abbrev pub Bytes : List ℕ → Type 0
Bytes m = (i : ℕ) → get_or m i 0 < 256

-- a value and what follows it
value_then : (m : List ℕ) (start len : ℕ) → take len (drop start m) ++ drop (start + len) m ≡ drop start m
value_then m start len = sym (chunk-drop start len m)

-- an octet and what follows it
octet_then : (m : List ℕ) (at : ℕ) → at < length m → get_or m at 0 ∷ drop (at + 1) m ≡ drop at m
octet_then m at h = sym (drop_more m at 0 h)

-- an element with a length of one octet, and one with a length of two
abbrev pub short_part : List ℕ → ℕ → Part
short_part m at = record { id = get_or m at 0; place = at; start = at + 2; value = take (get_or m (at + 1) 0) (drop (at + 2) m) }

abbrev pub long_part : List ℕ → ℕ → Part
long_part m at = record { id = get_or m at 0; place = at; start = at + 3; value = take (wide m (at + 1)) (drop (at + 3) m) }

pub record Short (m : List ℕ) (at : ℕ) (p : Part) : Type 0 where
  pub small : get_or m (at + 1) 0 < 128
  pub fits : at + 2 + get_or m (at + 1) 0 ≤ length m
  pub is : p ≡ short_part m at

pub record Long (m : List ℕ) (at : ℕ) (p : Part) : Type 0 where
  pub marked : 128 ≤ get_or m (at + 1) 0
  pub large : 128 ≤ wide m (at + 1)
  pub fits : at + 3 + wide m (at + 1) ≤ length m
  pub is : p ≡ long_part m at

pub ways : (m : List ℕ) (at : ℕ) (p : Part) → at < length m → element_at m at ≡ Ok p → Short m at p ⊎ Long m at p
ways m at p l h =
    ⊎_elim
    (λ s. inl (record { small = s; fits = grind (arith, nat_tests); is = grind (arith, nat_tests) }))
    (λ s. inr (record { marked = s; large = grind (arith, nat_tests); fits = grind (arith, nat_tests); is = grind (arith, nat_tests) }))
    (cases_lt (get_or m (at + 1) 0) 128)

-- the octets of an element whose length reads as these, and what follows
sized_then : (m : List ℕ) (id at start len : ℕ) (v size : List ℕ) → length v ≡ len → size_octets len ≡ size → v ≡ take len (drop start m) → id ∷ (size ++ drop start m) ≡ drop at m → element_octets id v ++ drop (start + length v) m ≡ drop at m
sized_then m id at start len v size l s e f = grind (arith, append_assoc, value_then)

taken_length : (m : List ℕ) (start len : ℕ) → start + len ≤ length m → length (take len (drop start m)) ≡ len
taken_length m start len h = grind (arith, length-take, length-drop)

two_then : (m : List ℕ) (at : ℕ) → at + 1 < length m → get_or m at 0 ∷ get_or m (at + 1) 0 ∷ drop (at + 2) m ≡ drop at m
two_then m at h = grind (arith, octet_then)

three_then : (m : List ℕ) (at : ℕ) → at + 2 < length m → get_or m at 0 ∷ get_or m (at + 1) 0 ∷ get_or m (at + 1 + 1) 0 ∷ drop (at + 3) m ≡ drop at m
three_then m at h = grind (arith, octet_then)

-- an element's octets and what follows it
pub element_then : (m : List ℕ) (at : ℕ) (p : Part) → Bytes m → at < length m → element_at m at ≡ Ok p → part_octets p ++ drop (past p) m ≡ drop at m
element_then m at p b l h =
    ⊎_elim
    (λ s. rw s.is (sized_then m (get_or m at 0) at (at + 2) (get_or m (at + 1) 0) _ (get_or m (at + 1) 0 ∷ []) (taken_length m (at + 2) (get_or m (at + 1) 0) s.fits) (size_small _ s.small) refl (two_then m at (omega (arith, s.fits)))))
    (λ s. rw s.is (sized_then m (get_or m at 0) at (at + 3) (wide m (at + 1)) _ (get_or m (at + 1) 0 ∷ get_or m (at + 1 + 1) 0 ∷ []) (taken_length m (at + 3) (wide m (at + 1)) s.fits) (size_wide _ _ (b (at + 1 + 1)) s.marked s.large) refl (three_then m at (omega (arith, s.fits, s.large)))))
    (ways m at p l h)

abbrev together : Walk → List ℕ
together w = flat_map part_octets (parts w)

onward_whole : (r : Result Part Fault) (f : Part → Walk) (xs : List ℕ) → fault_in (onward r f) ≡ None → ((p : Part) → r ≡ Ok p → fault_in (f p) ≡ None → part_octets p ++ together (f p) ≡ xs) → together (onward r f) ≡ xs
onward_whole (Ok p) f xs h g = g p refl h
onward_whole (Err x) f xs h g = absurd (grind arith)

cond_whole : (b : Bool) (w : Walk) (xs : List ℕ) → fault_in (cond b w end) ≡ None → (b ≡ true → fault_in w ≡ None → together w ≡ xs) → (b ≡ false → [] ≡ xs) → together (cond b w end) ≡ xs
cond_whole true w xs h g e = g refl h
cond_whole false w xs h g e = e refl

-- the elements from `at` on are the octets from there on
walk_by_whole : (k : ℕ) (m : List ℕ) (at : ℕ) → Bytes m → length m ≤ at + k → at ≤ length m → fault_in (walk_by k m at) ≡ None → together (walk_by k m at) ≡ drop at m
walk_by_whole zero m at b s l h = sym (drop_all at m (omega arith))
walk_by_whole (suc k) m at b s l h =
    cond_whole (ltb at (length m)) _ (drop at m) h
    (λ t g. onward_whole (element_at m at) _ (drop at m) g
    (λ p e f. let q = past_place m at p e in
    ap (λ (z : List ℕ). part_octets p ++ z) (walk_by_whole k m (past p) b (omega arith) (omega arith) f) ∙ element_then m at p b (ltb-true _ _ t) e))
    (λ t. sym (drop_all at m (ltb-false _ _ t)))

pub whole : (m : List ℕ) → Bytes m → 4 ≤ length m → fault_in (walk m 4) ≡ None → take 4 m ++ flat_map part_octets (parts (walk m 4)) ≡ m
unfolding walk
whole m b l h = ap (λ (z : List ℕ). take 4 m ++ z) (walk_by_whole (length m - 4) m 4 b (omega arith) l h) ∙ take-append-drop 4 m

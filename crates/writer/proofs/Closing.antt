-- A message that is closed: only its length indicator is written.
use Rattle.std.proofs.Common.{◌≡◌, ℕ, zero, suc, ◌+◌, ◌-◌, ◌*◌, ◌/◌, ◌%◌, ◌<◌, ◌≤◌, ltb, List, length, get_or, take, drop, None, refl, ◌∙◌, div-add-mod', arith, rules}
use Rattle.std.proofs.lemmas.Bool.Decides.{nat_tests}
use Rattle.std.proofs.lemmas.Grind.{common_steps}
use Rattle.std.proofs.lemmas.List.{places, same_lists}
use Rattle.writer.specs.Drafts.{Sound, Sendable, indicated}
use Rattle.layout.specs.Elements.{end, walk_by, walk, element_at, past, fault_in}
use Rattle.layout.specs.Layout.{apart_fault, indicator}
use Rattle.layout.proofs.Steps.{past_place, cond_same, onward_same}

-- two messages of one length with the same octets from `at` on
abbrev Alike : List ℕ → List ℕ → ℕ → Type 0
Alike m n at = (length m ≡ length n) × ((i : ℕ) → at ≤ i → drop i m ≡ drop i n)

octet_alike : (m n : List ℕ) (i : ℕ) → drop i m ≡ drop i n → get_or m i 0 ≡ get_or n i 0
octet_alike m n i e = grind (arith, common_steps)

element_alike : (m n : List ℕ) (at : ℕ) → Alike m n at → element_at m at ≡ element_at n at
element_alike m n at a = grind (arith, octet_alike, a.1)

walk_by_alike : (k : ℕ) (m n : List ℕ) (at : ℕ) → Alike m n at → walk_by k m at ≡ walk_by k n at
walk_by_alike zero m n at a = refl
walk_by_alike (suc k) m n at a =
    cond_same (ltb at (length m)) _ _ end
    (λ _. onward_same (element_at m at) _ _ (λ p h. let q = past_place m at p h in walk_by_alike k m n (past p) (a.0, (λ i g. a.1 i (omega arith)))))
    ∙ rw (element_alike m n at a, a.0)

walk_alike : (m n : List ℕ) (at : ℕ) → Alike m n at → walk m at ≡ walk n at
unfolding walk
walk_alike m n at a = walk_by_alike (length m - at) m n at a ∙ rw a.0

-- the length indicator stands before the elements
indicated_alike : (m : List ℕ) (n : ℕ) → n ≤ length m → Alike (take n (indicated m n)) (take n m) 4
indicated_alike m n h =
    (grind (arith, common_steps), (λ i g. same_lists _ _ (search (rules, places)) (λ k d l. grind (arith, places))))

pub closed_walk : (m : List ℕ) (n : ℕ) → n ≤ length m → walk (take n (indicated m n)) 4 ≡ walk (take n m) 4
closed_walk m n h = walk_alike _ _ 4 (indicated_alike m n h)

pub clear : (x : List ℕ) → 4 ≤ length x → length x ≤ 512 → indicator x + 2 ≡ length x → get_or x 2 0 < 2 → apart_fault x ≡ fault_in (walk x 4)
clear x l k i d = grind (arith, nat_tests)

pub closed_apart : (m : List ℕ) (n : ℕ) → Sound m n → apart_fault (take n (indicated m n)) ≡ None
closed_apart m n s =
    let a : (n - 2) / 256 * 256 + (n - 2) % 256 ≡ n - 2 = div-add-mod' (n - 2) 256 in
    let w = closed_walk m n (omega arith) in
    grind (arith, nat_tests, common_steps)

pub closed_sendable : (m : List ℕ) (n : ℕ) → Sound m n → Sendable (indicated m n) n
closed_sendable m n s = let a = closed_apart m n s in grind (arith, common_steps)

-- A message that grows by an element at its end.
use Rattle.std.proofs.Common.{◌≡◌, ℕ, zero, suc, ◌+◌, ◌<◌, ◌≤◌, ◌⊎◌, List, [], ◌∷◌, ◌++◌, length, take, drop, None, Ok, Err, Result, refl, inl, inr, ⊎_elim, div-add-mod', arith}
use Rattle.std.proofs.lemmas.Bool.Decides.{nat_tests}
use Rattle.std.proofs.lemmas.Bool.{cases_lt}
use Rattle.std.proofs.lemmas.Grind.{common_steps}
use Rattle.std.proofs.lemmas.List.{get_or_append_left, length-append}
use Rattle.layout.specs.declared.fault.Fault.{Fault}
use Rattle.layout.specs.Elements.{Part, Walk, end, bad, more, walk, element_at, past, parts, fault_in, element_octets}
use Rattle.writer.specs.Writing.{placed}
use Rattle.layout.proofs.Steps.{walk_end, walk_ok, walk_bad, past_place}

-- a part of the front of a list
front_part : (d xs : List ℕ) (start len : ℕ) → start + len ≤ length d → take len (drop start (d ++ xs)) ≡ take len (drop start d)
front_part d xs start len h = grind (arith, common_steps)

-- an element stays where it is when octets are added behind it
within : (d xs : List ℕ) (at : ℕ) (p : Part) → at < length d → element_at d at ≡ Ok p → element_at (d ++ xs) at ≡ Ok p
within d xs at p l h = grind (arith, nat_tests, length-append, get_or_append_left, front_part)

-- the element that was added at the end
at_end : (d v : List ℕ) (id : ℕ) → element_at (d ++ element_octets id v) (length d) ≡ Ok (placed (length d) id v)
at_end d v id = let e = div-add-mod' (length v) 256 in grind (arith, nat_tests, common_steps)

past_end : (d v : List ℕ) (id : ℕ) → length (d ++ element_octets id v) ≡ past (placed (length d) id v)
past_end d v id = grind (arith, common_steps)

-- a walk with one element more at its end
abbrev appended : Walk → Part → Walk
appended end p = more p end
appended (bad x) p = bad x
appended (more q w) p = more q (appended w p)

result_cases : (r : Result Part Fault) → ((p : Part) × (r ≡ Ok p)) ⊎ ((x : Fault) × (r ≡ Err x))
result_cases (Ok p) = inl (p, refl)
result_cases (Err x) = inr (x, refl)

grown_end : (d v : List ℕ) (id at : ℕ) → at ≡ length d → walk (d ++ element_octets id v) at ≡ appended (walk d at) (placed (length d) id v)
grown_end d v id at e =
    let n = past_end d v id in
    let w = walk_ok (d ++ element_octets id v) (length d) _ (omega arith) (at_end d v id) in
    grind (arith, walk_end)

grown_by : (k : ℕ) (d v : List ℕ) (id at : ℕ) → length d ≤ at + k → at ≤ length d → fault_in (walk d at) ≡ None → walk (d ++ element_octets id v) at ≡ appended (walk d at) (placed (length d) id v)
grown_by zero d v id at s l h = grown_end d v id at (omega arith)
grown_by (suc k) d v id at s l h =
    let n = past_end d v id in
    ⊎_elim
    (λ g. ⊎_elim
    (λ r. let q = past_place d at r.0 r.1 in
    let w = walk_ok d at r.0 g r.1 in
    let u = walk_ok (d ++ element_octets id v) at r.0 (omega arith) (within d (element_octets id v) at r.0 g r.1) in
    let i = grown_by k d v id (past r.0) (omega arith) (omega arith) (rw w at h) in
    cc)
    (λ r. let w = walk_bad d at r.0 g r.1 in absurd (grind arith))
    (result_cases (element_at d at)))
    (λ g. grown_end d v id at (omega arith))
    (cases_lt at (length d))

parts_appended : (w : Walk) (p : Part) → fault_in w ≡ None → parts (appended w p) ≡ parts w ++ p ∷ []
parts_appended end p h = refl
parts_appended (bad x) p h = absurd (grind arith)
parts_appended (more q w) p h = rw (parts_appended w p h)

fault_appended : (w : Walk) (p : Part) → fault_in (appended w p) ≡ fault_in w
fault_appended end p = refl
fault_appended (bad x) p = refl
fault_appended (more q w) p = fault_appended w p

-- an element behind a message whose elements are whole is one element more
pub record Grown (d : List ℕ) (id : ℕ) (v : List ℕ) : Type 0 where
  pub whole : fault_in (walk (d ++ element_octets id v) 4) ≡ None
  pub more : parts (walk (d ++ element_octets id v) 4) ≡ parts (walk d 4) ++ placed (length d) id v ∷ []

pub grown : (d v : List ℕ) (id : ℕ) → 4 ≤ length d → fault_in (walk d 4) ≡ None → Grown d id v
grown d v id l h =
    let g = grown_by (length d) d v id 4 (omega arith) l h in
    record { whole = grind (arith, fault_appended); more = grind (arith, parts_appended) }

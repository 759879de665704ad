-- The number, the place and the element of each refusal, and what an answer is that may be one.
use Rattle.std.specs.Prelude.{◌≡◌, ℕ, List, ◌++◌, Some, None, Option, Result, MatchResult, codes}
use Rattle.std.specs.Fmt.{decimal}
use Rattle.layout.specs.declared.fault.Fault.{Fault}
use Rattle.layout.specs.declared.fault.Fault.TheVariants.{Size, Indicator, Discriminator, Unheard, CutShort, Overlong, Missing, Malformed, OutOfBounds, WrongState, Excluded, NoPlace}

pub record Refusal : Type 0 where
  pub number : ℕ
  pub place : ℕ
  pub element : ℕ

abbrev plain : ℕ → ℕ → Refusal
plain n p = record { number = n; place = p; element = 0 }

abbrev at_element : ℕ → ℕ → ℕ → Refusal
at_element n p e = record { number = n; place = p; element = e }

abbrev pub refusal : Fault → Refusal
refusal Size = plain 1 0
refusal Indicator = plain 1 0
refusal Discriminator = plain 2 2
refusal Unheard = plain 2 3
refusal (CutShort p e) = at_element 3 p e
refusal (Overlong p e) = at_element 3 p e
refusal (Missing p e) = at_element 4 p e
refusal (Malformed p e) = at_element 5 p e
refusal OutOfBounds = plain 6 0
refusal WrongState = plain 7 0
refusal Excluded = plain 8 0
refusal NoPlace = plain 9 0

-- the element that a fault speaks of: its place and its identifier
abbrev pub spot : Fault → Option (ℕ × ℕ)
spot (CutShort p e) = Some (p, e)
spot (Overlong p e) = Some (p, e)
spot (Missing p e) = Some (p, e)
spot (Malformed p e) = Some (p, e)
spot _ = None

-- a refusal in words
abbrev pub words : Refusal → List ℕ
words r = codes "refused " ++ decimal r.number ++ codes " at " ++ decimal r.place ++ codes " element " ++ decimal r.element

-- a fault is refused with this number, at this place, for this element
abbrev pub Refuses : ℕ → ℕ → ℕ → Fault → Type 0
Refuses n p e f = refusal f ≡ at_element n p e

-- the answer where `fault` is the first fault, if there is one: that fault, or else a value of which P holds
abbrev pub Answers : {X : Type 0} → Option Fault → (X → Type 0) → Result X Fault → Type 0
Answers fault P r = MatchResult r (λ x. (fault ≡ None) × P x) (λ f. fault ≡ Some f)

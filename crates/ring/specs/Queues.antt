-- Putting and taking, as a list of messages in so many places sees them.
use Rattle.std.specs.Prelude.{◌≡◌, ℕ, ◌<◌, ◌≤◌, Bool, cond, ◌&&◌, List, [], ◌∷◌, ◌++◌, length, is_ok, IfErr, Result, MatchResult, nat_lt}
use Rattle.layout.specs.Faults.{Refuses}
use Rattle.layout.specs.declared.fault.Fault.{Fault}
use Rattle.carrier.specs.Carried.{sendable, why_not_put, first, others, written}
use Rattle.carrier.specs.declared.undone.Undone.{Undone}

-- octets are put if a place is free and they are few and many enough
abbrev pub admitted : List (List ℕ) → ℕ → List ℕ → Bool
admitted q n m = nat_lt (length q) n && sendable m

-- where they are put, they wait last
abbrev pub Puts : List (List ℕ) → ℕ → List ℕ → Result Unit Undone → List (List ℕ) → Type 0
Puts q n m r p =
    (is_ok r ≡ admitted q n m) × (IfErr r (λ e. e ≡ why_not_put (nat_lt (length q) n)) × (p ≡ cond (is_ok r) (q ++ m ∷ []) q))

-- a take, with the memory before and after
abbrev pub TakesFrom : List (List ℕ) → List ℕ → Result ℕ Fault → List (List ℕ) → List ℕ → Type 0
TakesFrom q m r p n =
    MatchResult r (λ k. (512 ≤ length m) × (k ≡ length (first q)) × (p ≡ others q) × (n ≡ written (first q) m))
    (λ f. (length m < 512) × Refuses 6 0 0 f × (p ≡ q) × (n ≡ m))

-- A message that is opened and written.
use Rattle.std.proofs.Common.{◌≡◌, ℕ, ◌+◌, ◌≤◌, true, List, [], ◌∷◌, ◌++◌, length, take, drop, Ok, Err, Result, refl, inr, arith, MatchResult}
use Rattle.std.proofs.lemmas.Bool.Decides.{nat_tests}
use Rattle.std.proofs.lemmas.Grind.{common_steps}
use Rattle.layout.specs.declared.fault.Fault.{Fault}
use Rattle.writer.specs.declared.writing.OpenMessage.{OpenMessage}
use Rattle.writer.specs.Drafts.{Sound, headed}
use Rattle.layout.specs.Faults.{Refuses}
use Rattle.layout.specs.Elements.{elements, element_octets}
use Rattle.writer.specs.Items.{Puts}
use Rattle.writer.specs.Octets.{over}
use Rattle.message.specs.Types.{discriminator_of}
use Rattle.values.specs.Forms.{formed}
use Rattle.writer.specs.Writing.{placed, open_memory, open_len, Added, Unfit, Unchanged}
use Rattle.writer.proofs.Grown.{grown}
use Rattle.layout.proofs.Steps.{walk_end}

pub opened_none : (m : List ℕ) (t : ℕ) → 512 ≤ length m → elements (take 4 (headed m t)) ≡ []
opened_none m t h = grind (arith, common_steps, walk_end)

pub opened_sound : (m : List ℕ) (t : ℕ) → 512 ≤ length m → Sound (headed m t) 4
opened_sound m t h = grind (arith, nat_tests, common_steps, walk_end)

pub opened_octets : (m : List ℕ) (t : ℕ) → 512 ≤ length m → drop 2 (take 4 (headed m t)) ≡ discriminator_of t ∷ t ∷ []
opened_octets [] t h = absurd (omega arith)
opened_octets (a ∷ []) t h = absurd (omega arith)
opened_octets (a ∷ b ∷ []) t h = absurd (omega arith)
opened_octets (a ∷ b ∷ c ∷ []) t h = absurd (omega arith)
opened_octets (a ∷ b ∷ c ∷ d ∷ m) t h = refl

-- the written octets, and behind them what was put
take-over : (m xs : List ℕ) (n : ℕ) → n ≤ length m → take (n + length xs) (over m n xs) ≡ take n m ++ xs
take-over m xs n h = grind (arith, common_steps)

pub record Put (m : List ℕ) (n id : ℕ) (v : List ℕ) : Type 0 where
  pub sound : Sound (over m n (element_octets id v)) (n + length (element_octets id v))
  pub octets : drop 2 (take (n + length (element_octets id v)) (over m n (element_octets id v))) ≡ drop 2 (take n m) ++ element_octets id v
  pub more : elements (take (n + length (element_octets id v)) (over m n (element_octets id v))) ≡ elements (take n m) ++ placed n id v ∷ []

-- an element that is put behind a sound message leaves it sound, with one element more
pub put : (m v : List ℕ) (n id : ℕ) → Sound m n → n + length (element_octets id v) ≤ 512 → Put m n id v
put m v n id s f =
    let t = take-over m (element_octets id v) n (omega arith) in
    let g = grown (take n m) v id (grind (arith, common_steps)) (grind arith) in
    record { sound = grind (arith, common_steps); octets = grind (arith, common_steps); more = grind (arith, common_steps) }

-- obeyed or refused, the message stays sound
pub left_sound : {X : Type 0} (r : Result X Fault) (m v xs m' : List ℕ) (n id n' : ℕ) → xs ≡ element_octets id v → Sound m n → Puts m n xs r m' n' → Sound m' n'
left_sound (Ok x) m v xs m' n id n' e s l = rw (l.2, l.1, e) (put m v n id s (rw e at l.0)).sound
left_sound (Err f) m v xs m' n id n' e s l = rw (l.3, l.2) s

-- an element that has its form is added, or there is no room for it
pub left_added : {X : Type 0} (r : Result X Fault) (o p : OpenMessage) (id : ℕ) (v xs : List ℕ) → xs ≡ element_octets id v → formed id v ≡ true → Puts (open_memory o) (open_len o) xs r (open_memory p) (open_len p) → MatchResult r (λ _. Added o id v p) (λ f. Refuses 6 0 0 f × Unfit o id v × Unchanged o p)
left_added (Ok x) o p id v xs e h l =
    let a = put (open_memory o) v (open_len o) id o.sound (rw e at l.0) in
    record {
      formed = h;
      fits = rw e at l.0;
      len = rw e at l.1;
      memory = rw e at l.2;
      octets = cc;
      elements = cc;
    }
left_added (Err f) o p id v xs e h l = (l.0, inr (rw e at l.1), record { len = l.2; memory = l.3 })

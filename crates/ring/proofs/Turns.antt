-- Places counted round, and messages in places.
use Rattle.std.proofs.Common.{◌≡◌, ℕ, zero, suc, ◌+◌, ◌*◌, ◌<◌, ◌≤◌, ◌⊎◌, List, ◌++◌, map, length, take, drop, sym, refl, ap, ◌∙◌, inl, inr, add-zero, add_assoc, div-add-mod', arith}
use borrow.Rule.Slice.PartMut.{put_mid}
use Rattle.std.specs.List.{range_with_len}
use Rattle.std.proofs.lemmas.List.{take_at, take-take, drop_at, drop-take, drop-drop, length-take-le}
use Rattle.std.proofs.lemmas.Slice.{take-put_mid_below, drop-put_mid}
use Rattle.std.proofs.lemmas.Bool.{cases_order}
use Rattle.std.proofs.lemmas.Bool.Decides.{nat_tests}
use Rattle.layout.specs.Layout.{counted}
use Rattle.writer.specs.Octets.{over}
use Rattle.ring.specs.Places.{place_from, size_in, message_in, around}

-- n places: where h + i is, that no two of the first n are one, and one further on
pub around_below : (n h i : ℕ) → h < n → i ≤ n → around n (h + i) < n
around_below n h i p q = grind (arith, nat_tests)

pub around_apart : (n h i c : ℕ) → h < n → c < n → i < c → around n (h + i) ≡ around n (h + c) → ⊥
around_apart n h i c p q r e = grind (arith, nat_tests)

pub around_next : (n h i : ℕ) → h < n → i < n → around n (around n (h + 1) + i) ≡ around n (h + (1 + i))
around_next n h i p q = grind (arith, nat_tests)

pub around_same : (n h : ℕ) → h < n → around n h ≡ h
around_same n h p = grind (arith, nat_tests)

-- two places of 514 octets
pub places_apart : (w t : ℕ) → (w ≡ t → ⊥) → (514 * w + 514 ≤ 514 * t) ⊎ (514 * t + 514 ≤ 514 * w)
places_apart w t ne =
    elim (cases_order w t) [ inl e ↦ absurd (ne e) | inr o ↦ elim o [ inl l ↦ inl (omega arith) | inr l ↦ inr (omega arith) ] ]

-- what is written at the front of a place is read there
pub size_written : (m z : List ℕ) → size_in (take 514 (counted m ++ z)) ≡ length m
size_written m z = div-add-mod' (length m) 256

pub message_written : (m z : List ℕ) → length m ≤ 512 → message_in (take 514 (counted m ++ z)) ≡ m
message_written m z h = rw (size_written m z) (take-take (length m) 512 _ h ∙ take_at m _ (length m) refl)

-- the place that is written over, and another
pub place_here : (a : ℕ) (o m : List ℕ) → a ≤ length m → place_from (over m a o) a ≡ take 514 (o ++ drop (a + length o) m)
place_here a o m h = ap (take 514) (drop_at (take a m) _ a (length-take-le a m h))

over_put : (a : ℕ) (o m : List ℕ) → over m a o ≡ put_mid a (length o) m o
over_put a o m = simp drop-drop refl

pub place_there : (a b : ℕ) (o m : List ℕ) → a ≤ length m → length o ≤ 514 → ((b + 514 ≤ a) ⊎ (a + 514 ≤ b)) → place_from (over m a o) b ≡ place_from m b
place_there a b o m h l (inl q) =
    sym (drop-take b 514 (over m a o)) ∙ ap (drop b) (ap (take (b + 514)) (over_put a o m) ∙ take-put_mid_below a (length o) m o (b + 514) q h) ∙ drop-take b 514 m
place_there a b o m h l (inr q) = ap (take 514) (ap (drop b) (over_put a o m) ∙ drop-put_mid a (length o) m o b (omega arith) h refl)

-- two lists made from functions of the index that agree
pub map_counting_alike : {X : Type 0} (f g : ℕ → X) (a b n : ℕ) → ((i : ℕ) → i < n → f (a + i) ≡ g (b + i)) → map f (range_with_len a n) ≡ map g (range_with_len b n)
map_counting_alike f g a b zero h = refl
map_counting_alike f g a b (suc n) h =
    let h0 : f a ≡ g b = simp add-zero at (h 0 (omega arith)) in
    let t : map f (range_with_len (a + 1) n) ≡ map g (range_with_len (b + 1) n) = map_counting_alike f g (a + 1) (b + 1) n (λ i l. simp add_assoc (h (1 + i) (omega arith))) in
    cc

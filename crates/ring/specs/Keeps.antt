-- What holds of every carrier holds over sound places. It stands here, since the law of carriers is proved by it.
use Rattle.std.proofs.Common.{◌≡◌, ℕ, ◌+◌, ◌<◌, Bool, true, List, [], map, length, get_or, is_some, refl, arith}
use Rattle.std.specs.List.{range_with_len}
use Rattle.std.proofs.lemmas.List.{length-take, length-drop}
use Rattle.std.proofs.lemmas.List.FromFn.{length-map-range_with_len, get_or-map-range_with_len}
use Rattle.std.proofs.lemmas.Bool.Decides.{nat_tests}
use Rattle.values.specs.Bounds.{Between}
use Rattle.carrier.specs.Carried.{Kept}
use Rattle.carrier.specs.Links.{gateway_of, link_of, carrying}
use Rattle.carrier.specs.declared.path.Path.{Path}
use Rattle.carrier.specs.declared.path.Path.TheVariants.{Down, Tunnel, Connected}
use Rattle.ring.specs.Places.{size_in, message_in, Filled, around, nth_place, queue, Sound}

tunnelled : (p : Path) → is_some (link_of p) ≡ true → is_some (gateway_of p) ≡ true
tunnelled Down e = e
tunnelled (Tunnel g) e = refl
tunnelled (Connected g c) e = refl

pub length-queue : (m : List ℕ) (n h c : ℕ) → length (queue m n h c) ≡ c
unfolding queue
length-queue m n h c = length-map-range_with_len (λ k. message_in (nth_place m n k)) h c

-- each message that waits has 4 to 512 octets
queue_sized : (m : List ℕ) (n h c : ℕ) → Sound m n h c → (i : ℕ) → i < length (queue m n h c) → Between 4 512 (length (get_or (queue m n h c) i []))
unfolding queue
queue_sized m n h c s i l =
    let f : ℕ → List ℕ = λ k. message_in (nth_place m n k) in
    let b : i < c = omega (arith, length-map-range_with_len f h c) in
    let p : Filled (nth_place m n (h + i)) = s.4 i b in
    let a : around n (h + i) < n = grind (arith, nat_tests) in
    let e : get_or (map f (range_with_len h c)) i [] ≡ f (h + i) = get_or-map-range_with_len f h c i (h + i) [] b refl in
    let z : length (f (h + i)) ≡ size_in (nth_place m n (h + i)) = simp (length-take, length-drop) (omega arith) in
    rw e (omega arith, omega arith)

pub kept_carrying : (p : Path) (m : List ℕ) (n h c k : ℕ) (a : List ℕ → Bool) → Sound m n h c → n ≡ k → Kept (carrying p (queue m n h c) k a)
kept_carrying p m n h c k a s e =
    let l = length-queue m n h c in
    record { tunnelled = tunnelled p; some_place = omega arith; in_place = omega arith; sized = queue_sized m n h c s }

-- What putting a message into a ring's places leaves, and what freeing the first place leaves.
use Rattle.std.proofs.Common.{◌≡◌, ℕ, zero, suc, ◌+◌, ◌-◌, ◌*◌, ◌<◌, ◌≤◌, List, [], ◌∷◌, ◌++◌, map, length, get_or, take, drop, sym, refl, ap, ◌∙◌, subst, add-zero, add_assoc, append_assoc, append-nil, arith, below_more}
use Rattle.std.specs.List.{range_with_len}
use Rattle.std.proofs.lemmas.List.{length-take, length-drop, length-append}
use Rattle.std.proofs.lemmas.List.FromFn.{map-range_with_len_more}
use Rattle.layout.specs.Layout.{counted}
use Rattle.values.specs.Bounds.{Between}
use Rattle.carrier.specs.Carried.{first, others}
use Rattle.writer.specs.Octets.{over}
use Rattle.ring.specs.Keeps.{length-queue}
use Rattle.ring.specs.Places.{place_from, message_in, Filled, around, nth_place, queue, Sound}
use Rattle.ring.proofs.Turns.{around_below, around_apart, around_next, around_same, places_apart, size_written, message_written, place_here, place_there, map_counting_alike}

pub queue_none : (m : List ℕ) (n h c : ℕ) → c ≡ 0 → queue m n h c ≡ []
unfolding queue
queue_none m n h c e = rw e

-- a message is put into place t, the first behind those that are used, with any octets behind it that fit there
module _ (m : List ℕ) (n h c t : ℕ) (msg o z : List ℕ) (s : Sound m n h c) (free : c < n) (size : Between 4 512 (length msg)) (te : t ≡ around n (h + c)) (oe : o ≡ counted msg ++ z) (fits : length o ≤ 514) where
  abbrev after : List ℕ
  after = over m (514 * t) o

  abbrev rest : List ℕ
  rest = z ++ drop (514 * t + length o) m

  within : 514 * t + 514 ≤ 514 * n
  within = let b : t < n = rw te (around_below n h c s.2 (omega arith)) in omega arith

  here : nth_place after n (h + c) ≡ take 514 (counted msg ++ rest)
  here =
      let w = within in
      subst (λ (u : ℕ). place_from after (514 * u) ≡ take 514 (counted msg ++ rest)) te
      (place_here (514 * t) o m (omega arith) ∙ ap (λ l. take 514 (l ++ drop (514 * t + length o) m)) oe ∙ ap (take 514) (append_assoc (counted msg) z _))

  there : (i : ℕ) → i < c → nth_place after n (h + i) ≡ nth_place m n (h + i)
  there i l =
      let w = within in
      place_there (514 * t) (514 * around n (h + i)) o m (omega arith) fits
      (places_apart (around n (h + i)) t (λ e. around_apart n h i c s.2 free l (e ∙ te)))

  filled_here : Filled (nth_place after n (h + c))
  filled_here = let e = size_written msg rest in rw here (omega arith, omega arith)

  pub Sound-put : Sound after n h (c + 1)
  Sound-put = (
    s.0,
    (let w = within in simp (length-append, length-take, length-drop) (omega arith)),
    s.2,
    omega arith,
    below_more (λ i. Filled (nth_place after n (h + i))) c (λ i l. subst Filled (sym (there i l)) (s.4 i l)) filled_here,
  )

  pub queue_put : queue after n h (c + 1) ≡ queue m n h c ++ msg ∷ []
  unfolding queue
  queue_put =
      let f : ℕ → List ℕ = λ i. message_in (nth_place m n i) in
      let g : ℕ → List ℕ = λ i. message_in (nth_place after n i) in
      let last : g (h + c) ≡ msg = ap message_in here ∙ message_written msg rest size.1 in
      let same : map g (range_with_len h c) ≡ map f (range_with_len h c) = map_counting_alike g f h h c (λ i l. ap message_in (there i l)) in
      let more : map g (range_with_len h (c + 1)) ≡ map g (range_with_len h c) ++ g (h + c) ∷ [] = map-range_with_len_more g h c (h + c) refl in
      rw (more, same, last)

-- the message alone
module _ (m : List ℕ) (n h c t : ℕ) (msg : List ℕ) (s : Sound m n h c) (free : c < n) (size : Between 4 512 (length msg)) (te : t ≡ around n (h + c)) where
  pub Sound-put_alone : Sound (over m (514 * t) (counted msg)) n h (c + 1)
  Sound-put_alone = Sound-put m n h c t msg (counted msg) [] s free size te (sym (append-nil (counted msg))) (omega arith)

  pub queue_put_alone : queue (over m (514 * t) (counted msg)) n h (c + 1) ≡ queue m n h c ++ msg ∷ []
  queue_put_alone = queue_put m n h c t msg (counted msg) [] s free size te (sym (append-nil (counted msg))) (omega arith)

-- the first message and those behind it
queue_split : (m : List ℕ) (n h c : ℕ) → 0 < c → queue m n h c ≡ message_in (nth_place m n h) ∷ map (λ k. message_in (nth_place m n k)) (range_with_len (h + 1) (c - 1))
unfolding queue
queue_split m n h zero l = absurd (omega arith)
queue_split m n h (suc d) l = let e : suc d - 1 ≡ d = omega arith in rw e

module _ (m : List ℕ) (n h c : ℕ) (s : Sound m n h c) (some : 0 < c) where
  part_is : take ((514 * h + 514) - 514 * h) (drop (514 * h) m) ≡ nth_place m n h
  part_is = let w : around n h ≡ h = around_same n h s.2 in let e : (514 * h + 514) - 514 * h ≡ 514 = omega arith in rw (w, e)

  pub first_filled : Filled (take ((514 * h + 514) - 514 * h) (drop (514 * h) m))
  first_filled = rw part_is (subst (λ (k : ℕ). Filled (nth_place m n k)) (add-zero h) (s.4 0 some))

  pub first_is : first (queue m n h c) ≡ message_in (take ((514 * h + 514) - 514 * h) (drop (514 * h) m))
  first_is = ap first (queue_split m n h c some) ∙ ap message_in (sym part_is)

  -- the first place is freed: h' is the next
  module _ (h' : ℕ) (he : h' ≡ around n (h + 1)) where
    next : (i : ℕ) → i < c - 1 → nth_place m n (h' + i) ≡ nth_place m n (h + (1 + i))
    next i l = rw he (ap (λ (k : ℕ). place_from m (514 * k)) (around_next n h i s.2 (omega arith)))

    pub Sound-freed : Sound m n h' (c - 1)
    Sound-freed =
        (s.0, s.1, rw he (around_below n h 1 s.2 s.0), omega arith, λ i l. subst Filled (sym (next i l)) (s.4 (1 + i) (omega arith)))

    pub queue_freed : queue m n h' (c - 1) ≡ others (queue m n h c)
    unfolding queue
    queue_freed =
        let f : ℕ → List ℕ = λ i. message_in (nth_place m n i) in
        let same : map f (range_with_len h' (c - 1)) ≡ map f (range_with_len (h + 1) (c - 1)) = map_counting_alike f f h' (h + 1) (c - 1) (λ i l. simp add_assoc (ap message_in (next i l))) in
        let w : map f (range_with_len h c) ≡ f h ∷ map f (range_with_len (h + 1) (c - 1)) = queue_split m n h c some in
        rw (w, same)

-- what the functions over places ask for: a queue's length, a message that is put, and one that is taken
pub ruleset queues = (length-queue, queue_none, queue_put_alone, first_is, queue_freed, length-take, length-drop)

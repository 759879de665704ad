-- Messages in places of 514 octets each: two for the length, the higher first, and 512 for the message. The places are used in
-- turn, the first again after the last.
use Rattle.std.specs.Prelude.{ℕ, ◌+◌, ◌-◌, ◌*◌, ◌<◌, ◌≤◌, cond, List, map, length, take, drop, nat_lt, slice_index}
use Rattle.std.specs.List.{range_with_len}
use Rattle.values.specs.Bounds.{Between}

-- the place that begins at an octet
abbrev pub place_from : List ℕ → ℕ → List ℕ
place_from m at = take 514 (drop at m)

-- the length that stands in a place, and the message
abbrev pub size_in : List ℕ → ℕ
size_in p = slice_index p 0 * 256 + slice_index p 1

abbrev pub message_in : List ℕ → List ℕ
message_in p = take (size_in p) (drop 2 p)

abbrev pub Filled : List ℕ → Type 0
Filled p = Between 4 512 (size_in p)

-- a place's number, counted on past the last of n
abbrev pub around : ℕ → ℕ → ℕ
around n k = cond (nat_lt k n) k (k - n)

abbrev pub nth_place : List ℕ → ℕ → ℕ → List ℕ
nth_place m n k = place_from m (514 * around n k)

-- the messages in c of n places, from place h on
unfoldable pub queue : List ℕ → ℕ → ℕ → ℕ → List (List ℕ)
queue m n h c = map (λ k. message_in (nth_place m n k)) (range_with_len h c)

-- the places lie in the memory, and those that are used hold messages
abbrev pub Sound : List ℕ → ℕ → ℕ → ℕ → Type 0
Sound m n h c =
    (1 ≤ n) × (514 * n ≤ length m) × (h < n) × (c ≤ n) × ((i : ℕ) → i < c → Filled (nth_place m n (h + i)))

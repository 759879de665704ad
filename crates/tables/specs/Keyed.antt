-- Lists of rows that are told apart by a key, a list of octets. The oldest row comes first.
use Rattle.std.specs.Prelude.{ℕ, Bool, cond, List, [], ◌∷◌, ◌++◌, length, drop, is_some, Some, None, Option, ◌≢◌, nat_lt, slice_set, AllPairs, find, position}
use Rattle.std.specs.List.{remove}
use Rattle.std.specs.Str.{bytes_eq}

-- no two keys are equal
abbrev pub Apart : List (List ℕ) → Type 0
Apart = AllPairs (λ a b. a ≢ b)

module _ {X : Type 0} where
  -- a row added last: of 16 rows, the oldest goes
  abbrev pub appended : X → List X → List X
  appended x xs = cond (nat_lt (length xs) 16) xs (drop 1 xs) ++ x ∷ []

  -- a row written over the one at its place, or added last where it has none
  abbrev pub put_at : Option ℕ → X → List X → List X
  put_at (Some i) x xs = slice_set xs i x
  put_at None x xs = appended x xs

  -- the list without the row at a place
  abbrev pub out_at : Option ℕ → List X → List X
  out_at (Some i) xs = remove xs i
  out_at None xs = xs

module _ {X : Type 0} (code : X → List ℕ) where
  -- whether a row has the key
  abbrev pub has_key : List ℕ → X → Bool
  has_key k x = bytes_eq (code x) k

  -- the place of the first row with the key
  abbrev pub place_of : List ℕ → List X → Option ℕ
  place_of k = position (has_key k)

  -- whether some row has the key
  abbrev pub has : List ℕ → List X → Bool
  has k xs = is_some (place_of k xs)

  -- the first row with the key
  abbrev pub looked_up : List ℕ → List X → Option X
  looked_up k = find (has_key k)

  -- a row put into a list: the one with its key is rewritten where it stands; otherwise it is added last
  abbrev pub put_in : X → List X → List X
  put_in x xs = put_at (place_of (code x) xs) x xs

  -- a row added to a list, unless its key is there
  abbrev pub add_in : X → List X → List X
  add_in x xs = cond (has (code x) xs) xs (appended x xs)

  -- the list without the first row with the key
  abbrev pub take_out : List ℕ → List X → List X
  take_out k xs = out_at (place_of k xs) xs

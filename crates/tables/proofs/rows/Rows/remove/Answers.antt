use Rattle.std.proofs.Common.{◌≡◌, ℕ, ◌+◌, ◌-◌, ◌<◌, ◌≤◌, List, length, take, drop, arith, rules}
use Rattle.std.specs.List.{copy_within, remove}
use Rattle.std.proofs.lemmas.List.{take-take, length-drop}
use Rattle.std.proofs.lemmas.List.Edits.{take-paste}
use Rattle.std.proofs.lemmas.Slice.{between_is}
use Rattle.tables.proofs.rows.Rows.remove.Goals as goal

closed_up : {X : Type 0} (xs : List X) (i n : ℕ) → i < n → n ≤ length xs → take (n - 1) (copy_within xs (i + 1) n i) ≡ remove (take n xs) i
closed_up xs i n h l =
    let size = length-drop (i + 1) xs in
    let front = take-paste xs i (drop (i + 1) xs) (n - (i + 1)) in
    grind (arith, take-take i n xs, between_is xs (i + 1) n)

pub returns : goal.returns
returns g c = search (rules, closed_up)

-- What a line is read as.
use Rattle.std.specs.Prelude.{◌≡◌, ℕ, ◌<◌, List, [], length, Option, Some, None, Result, Ok, Err, codes, vec_items}
use Rattle.std.specs.Global.{Vec}
use Rattle.text.specs.declared.LineError.{LineError}
use Rattle.text.specs.declared.LineError.TheVariants.{NotOctets, NoMemory}
use Rattle.text.specs.Hex.{octets_in}

-- what is said of a line: exactly one of the first three holds, where there is memory
abbrev pub Says : List ℕ → Result (Option (Vec ℕ)) LineError → Type 0
Says line (Ok None) = octets_in line ≡ Some []
Says line (Ok (Some v)) = (octets_in line ≡ Some (vec_items v)) × (0 < length (vec_items v))
Says line (Err NotOctets) = octets_in line ≡ None
Says line (Err (NoMemory e)) = Unit {0}

-- the text of an error
abbrev pub error_text : LineError → Option (List ℕ)
error_text NotOctets = Some (codes "not octets in hexadecimal")
error_text (NoMemory e) = Some (codes "no memory for the octets")

-- How long a timer may run.
use Rattle.std.specs.Prelude.{Bool, ◌&&◌, ℕ, if◌then◌else◌, nat_le, Result, Ok, Err, List, ◌++◌, codes, decimal}
use Rattle.timers.specs.declared.limit.TicksOutOfRange.{TicksOutOfRange}

-- the most ticks that a timer can be started with
abbrev pub longest : ℕ
longest = 65535

-- whether a timer can be started with n ticks
abbrev pub startable : ℕ → Bool
startable n = nat_le 1 n && nat_le n longest

-- the answer to a start with n ticks
abbrev pub checked : ℕ → Result (Unit {0}) TicksOutOfRange
checked n = if startable n then Ok tt else Err (record { ticks = n })

-- what is said of a start that is refused
abbrev pub refusal : TicksOutOfRange → List ℕ
refusal e = codes "a timer starts with 1 to " ++ decimal longest ++ codes " ticks, not " ++ decimal e.ticks

-- What a set of timers means: the ticks that each has left.
use Rattle.std.specs.Prelude.{Bool, ℕ, ◌-◌, ◌≤◌, ◌==◌}
use Rattle.timers.specs.declared.timer.Timer.{Timer}
use Rattle.timers.specs.declared.by_timer.ByTimer.{ByTimer}
use Rattle.timers.specs.ByTimers.{all_of, value_of, with_value, mapped, Each}
use Rattle.timers.specs.Limits.{longest}

-- the ticks left of each timer, 0 where it is off
abbrev pub Timed : Type 0
Timed = ByTimer ℕ

-- the ticks left of one timer
abbrev pub left_of : Timed → Timer → ℕ
left_of t k = value_of t k

-- one timer at n ticks, the others as they were
abbrev pub set_to : Timed → Timer → ℕ → Timed
set_to t k n = with_value t k n

-- every timer is off
abbrev pub off : Timed
off = all_of 0

-- one timer runs with n ticks left, the others are off
abbrev pub only : Timer → ℕ → Timed
only k n = set_to off k n

-- n ticks later: a timer that reached 0 is off, and stays off
abbrev pub passed : ℕ → Timed → Timed
passed n t = mapped (λ left. left - n) t

-- one tick later
abbrev pub ticked : Timed → Timed
ticked t = passed 1 t

-- the timers that reach 0 at the next tick: those with one tick left
abbrev pub ran_out : Timed → ByTimer Bool
ran_out t = mapped (λ left. left == 1) t

-- no timer has more ticks left than it can be started with
abbrev pub Kept : Timed → Type 0
Kept t = Each (λ left. left ≤ longest) t

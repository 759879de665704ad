-- Timers that are due at a moment of a clock with 32 bits.
use Rattle.std.specs.Prelude.{◌≡◌, ℕ, ◌+◌, ◌-◌, ◌%◌, ◌^◌, Bool, true, Some, None, Option}
use Rattle.timers.specs.declared.by_timer.ByTimer.{ByTimer}
use Rattle.timers.specs.ByTimers.{mapped, Each}
use Rattle.timers.specs.Limits.{startable}
use Rattle.timers.specs.Timed.{Timed}

-- the moment that is n ticks after another: the clock wraps
abbrev pub after : ℕ → ℕ → ℕ
after moment n = (moment + n) % 2 ^ 32

-- the ticks from one moment to another, across the wrap
abbrev pub ticks_between : ℕ → ℕ → ℕ
ticks_between clock moment = (moment + (2 ^ 32 - clock)) % 2 ^ 32

-- the ticks left of a timer by the moment that it is due at, 0 where it is off
abbrev pub ticks_to : ℕ → Option ℕ → ℕ
ticks_to clock None = 0
ticks_to clock (Some moment) = ticks_between clock moment

-- whether a timer is off, or its moment lies 1 to `longest` ticks ahead of the clock
abbrev pub is_ahead : ℕ → Option ℕ → Bool
is_ahead clock None = true
is_ahead clock (Some moment) = startable (ticks_between clock moment)

-- every running timer's moment does
abbrev pub AllAhead : ℕ → ByTimer (Option ℕ) → Type 0
AllAhead clock b = Each (λ due. is_ahead clock due ≡ true) b

-- the ticks left of each timer
abbrev pub awaited : ℕ → ByTimer (Option ℕ) → Timed
awaited clock b = mapped (ticks_to clock) b

-- The meanings of the two sets of timers.
use Rattle.std.specs.Prelude.{ℕ}
use Rattle.timer_sets.specs.declared.countdown.Countdown.{Countdown}
use Rattle.timer_sets.specs.declared.due_moments.DueMoments.{DueMoments}
use Rattle.timer_sets.specs.Moments.{awaited}
use Rattle.timers.specs.Timed.{Timed}

-- the ticks left in a countdown
abbrev pub of_countdown : Countdown → Timed
of_countdown c = c.left

-- the clock of due moments
abbrev pub clock_of : DueMoments → ℕ
clock_of m = m.clock

-- the ticks left until due moments
abbrev pub of_moments : DueMoments → Timed
of_moments m = awaited m.clock m.due

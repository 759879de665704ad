use Rattle.std.proofs.Common.{◌≡◌, take}
use Rattle.std.specs.List.{fold}
use Rattle.timers.specs.Timed.{set_to}
use Rattle.timers.proofs.acts.stop_all.Given as goal

abbrev pub invariant-loop-timer : goal.invariant-loop-timer
invariant-loop-timer g l =
    g.T.TimerSet.timed l.timers ≡ fold (λ t k. set_to t k 0) (g.T.TimerSet.timed l.initial.timers) (take l.timer-index l.timer-items)

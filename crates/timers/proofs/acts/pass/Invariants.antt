use mathlib.Core.Path.{◌≡◌}
use Rattle.timers.specs.Timed.{passed}
use Rattle.timers.proofs.acts.pass.Given as goal

abbrev pub invariant-loop : goal.invariant-loop
invariant-loop g l = g.T.TimerSet.timed l.timers ≡ passed l.counter (g.T.TimerSet.timed l.initial.timers)

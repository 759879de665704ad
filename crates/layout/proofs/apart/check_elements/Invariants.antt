use Rattle.std.proofs.Common.{◌≡◌}
use Rattle.layout.specs.Elements.{walk, ahead, fault_in}
use Rattle.layout.proofs.apart.check_elements.Given as goal

abbrev pub invariant-loop-step : goal.invariant-loop-step
invariant-loop-step l = fault_in (ahead l.step-iterator) ≡ fault_in (walk l.message 4)

use Rattle.std.proofs.Common.{◌≡◌, length}
use Rattle.interpreter.specs.Interpreter.{owes, state_of}
use Rattle.runs.proofs.Settling.{Settling}
use Rattle.station.proofs.feeding.settle.Given as goal

abbrev pub invariant-loop-action : goal.invariant-loop-action
invariant-loop-action g l =
    Settling g.M.Mechanism (owes l.initial.interpreter) l.initial.mechanism (owes l.interpreter) l.mechanism
    × (state_of l.interpreter ≡ state_of l.initial.interpreter)

abbrev pub decreases-loop-action : goal.decreases-loop-action
decreases-loop-action g l = length (owes l.interpreter)

use Rattle.std.proofs.Common.{◌-◌, ◌≤◌, length}
use Rattle.interpreter.specs.Interpreter.{owes, state_of}
use Rattle.runs.specs.Whole.{Passing}
use Rattle.station.proofs.whole.feed_whole.Given as goal

-- the feeds so far lead from the start to here
abbrev pub invariant-loop-outcome : goal.invariant-loop-outcome
invariant-loop-outcome g l =
    Passing g.M.Mechanism (owes l.initial.interpreter) (state_of l.initial.interpreter) l.initial.mechanism l.stream l.taken l.passed_over (owes l.interpreter) (state_of l.interpreter) l.mechanism
    × (l.passed_over ≤ l.taken)

abbrev pub decreases-loop-outcome : goal.decreases-loop-outcome
decreases-loop-outcome g l = length l.stream - l.taken

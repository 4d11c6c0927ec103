use Rattle.std.proofs.Common.{◌≡◌, []}
use Rattle.interpreter.specs.Interpreter.{owes, state_of}
use Rattle.runs.proofs.Courses.{Along}
use Rattle.station.proofs.feeding.feed.Given as goal

-- the bytes taken so far lead from the loop's start to here, with nothing owed
abbrev pub invariant-loop-index : goal.invariant-loop-index
invariant-loop-index g l =
    Along g.M.Mechanism (state_of l.initial.interpreter) l.initial.mechanism l.piece l.index (state_of l.interpreter) l.mechanism
    × (owes l.interpreter ≡ [])

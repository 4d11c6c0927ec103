use Rattle.std.proofs.Common.{◌≡◌, ◌++◌, length, vec_items}
use Rattle.interpreter.specs.Interpreter.{owes, state_of}
use Rattle.report.specs.Reports.{action_lines}
use Rattle.report.proofs.reporting.add_owed.Given as goal

-- the lines so far, and those of what is still owed, are all lines
abbrev pub invariant-loop-action : goal.invariant-loop-action
invariant-loop-action l =
    (vec_items l.lines ++ action_lines (owes l.interpreter) ≡ vec_items l.initial.lines ++ action_lines (owes l.initial.interpreter))
    × (state_of l.interpreter ≡ state_of l.initial.interpreter)

abbrev pub decreases-loop-action : goal.decreases-loop-action
decreases-loop-action l = length (owes l.interpreter)

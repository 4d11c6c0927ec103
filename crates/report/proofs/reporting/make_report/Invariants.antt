use Rattle.std.proofs.Common.{◌≡◌, [], take, vec_items}
use Rattle.interpreter.specs.Interpreter.{owes, state_of}
use Rattle.job.specs.Job.{run, new}
use Rattle.report.specs.Reports.{Reports}
use Rattle.report.proofs.reporting.make_report.Given as goal

-- the report of the bytes so far, and the interpreter behind them
abbrev pub invariant-loop-index : goal.invariant-loop-index
invariant-loop-index l =
    Reports (take l.index l.stream) (vec_items l.made.lines) (vec_items l.made.refused)
    × (state_of l.interpreter ≡ (run new (take l.index l.stream)).state) × (owes l.interpreter ≡ [])

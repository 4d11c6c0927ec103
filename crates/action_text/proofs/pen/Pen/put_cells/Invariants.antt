use Rattle.std.proofs.Common.{drop}
use Rattle.job.specs.Actions.{plain}
use Rattle.job.specs.NormalText.{cells_text}
use Rattle.action_text.proofs.Progress.{Progress}
use Rattle.action_text.proofs.pen.Pen.put_cells.Given as goal

-- what is left is the text of the columns from here on
abbrev pub invariant-loop-cell : goal.invariant-loop-cell
invariant-loop-cell l = Progress l.initial.self (cells_text plain l.cells) l.self (cells_text l.in_force (drop l.cell-index l.cells))

use Rattle.std.proofs.Common.{◌≡◌, drop}
use Rattle.job.specs.declared.cells.Cell.TheVariants.{Blank}
use Rattle.action.specs.Tests.{laid_behind}
use Rattle.action.proofs.columns.laid_out.Given as goal

abbrev pub invariant-loop-cell : goal.invariant-loop-cell
invariant-loop-cell l = laid_behind l.before (drop l.cell-index l.cells) ≡ laid_behind Blank l.cells

use Rattle.action.proofs.Rows.{Closed}
use Rattle.action.proofs.open_row.OpenRow.closed_cells.Given as goal

abbrev pub invariant-loop-i : goal.invariant-loop-i
invariant-loop-i l = Closed l.i l.columns l.cells

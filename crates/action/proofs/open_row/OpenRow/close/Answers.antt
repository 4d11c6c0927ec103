use Rattle.std.proofs.Common.{sym}
use Rattle.action.proofs.Rows.{closed_ok, closed_ordered}
use Rattle.action.proofs.open_row.OpenRow.close.Goals as goal

pub invariant_of-result : goal.invariant_of-result
invariant_of-result c = record { ok = closed_ok c.args.self.now _ c.closed_cells-cells.ensures (sym c.if-all_blank.ensures) }

pub returns-else-all_blank : goal.returns-else-all_blank
returns-else-all_blank c = closed_ordered c.args.self.now _ c.closed_cells-cells.ensures (sym c.if-all_blank.ensures)

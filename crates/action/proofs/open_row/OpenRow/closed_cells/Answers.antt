use Rattle.std.proofs.Common.{◌≤◌, length, map, ap, ◌∙◌, arith}
use Rattle.job.specs.Row.{closed_cell, padded}
use Rattle.action.proofs.Rows.{closed_more, closed_all, columns_length}
use Rattle.action.proofs.open_row.OpenRow.closed_cells.Goals as goal

pub loop-i-preserved : goal.loop-i-preserved
loop-i-preserved c =
    let r = c.args.self.now in
    let few : length c.as_slice-columns.result.now ≤ 48 = rw c.as_slice-columns.ensures (omega (arith, columns_length r, r.within)) in
    closed_more _ _ _ _ _ c.loop-i-test.true few c.loop-i.invariant c.closed.ensures

pub returns : goal.returns
returns c =
    let all = closed_all c.loop-i.i c.as_slice-columns.result.now c.loop-i.cells (omega (arith, c.loop-i-test.false, c.loop-i.auto.i-end)) c.loop-i.invariant in
    all ∙ ap (λ xs. padded (map closed_cell xs)) c.as_slice-columns.ensures

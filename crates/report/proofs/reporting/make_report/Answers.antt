use Rattle.report.proofs.Bytewise.{reports_more, state_more}
use Rattle.std.proofs.Common.{vec_items}
use Rattle.report.proofs.reporting.make_report.Goals as goal

pub loop-index-preserved : goal.loop-index-preserved
loop-index-preserved c =
    let s = c.args.stream.now in
    let i = c.loop-index.index in
    let p = c.loop-index.interpreter in
    let q = c.add_byte.new.interpreter in
    let old = c.loop-index.made in
    let new = c.add_byte.new.report in
    let added = c.in_ok-add_byte.ensures in (
      reports_more s i c.loop-index-test.true p q (vec_items old.lines) (vec_items new.lines) (vec_items old.refused) (vec_items new.refused) c.loop-index.invariant.0 c.loop-index.invariant.1 added,
      state_more s i c.loop-index-test.true p q (vec_items old.lines) (vec_items new.lines) (vec_items old.refused) (vec_items new.refused) c.loop-index.invariant.0 c.loop-index.invariant.1 added,
      added.nothing_owed,
    )

use Rattle.std.proofs.Common.{sym, arith}
use Rattle.runs.proofs.Passing.{passing_none}
use Rattle.station.proofs.Along.{within, passed_one, ended_so}
use Rattle.station.proofs.whole.feed_whole.Goals as goal

pub loop-outcome-init : goal.loop-outcome-init
loop-outcome-init g c = (passing_none g.M.Mechanism _ _ _ _, omega arith)

pub overflow_add-taken : goal.overflow_add-taken
overflow_add-taken g c =
    omega (
      arith,
      within g.M.Mechanism c.args.interpreter.now c.args.mechanism.now c.args.stream.now c.loop-outcome.taken c.loop-outcome.passed_over c.loop-outcome.interpreter c.loop-outcome.mechanism
          c.loop-outcome.invariant.0 c.feed-count.new.interpreter c.feed-count.new.mechanism c.feed-count.result.0 c.feed-count.result.1 c.feed-count.ensures.course,
    )

pub loop-outcome-preserved : goal.loop-outcome-preserved
loop-outcome-preserved g c =
    let one =
    passed_one g.M.Mechanism c.args.interpreter.now c.args.mechanism.now c.args.stream.now c.loop-outcome.taken c.loop-outcome.passed_over c.loop-outcome.interpreter c.loop-outcome.mechanism
    c.loop-outcome.invariant.0 c.feed-count.new.interpreter c.feed-count.new.mechanism c.feed-count.result.0 c.feed-count.result.1 c.feed-count.ensures.course (sym c.if-not-is_command.ensures) in
    (one.1, omega (arith, one.0, c.loop-outcome.invariant.1))

pub loop-outcome-smaller : goal.loop-outcome-smaller
loop-outcome-smaller g c =
    let one =
    passed_one g.M.Mechanism c.args.interpreter.now c.args.mechanism.now c.args.stream.now c.loop-outcome.taken c.loop-outcome.passed_over c.loop-outcome.interpreter c.loop-outcome.mechanism
    c.loop-outcome.invariant.0 c.feed-count.new.interpreter c.feed-count.new.mechanism c.feed-count.result.0 c.feed-count.result.1 c.feed-count.ensures.course (sym c.if-not-is_command.ensures) in
    omega (arith, one.0, one.1.within)

pub returns-then-not-is_command : goal.returns-then-not-is_command
returns-then-not-is_command g c =
    ended_so g.M.Mechanism c.args.interpreter.now c.args.mechanism.now c.args.stream.now c.loop-outcome.taken c.loop-outcome.passed_over c.loop-outcome.interpreter c.loop-outcome.mechanism
    c.loop-outcome.invariant.0 c.feed-count.new.interpreter c.feed-count.new.mechanism c.feed-count.result.0 c.feed-count.result.1 c.feed-count.ensures.course (sym c.if-not-is_command.ensures)

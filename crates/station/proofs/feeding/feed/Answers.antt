use Rattle.std.proofs.Common.{refl}
use Rattle.interpreter.specs.Interpreter.{state_of}
use Rattle.runs.proofs.Courses.{along_none}
use Rattle.runs.proofs.Standing.{feed_keeps}
use Rattle.station.proofs.Courses.{after_settling, stuck_at_once, byte_more, byte_ends, all_taken}
use Rattle.station.proofs.feeding.feed.Goals as goal

pub returns-in-Err : goal.returns-in-Err
returns-in-Err g c =
    let course = stuck_at_once g.M.Mechanism _ _ _ _ c.args.piece.now c.from.result c.in-Err.fault c.from.ensures c.in-Err.ensures in
    record { course = course; stands = feed_keeps g.M.Mechanism _ _ _ _ _ _ _ _ _ course }

pub loop-index-init : goal.loop-index-init
loop-index-init g c = (along_none g.M.Mechanism _ _ _ _ refl, c.in_default.ensures.settled.3)

pub returns-in-Err-feed_byte : goal.returns-in-Err-feed_byte
returns-in-Err-feed_byte g c =
    let m = g.M.Mechanism in
    let course =
    after_settling m c.args.interpreter.now c.settle.new.interpreter c.args.mechanism.now c.settle.new.mechanism c.args.piece.now _ c.in_default.ensures
    (byte_ends m (state_of c.settle.new.interpreter) c.settle.new.mechanism c.loop-index.mechanism c.args.piece.now c.loop-index.index c.loop-index.interpreter c.loop-index.invariant.0
    c.in-Err-feed_byte.fault c.feed_byte.new.interpreter c.feed_byte.new.mechanism c.loop-index-test.true c.in-Err-feed_byte.ensures) in
    record { course = course; stands = feed_keeps m _ _ _ _ _ _ _ _ _ course }

pub loop-index-preserved : goal.loop-index-preserved
loop-index-preserved g c =
    byte_more g.M.Mechanism (state_of c.settle.new.interpreter) c.settle.new.mechanism c.loop-index.mechanism c.args.piece.now c.loop-index.index c.loop-index.interpreter c.loop-index.invariant.0
    c.feed_byte.new.interpreter c.feed_byte.new.mechanism c.loop-index-test.true c.in_default-feed_byte.ensures

pub returns : goal.returns
returns g c =
    let m = g.M.Mechanism in
    let course =
    after_settling m c.args.interpreter.now c.settle.new.interpreter c.args.mechanism.now c.settle.new.mechanism c.args.piece.now _ c.in_default.ensures
    (all_taken m (state_of c.settle.new.interpreter) c.settle.new.mechanism c.loop-index.mechanism c.args.piece.now c.loop-index.index c.loop-index.interpreter c.loop-index.invariant.0
    c.loop-index-test.false c.loop-index.auto.index-end c.loop-index.invariant.1) in
    record { course = course; stands = feed_keeps m _ _ _ _ _ _ _ _ _ course }

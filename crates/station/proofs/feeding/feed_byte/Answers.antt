use Rattle.runs.specs.declared.fault.FeedFault.TheVariants.{Mechanism}
use Rattle.runs.proofs.Exits.{at_exit}
use Rattle.station.specs.Feeding.{FeedsByte}
use Rattle.station.proofs.feeding.feed_byte.Goals as goal

pub returns-in_err-settle : goal.returns-in_err-settle
returns-in_err-settle g c =
    let f = c.in_err-settle.field-0.0 in
    at_exit (λ r. FeedsByte g.M.Mechanism c.args.piece.now c.args.index c.args.interpreter.now c.args.mechanism.now r c.settle.new.interpreter c.settle.new.mechanism)
    c.from_residual-in_err-settle.result (Mechanism f) c.from_residual-in_err-settle.ensures.1
    (c.take_byte.new.interpreter, c.in_ok-take_byte.ensures, c.in_err-settle.ensures)

use Rattle.std.proofs.Common.{length, ap, arith}
use Rattle.action.proofs.Lawful.{lawful}
use Rattle.action_text.proofs.Sizes.{texts_fit}
use Rattle.action_text.proofs.writing.write_action.Goals as goal

pub put_action-requires : goal.put_action-requires
put_action-requires c =
    omega (arith, (texts_fit _ (lawful c.args.action.now)).within_need, c.need.ensures, c.if-out-need.false, c.new-pen.ensures.front, ap length c.new-pen.ensures.buffer)

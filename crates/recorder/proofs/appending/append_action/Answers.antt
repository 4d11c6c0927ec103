use Rattle.std.proofs.Common.{arith}
use Rattle.action.specs.Meanings.{act_of}
use Rattle.action.proofs.Lawful.{lawful}
use Rattle.mechanism.proofs.Appending.{lent}
use Rattle.recorder.proofs.appending.append_action.Goals as goal

pub returns : goal.returns
returns g c =
    let a = act_of c.args.action.now in
    let sized = g.F.Form.laws.sized c.args.advance a (lawful c.args.action.now) in
    let within_need = g.F.Form.laws.within_need a (lawful c.args.action.now) in
    lent c.args.out.now c.args.len (g.F.Form.bytes c.args.advance a) c.in-Some.length c.write.new.out
    (omega (arith, sized, within_need, c.requires.within, c.requires.room)) c.in-Some.ensures.1

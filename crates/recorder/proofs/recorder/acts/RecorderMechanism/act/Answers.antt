use Rattle.std.proofs.Common.{◌++◌, refl, arith}
use Rattle.action.specs.Meanings.{act_of}
use Rattle.action.proofs.Lawful.{lawful}
use Rattle.recorder.proofs.recorder.acts.RecorderMechanism.act.Goals as goal

pub returns : goal.returns
returns g c =
    let a = act_of c.args.action.now in
    let sized = g.F.Form.laws.sized c.args.self.now.counts.advance a (lawful c.args.action.now) in
    let within_need = g.F.Form.laws.within_need a (lawful c.args.action.now) in
    let free = c.in_ok-admit.ensures in (
      (free.0, omega (arith, c.need.ensures, c.reserve.ensures, free.1)),
      record {
        sheet_moves = λ i. c.add.ensures i ++ c.append_action-self.ensures.front i;
        reserve_falls = omega (arith, c.append_action-self.ensures.ends, c.append_action-self.auto.out, sized, within_need, c.need.ensures, c.reserve.ensures, free.1);
        within_need = within_need;
        mark_stays = refl;
        writes = c.append_action-self.ensures;
        same_length = c.append_action-self.auto.out;
        same_buffer = refl;
      },
    )

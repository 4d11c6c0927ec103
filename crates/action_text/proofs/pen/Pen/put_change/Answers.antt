use Rattle.action_text.proofs.Progress.{next, spelt}
use Rattle.action_text.proofs.Columns.{changes}
use Rattle.action_text.proofs.pen.Pen.put_change.Goals as goal

pub returns : goal.returns
returns c =
    spelt
    (changes c.args.from c.args.to _ _ _ _ c.mode_bits.ensures c.mode_bits-2.ensures c.from.ensures c.from-2.ensures)
    (next c.put_switch.ensures c.put_switch-2.ensures)

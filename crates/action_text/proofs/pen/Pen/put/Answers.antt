use Rattle.std.proofs.Common.{◌+◌, length, refl, ap, arith}
use Rattle.mechanism.proofs.Appending.{placed, placed_length}
use Rattle.action_text.proofs.pen.Pen.put.Goals as goal

pub returns : goal.returns
returns c =
    let pen = c.args.self.now in
    let end = pen.at + length c.args.bytes.now in
    record {
      writes = placed pen.out.now pen.at end c.copy_from_slice.new.self c.args.bytes.now c.copy_from_slice.ensures.after refl (omega (arith, pen.within));
      same_length = placed_length pen.out.now pen.at end c.copy_from_slice.new.self (omega (arith, ap length c.copy_from_slice.ensures.after)) (omega (arith, pen.within));
      same_buffer = refl;
    }

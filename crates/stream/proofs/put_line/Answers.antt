use Rattle.std.proofs.Common.{◌+◌, ◌*◌, ◌++◌, ℕ, List, length, drop, ap, ◌∙◌, arith}
use Rattle.stream.specs.Lines.{line_text}
use Rattle.stream.proofs.Placed.{line_laid}
use Rattle.stream.proofs.put_line.Goals as goal

pub returns-clause-after : goal.returns-clause-after
returns-clause-after c =
    let out = c.args.out.now in
    let bytes = c.bytes-bytes.result.now in
    let rest : List ℕ = drop (7 + 3 * length bytes + 1) out in
    line_laid out c.copy_from_slice.new.self c.put_hex.new.out bytes c.args.place c.letter.result (c.copy_from_slice.ensures.after ∙ c.head.ensures) c.put_hex.ensures
    (omega (arith, c.requires, ap length c.bytes-bytes.ensures))
    ∙ (λ i. line_text c.args.place (c.letter.ensures i) (c.bytes-bytes.ensures i) ++ rest)

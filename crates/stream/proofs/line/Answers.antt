use Rattle.std.proofs.Common.{arith}
use Rattle.stream.specs.Answers.{part_of}
use Rattle.stream.specs.Parts.{letter}
use Rattle.stream.proofs.Placed.{line_length}
use Rattle.stream.proofs.line.Goals as goal

pub returns-clause-fits : goal.returns-clause-fits
returns-clause-fits c =
    let sized = rw c.in-Some.is at c.in_ok-found.ensures.within in
    let part = part_of c.in-Some.token in
    omega (arith, c.put_line.ensures.len, line_length c.args.place (letter part.kind) part.bytes, sized.0.1)

use Rattle.std.proofs.Common.{◌∙◌, ap}
use Rattle.std.proofs.lemmas.List.{take_rest}
use Rattle.stream.specs.Answers.{part_of}
use Rattle.stream.specs.Parts.{part}
use Rattle.stream.proofs.Answered.{some_within}
use Rattle.stream.proofs.token.Goals as goal

pub returns-clause-within : goal.returns-clause-within
returns-clause-within c =
    some_within c.args.stream.now c.args.place (part_of c.first_part.result) c.if-place-stream.false
    (c.first_part.ensures ∙ ap part (take_rest c.args.stream.now c.args.place))

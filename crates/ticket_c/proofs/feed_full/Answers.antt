use Rattle.std.proofs.Common.{◌<◌, ◌∙◌, arith}
use Rattle.std.proofs.ByRecursion.{All-from_get_or}
use Rattle.job.specs.Laws.{Bytes}
use Rattle.ticket_c.proofs.Fed.{fed_whole}
use Rattle.ticket_c.proofs.feed_full.Goals as goal

pub returns-clause-counts : goal.returns-clause-counts
returns-clause-counts c =
    let bytes : Bytes c.args.stream.now = All-from_get_or (λ b. b < 256) c.args.stream.now 0 (λ i h. omega (arith, c.type_inv.stream i)) in
    c.counts.ensures
    ∙ (fed_whole _ _ _ _ _ _ _ _ _ _ c.new-plate.ensures.counts c.new-plate.ensures.at_work bytes c.new-interpreter.ensures.owed c.new-interpreter.ensures.state c.feed_whole-fed.ensures).0

pub returns-clause-passed : goal.returns-clause-passed
returns-clause-passed c =
    let bytes : Bytes c.args.stream.now = All-from_get_or (λ b. b < 256) c.args.stream.now 0 (λ i h. omega (arith, c.type_inv.stream i)) in
    (fed_whole _ _ _ _ _ _ _ _ _ _ c.new-plate.ensures.counts c.new-plate.ensures.at_work bytes c.new-interpreter.ensures.owed c.new-interpreter.ensures.state c.feed_whole-fed.ensures).1

use Rattle.std.proofs.Common.{◌<◌, arith, rules}
use Rattle.std.proofs.ByRecursion.{All-from_get_or}
use Rattle.job.specs.Laws.{Bytes}
use Rattle.normal.proofs.Normal.{answers}
use Rattle.normal.proofs.Run.{stands_behind}
use Rattle.normal.proofs.normalise.normalise.Goals as goal

pub returns : goal.returns
returns c =
    let bytes : Bytes c.args.stream.now = All-from_get_or (λ b. b < 256) c.args.stream.now 0 (λ i h. omega (arith, c.type_inv.stream i)) in
    let fed = c.write_text-passed_over.result in
    record {
      writes =
          answers c.args.out.now c.args.stream.now c.new-writer.result c.write_text-passed_over.new.writer c.len.result fed.0 fed.1
          c.new-writer.ensures.begins bytes c.write_text-passed_over.ensures c.len.ensures (search rules);
      stands =
          stands_behind c.args.out.now c.args.stream.now c.new-writer.result c.write_text-passed_over.new.writer c.len.result fed.0 fed.1
          c.new-writer.ensures.begins c.write_text-passed_over.ensures c.len.ensures (search rules);
    }

use Rattle.std.proofs.Common.{vec_items, sym, ◌∙◌}
use Rattle.hexadecimal.specs.Digits.{decoded}
use Rattle.hexadecimal.proofs.Decoded.{one_more}
use Rattle.hexadecimal.proofs.decode.Goals as goal

pub loop-rest-preserved : goal.loop-rest-preserved
loop-rest-preserved c =
    one_more c.loop-rest.rest.now (vec_items c.loop-rest.bytes) (vec_items c.push.new.self) c.in_ok-ok_or.field-0 (decoded c.args.text.now)
    (sym c.in_ok-ok_or.ensures.ok_part ∙ c.byte.ensures) c.loop-rest.invariant c.in_ok-push.ensures.items

use Rattle.std.proofs.Common.{◌+◌, drop, Some, None, Ok, Err, sym, ap, ◌∙◌, arith, length-drop}
use Rattle.std.proofs.lemmas.List.{take_rest}
use Rattle.stream.specs.Kind as kind
use Rattle.stream.specs.Parts.{extent}
use Rattle.stream.proofs.Agree.{ended, turn}
use Rattle.stream.proofs.command.Goals as goal

pub returns-in-Ok-None : goal.returns-in-Ok-None
returns-in-Ok-None c =
    ended c.args.s.now _ c.loop-i.i c.loop-i.awaited kind.Command (Ok None) _ (ap (extent kind.Command) (omega arith)) (take_rest c.args.s.now 1)
    (omega (arith, length-drop 1 c.args.s.now)) (ap Ok (sym c.in-Ok-None.field-0-is) ∙ c.in-Ok-None.ensures) c.loop-i.invariant

pub returns-in-Err : goal.returns-in-Err
returns-in-Err c =
    ended c.args.s.now _ c.loop-i.i c.loop-i.awaited kind.Refused (Err c.in-Err.field-0) _ (ap (extent kind.Refused) (omega arith)) (take_rest c.args.s.now 1)
    (omega (arith, length-drop 1 c.args.s.now)) c.in-Err.ensures c.loop-i.invariant

pub loop-i-preserved : goal.loop-i-preserved
loop-i-preserved c =
    turn (drop 1 c.args.s.now) _ c.loop-i.i (c.loop-i.i + 1) c.loop-i.awaited (Ok (Some c.in-Ok-Some.next)) (take_rest c.args.s.now 1)
    (omega (arith, length-drop 1 c.args.s.now)) (ap Ok (sym c.in-Ok-Some.field-0-is) ∙ c.in-Ok-Some.ensures)
    ∙ c.loop-i.invariant

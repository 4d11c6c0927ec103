use Rattle.std.proofs.Common.{sym, ap, ◌∙◌, append_assoc, arith}
use Rattle.job.specs.Printer.{Printer, Settings, change_paper}
use Rattle.job.specs.Lines.{next_line}
use Rattle.printer.specs.Printer.{printer_of}
use Rattle.printer.proofs.Feeds.{feeds_acts, feeds_more, feeds_space}
use Rattle.printer.proofs.Printer.close_and_feed.Goals as goal

pub loop-turn-preserved : goal.loop-turn-preserved
loop-turn-preserved c =
    let b : Printer = printer_of c.loop-turn.self in
    ap (λ (s : Settings). let q : Printer = record { settings = s; row = b.row } in q) c.next_line.ensures
    ∙ ap (change_paper next_line) c.loop-turn.invariant
    ∙ sym (feeds_more c.loop-turn._turn (printer_of c.args.self.now))

pub returns-clause-acts : goal.returns-clause-acts
returns-clause-acts c =
    let p : Printer = printer_of c.args.self.now in
    grind (arith, append_assoc, feeds_space c.loop-turn._turn p, feeds_acts c.args.count p)

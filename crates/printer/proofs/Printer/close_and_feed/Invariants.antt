use Rattle.std.proofs.Common.{◌≡◌}
use Rattle.job.specs.Printer.{emptied}
use Rattle.job.specs.Effects.{times}
use Rattle.job.specs.Lines.{feed_line}
use Rattle.printer.specs.Printer.{printer_of}
use Rattle.printer.proofs.Printer.close_and_feed.Given as goal

abbrev pub invariant-loop-turn : goal.invariant-loop-turn
invariant-loop-turn l = printer_of l.self ≡ (times l._turn feed_line (emptied (printer_of l.fn.self))).printer

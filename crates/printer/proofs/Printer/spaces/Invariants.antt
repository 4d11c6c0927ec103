use Rattle.action.specs.Meanings.{row_acts}
use Rattle.printer.specs.Printer.{printer_of}
use Rattle.printer.proofs.Wraps.{Spaced}
use Rattle.printer.proofs.Printer.spaces.Given as goal

abbrev pub invariant-loop-turn : goal.invariant-loop-turn
invariant-loop-turn l = Spaced l._turn (printer_of l.initial.self) (printer_of l.self) (row_acts l.row) l.feeds

use Rattle.action.specs.Meanings.{row_acts}
use Rattle.printer.specs.Printer.{printer_of}
use Rattle.printer.proofs.Wraps.{spaced_more}
use Rattle.printer.proofs.Printer.spaces.Goals as goal

pub loop-turn-preserved : goal.loop-turn-preserved
loop-turn-preserved c =
    spaced_more c.loop-turn._turn (printer_of c.args.self.now) (printer_of c.loop-turn.self) (printer_of c.put_space-feeds.new.self)
    (row_acts c.loop-turn.row) (row_acts c.put_space-feeds.new.row) c.loop-turn.feeds c.put_space-feeds.result c.loop-turn.invariant c.put_space-feeds.ensures

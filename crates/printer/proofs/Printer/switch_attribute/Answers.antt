use Rattle.std.proofs.Common.{rules, sym}
use Rattle.printer.proofs.Printer.switch_attribute.Goals as goal

pub returns : goal.returns
returns g c = rw (sym c.in_ok-on.ensures.1) (c.in_ok-on.ensures.0, _, _, c.attributes-attributes.ensures, c.set.ensures, search rules)

use Rattle.std.proofs.Common.{sym, ◌∙◌, rules, tests}
use Rattle.std.proofs.lemmas.Iterator.{YieldsList-from_slice}
use Rattle.std.proofs.lemmas.Iterator.Search.{all_from_yields_List}
use Rattle.reading.specs.Tests.{between}
use Rattle.job.proofs.Every.{every_all}
use Rattle.settings.proofs.stops.reach.Goals as goal

pub returns : goal.returns
returns c =
    all_from_yields_List (between 1 c.args.most) _ _ c.all.result c.all.ensures.ran (YieldsList-from_slice c.args.stops.now cc) (λ x b q k. search (rules, tests))
    ∙ sym (every_all (between 1 c.args.most) c.args.stops.now)

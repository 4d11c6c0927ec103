use Rattle.std.proofs.Common.{sym, ◌∙◌, rules, tests}
use Rattle.std.proofs.lemmas.Iterator.{YieldsList-from_slice}
use Rattle.std.proofs.lemmas.Iterator.Search.{all_from_yields_List}
use Rattle.job.specs.Row.{is_blank}
use Rattle.job.proofs.Every.{every_all}
use Rattle.action.proofs.columns.all_blank.Goals as goal

pub returns : goal.returns
returns c =
    all_from_yields_List is_blank _ _ c.all.result c.all.ensures.ran (YieldsList-from_slice c.args.cells.now cc) (λ x b q k. search (rules, tests))
    ∙ sym (every_all is_blank c.args.cells.now)

use Rattle.std.proofs.Common.{◌≡◌, ◌-◌, length, take, ap, ◌∙◌, rules}
use Rattle.std.proofs.lemmas.Iterator.Adapters.{YieldsList-from_rev_slice}
use Rattle.std.proofs.lemmas.Iterator.Consumers.{count_from_yields_List}
use Rattle.std.proofs.lemmas.Iterator.Search.{YieldsList-from_take_while}
use Rattle.std.proofs.lemmas.List.Folds.{length-prefix_len}
use Rattle.std.specs.List.{suffix_len}
use mathlib.Core.List.{reverse}
use Rattle.job.specs.Row.{is_blank}
use Rattle.action_text.proofs.Columns.{trimmed}
use Rattle.action_text.proofs.row_text.columns_used.Goals as goal

pub returns-clause-value : goal.returns-clause-value
returns-clause-value c =
    let cells = c.args.cells.now in
    let count =
    count_from_yields_List c.take_while.result c.count.result c.count.ensures.ran
    (YieldsList-from_take_while _ is_blank (YieldsList-from_rev_slice cells cc) c.take_while.ensures.closure c.take_while.ensures.done (λ x b q k. search rules)) in
    let blank : c.count.result ≡ suffix_len is_blank cells = count ∙ length-prefix_len is_blank (reverse cells) in
    ap (λ n. take (length cells - n) cells) blank ∙ trimmed cells

use Rattle.std.proofs.Common.{ℕ, Some, List, ltb, sym, ◌∙◌, rules, tests}
use Rattle.std.proofs.lemmas.Iterator.{YieldsList-from_slice, YieldsList-from_zip}
use Rattle.std.proofs.lemmas.Iterator.Adapters.{YieldsList-from_once}
use Rattle.std.proofs.lemmas.Iterator.Consumers.{YieldsList-from_chain, YieldsList-from_copied}
use Rattle.std.proofs.lemmas.Iterator.Search.{all_from_yields_List}
use Rattle.settings.proofs.Lists.{rising_pairs}
use Rattle.settings.proofs.stops.rise.Goals as goal

pub returns : goal.returns
returns c =
    let xs : List ℕ = c.args.stops.now in
    all_from_yields_List (λ p. ltb p.0 p.1) c.all.new.self _ c.all.result c.all.ensures.ran
    (YieldsList-from_zip (YieldsList-from_chain (YieldsList-from_once (Some 0) cc) (YieldsList-from_copied (YieldsList-from_slice xs cc)) (cc) (cc)) (YieldsList-from_slice xs cc))
    (λ x b q k. search (rules, tests))
    ∙ sym (rising_pairs 0 xs)

use Rattle.std.proofs.Common.{◌+◌, ltb, rules, tests}
use Rattle.std.proofs.lemmas.Iterator.{YieldsList-from_slice, YieldsList-from_map}
use Rattle.std.proofs.lemmas.Iterator.Search.{find_from_yields_List}
use Rattle.short.specs.Short.{listed}
use Rattle.settings.proofs.Lists.{first_place}
use Rattle.settings.proofs.stops.Stops.first_beyond.Goals as goal

pub returns : goal.returns
returns g c =
    first_place c.args.origin c.args.limit (listed c.args.self.now.places) c.find.result
    (find_from_yields_List (λ k. ltb c.args.limit k) _ _ c.find.result c.find.ensures.ran
    (YieldsList-from_map _ (λ x. c.args.origin + x) {f = c.map.result.f} (YieldsList-from_slice (listed c.args.self.now.places) cc) (cc) (λ x r q k. search (rules, tests)))
    (λ x b q k. search (rules, tests)))

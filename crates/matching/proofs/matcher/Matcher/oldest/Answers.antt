use Rattle.std.proofs.Common.{sym, ◌∙◌, rules}
use Rattle.std.proofs.lemmas.Iterator.{YieldsList-from_slice}
use Rattle.std.proofs.lemmas.Iterator.Consumers.{YieldsList-at, YieldsList-from_enumerate, YieldsList-from_filter_map}
use Rattle.matching.specs.Market.{market_of}
use Rattle.matching.specs.Sweeps.{pair_at}
use Rattle.matching.proofs.Reductions.{least}
use Rattle.matching.proofs.Scans.{reduces}
use Rattle.matching.proofs.Pairing.{stamp, oldest_scans, oldest_within}
use Rattle.matching.proofs.matcher.Matcher.oldest.Goals as goal

pub returns-clause-value : goal.returns-clause-value
returns-clause-value g c =
    let m = market_of g.T.Terms.deals g.P.Priority.before c.args.self.now in
    let rows = c.args.places.now in
    least stamp _ _ (λ x n q k. search rules) c.min_by_key.result c.min_by_key.ensures.ran
    (YieldsList-from_filter_map _ (λ p. pair_at m rows p.0 p.1)
    (YieldsList-at c.filter_map.ensures.source (YieldsList-from_enumerate (YieldsList-at c.enumerate.ensures.source (YieldsList-from_slice rows cc)) c.enumerate.ensures.count))
    c.filter_map.ensures.closure (λ x r q k. search rules))
    ∙ sym (reduces (oldest_scans m rows) rows)

pub returns-clause-within : goal.returns-clause-within
returns-clause-within g c = oldest_within (market_of g.T.Terms.deals g.P.Priority.before c.args.self.now) c.args.places.now _ (returns-clause-value g c)

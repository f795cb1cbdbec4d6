use Rattle.std.proofs.Common.{◌-◌, ◌∙◌, rules}
use Rattle.std.proofs.lemmas.Iterator.{YieldsList-from_slice}
use Rattle.std.proofs.lemmas.Iterator.Consumers.{fold_from_yields_List}
use Rattle.orders.specs.Rows.{order_of}
use Rattle.matching.specs.Market.{market_of}
use Rattle.matching.specs.Sums.{counted, weighed}
use Rattle.matching.proofs.Scans.{fold_lacks}
use Rattle.matching.proofs.matcher.Matcher.lacking.Goals as goal

pub returns : goal.returns
returns g c =
    let g = counted (market_of g.T.Terms.deals g.P.Priority.before c.args.self.now) c.args.active.now in
    fold_from_yields_List _ (λ lack r. lack - weighed g (order_of r)) _ _ c.fold.ensures.ran (YieldsList-from_slice c.args.places.now cc) (λ lack r x q k. search rules)
    ∙ fold_lacks g c.args.shares c.args.places.now

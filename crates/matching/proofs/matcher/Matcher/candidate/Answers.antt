use Rattle.std.proofs.Common.{sym}
use Rattle.matching.specs.Market.{market_of}
use Rattle.matching.proofs.PassedOver.{passed_none}
use Rattle.matching.proofs.matcher.Matcher.candidate.Goals as goal

pub returns-then-passed_over : goal.returns-then-passed_over
returns-then-passed_over g c =
    let m = c.args.self.now in
    sym (passed_none (market_of g.T.Terms.deals g.P.Priority.before m) (λ a r. g.met.T.Terms.opposite_sides m.terms a r m.quote m.lot)
    c.args.active.now c.args.place c.args.row.now (sym c.if-passed_over.ensures))

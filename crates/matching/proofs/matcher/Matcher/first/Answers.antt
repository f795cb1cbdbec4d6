use Rattle.std.proofs.Common.{◌≡◌, ℕ, Bool, true, false, not, None, refl, sym, ap, ◌∙◌, rules}
use Rattle.std.specs.List.{reduce, enumerate_from}
use Rattle.orders.specs.declared.row.Row.{Row}
use Rattle.std.proofs.lemmas.Iterator.{YieldsList-from_slice}
use Rattle.std.proofs.lemmas.Iterator.Consumers.{YieldsList-at, YieldsList-from_enumerate, YieldsList-from_filter, YieldsList-from_filter_map}
use Rattle.matching.specs.Market.{market_of}
use Rattle.matching.specs.Firsts.{passed_over, candidate_at}
use Rattle.matching.proofs.Reductions.{better, reduced}
use Rattle.matching.proofs.PassedOver.{passed_none}
use Rattle.matching.proofs.Scans.{reduces, filtered_map}
use Rattle.matching.proofs.Chosen.{ahead, first_scans, first_within}
use Rattle.matching.proofs.matcher.Matcher.first.Goals as goal

was_true : (b : Bool) → not b ≡ false → b ≡ true
was_true true e = refl
was_true false e = cc

pub returns-clause-value : goal.returns-clause-value
returns-clause-value g c =
    let m = market_of g.T.Terms.deals g.P.Priority.before c.args.self.now in
    let a = c.args.active.now in
    let s = c.args.self.now in
    let none : (p : ℕ × Row) → not (passed_over a p.1) ≡ false → candidate_at m a p.0 p.1 ≡ None =
    λ p f. passed_none m (λ x r. g.met.T.Terms.opposite_sides s.terms x r s.quote s.lot) a p.0 p.1 (was_true (passed_over a p.1) f)
    in
    reduced (ahead m a) _ _ (λ x y r q k. search rules) c.reduce.result c.reduce.ensures.ran
    (YieldsList-from_filter_map _ (λ p. candidate_at m a p.0 p.1)
    (YieldsList-at c.filter_map.ensures.source
    (YieldsList-from_filter _ (λ p. not (passed_over a p.1))
    (YieldsList-at c.filter.ensures.source (YieldsList-from_enumerate (YieldsList-at c.enumerate.ensures.source (YieldsList-from_slice c.args.places.now cc)) c.enumerate.ensures.count))
    c.filter.ensures.closure (λ x r q k. search rules)))
    c.filter_map.ensures.closure (λ x r q k. search rules))
    ∙ ap (reduce (better (ahead m a))) (filtered_map (λ p. not (passed_over a p.1)) (λ p. candidate_at m a p.0 p.1) none (enumerate_from 0 c.args.places.now))
    ∙ sym (reduces (first_scans m a) c.args.places.now)

pub returns-clause-within : goal.returns-clause-within
returns-clause-within g c = first_within (market_of g.T.Terms.deals g.P.Priority.before c.args.self.now) c.args.active.now c.args.places.now _ (returns-clause-value g c)

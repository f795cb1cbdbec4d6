use Rattle.std.proofs.Common.{◌≡◌, suc, ◌+◌, ◌-◌, length, sym, arith}
use Rattle.std.proofs.lemmas.Grind.{common_steps}
use Rattle.matching.specs.Market.{market_of}
use Rattle.matching.proofs.Sweeping.{sweep_none, sweep_some}
use Rattle.matching.proofs.matcher.Matcher.sweep.Goals as goal

pub loop-made-preserved : goal.loop-made-preserved
loop-made-preserved g c =
    let m = market_of g.T.Terms.deals g.P.Priority.before c.args.self.now in
    let at = c.loop-made in
    let n : length at.fill-items - at.made ≡ suc (length at.fill-items - (at.made + 1)) = omega arith in
    let e = sweep_some m (length at.fill-items - (at.made + 1)) at.places c.in-Some.pair (sym c.in-Some.ensures.value) in
    record { same = grind (arith, common_steps); rest = λ k l. grind (arith, common_steps) }

pub returns-in_default : goal.returns-in_default
returns-in_default g c =
    let m = market_of g.T.Terms.deals g.P.Priority.before c.args.self.now in
    let at = c.loop-made in
    let e = sweep_none m (length at.fill-items - at.made) at.places (sym c.in_default.ensures.value) in
    record { count = grind (arith, common_steps); places = grind (arith, common_steps); fills = grind (arith, common_steps) }

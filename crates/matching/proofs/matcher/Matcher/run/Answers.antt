use Rattle.std.proofs.Common.{◌≡◌, suc, ◌+◌, ◌-◌, length, sym, arith}
use Rattle.std.proofs.lemmas.Grind.{common_steps}
use Rattle.matching.specs.Market.{market_of}
use Rattle.matching.proofs.Running.{run_none, run_some}
use Rattle.matching.proofs.matcher.Matcher.run.Goals as goal

pub loop-count-preserved : goal.loop-count-preserved
loop-count-preserved g c =
    let m = market_of g.T.Terms.deals g.P.Priority.before c.args.self.now in
    let at = c.loop-count in
    let n : length at.fills - at.count ≡ suc (length at.fills - (at.count + 1)) = omega arith in
    let e = run_some m (length at.fills - (at.count + 1)) at.touched at.active at.places c.in-Some.meeting (sym c.in-Some.ensures.value) in
    record { same = grind (arith, common_steps); rest = λ k l. grind (arith, common_steps) }

pub returns-in_default : goal.returns-in_default
returns-in_default g c =
    let m = market_of g.T.Terms.deals g.P.Priority.before c.args.self.now in
    let at = c.loop-count in
    let e = run_none m (length at.fills - at.count) at.touched at.active at.places (sym c.in_default.ensures.value) in
    record { count = grind (arith, common_steps); active = grind (arith, common_steps); places = grind (arith, common_steps); fills = grind (arith, common_steps) }

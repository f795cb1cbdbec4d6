use Rattle.std.proofs.Common.{◌≡◌, ℕ, ◌-◌, ◌≤◌, false, length, take, drop}
use Rattle.matching.specs.Market.{market_of}
use Rattle.matching.specs.Runs.{after, run}
use Rattle.matching.proofs.matcher.Matcher.run.Given as goal

-- the run is the fills so far with the run from here on, and the rest of the list is as it was
abbrev pub invariant-loop-count : goal.invariant-loop-count
invariant-loop-count g l =
    let m = market_of g.T.Terms.deals g.P.Priority.before l.self in
    record {
      same : run m (length l.initial.fills) false l.initial.active l.initial.places ≡ after (take l.count l.fills) (run m (length l.fills - l.count) l.touched l.active l.places);
      rest : (k : ℕ) → l.count ≤ k → drop k l.fills ≡ drop k l.initial.fills;
    }

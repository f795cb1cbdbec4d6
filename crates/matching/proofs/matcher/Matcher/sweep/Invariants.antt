use Rattle.std.proofs.Common.{◌≡◌, ℕ, ◌-◌, ◌≤◌, length, take, drop}
use Rattle.matching.specs.Market.{market_of}
use Rattle.matching.specs.Sweeps.{ahead, sweep}
use Rattle.matching.proofs.matcher.Matcher.sweep.Given as goal

-- the sweep is the fills so far with the sweep from here on, and the rest of the list is as it was
abbrev pub invariant-loop-made : goal.invariant-loop-made
invariant-loop-made g l =
    let m = market_of g.T.Terms.deals g.P.Priority.before l.self in
    record {
      same : sweep m (length l.fn.fills - l.from) l.initial.places ≡ ahead (take l.made l.fill-items) (sweep m (length l.fill-items - l.made) l.places);
      rest : (k : ℕ) → l.made ≤ k → drop k l.fill-items ≡ drop k l.initial.fill-items;
    }

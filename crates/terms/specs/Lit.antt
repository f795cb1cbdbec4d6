-- The terms of the lit book.
use Rattle.std.specs.Prelude.{ℕ, Bool, true, false, cond, not, ◌&&◌, Some, None, Option, Result, ◌==◌}
use Rattle.orders.specs.Kinds.{hides}
use Rattle.orders.specs.Sides.{opposite, no_worse}
use Rattle.orders.specs.declared.entry.Entry.{Entry}
use Rattle.orders.specs.declared.kind.Kind.{Kind}
use Rattle.orders.specs.declared.kind.Kind.TheVariants.{Limit, LimitAtOnce, Market, MiddlePeg, MinimumImprovement, MinimumEach, MinimumSum, SeekImprovement}
use Rattle.orders.specs.declared.lot.Lot.{Lot}
use Rattle.orders.specs.declared.order.Order.{Order}
use Rattle.orders.specs.declared.quote.Quote.{Quote}
use Rattle.orders.specs.declared.side.Side.{Side}
use Rattle.terms.specs.Verdicts.{EntryRules, verdict_by}
use Rattle.terms.specs.declared.rejection.Rejection.{Rejection}

-- a market order takes every price, any other one that is no worse than its limit
abbrev pub lit_accepts : Kind → Side → (limit price : ℕ) → Bool
lit_accepts Limit side limit price = no_worse side price limit
lit_accepts LimitAtOnce side limit price = no_worse side price limit
lit_accepts Market side limit price = true
lit_accepts MiddlePeg side limit price = no_worse side price limit
lit_accepts MinimumImprovement side limit price = no_worse side price limit
lit_accepts MinimumEach side limit price = no_worse side price limit
lit_accepts MinimumSum side limit price = no_worse side price limit
lit_accepts SeekImprovement side limit price = no_worse side price limit

-- between opposite sides the resting limit, if that is a price and the active order takes it
abbrev pub lit_deal : (active resting : Order) → Option Quote → Lot → Option ℕ
lit_deal a r q lot =
    cond (opposite a.side r.side && not (r.limit == 0) && lit_accepts a.kind a.side a.limit r.limit) (Some r.limit) None

-- the kinds that the lit book trades
abbrev pub lit_trades : Kind → Bool
lit_trades Limit = true
lit_trades LimitAtOnce = true
lit_trades Market = true
lit_trades MiddlePeg = false
lit_trades MinimumImprovement = false
lit_trades MinimumEach = false
lit_trades MinimumSum = false
lit_trades SeekImprovement = false

-- any number of shares is whole, and there is no minimum
abbrev pub lit_rules : EntryRules
lit_rules = record { trades = lit_trades; may_hide = hides; whole = λ _. true; allows = λ _ _ minimum. (minimum == 0) }

abbrev pub lit_verdict : Entry → Lot → Result (Unit {0}) Rejection
lit_verdict e lot = verdict_by lit_rules e

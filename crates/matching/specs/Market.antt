-- What decides every trade of a book: terms and priority, with the quote and the lot put in.
use Rattle.std.specs.Prelude.{ℕ, Bool, Option}
use Rattle.orders.specs.declared.lot.Lot.{Lot}
use Rattle.orders.specs.declared.order.Order.{Order}
use Rattle.orders.specs.declared.quote.Quote.{Quote}
use Rattle.priority.specs.declared.candidate.Candidate.{Candidate}
use Rattle.matching.specs.declared.matcher.Matcher.{Matcher}

pub record Market : Type 0 where
  -- the price of an active order's deal with a resting one, or none
  pub deal : (active resting : Order) → Option ℕ
  -- for an active order, the first candidate comes before the second
  pub before : (active : Order) → Candidate → Candidate → Bool
  pub quote : Option Quote

-- The market of a matcher, by what its terms and its priority mean. The clauses hand these in: a model of the matcher with the
-- market as its value is refused, since functions have no code.
abbrev pub market_of : {P T : Type 0} → (T → Order → Order → Option Quote → Lot → Option ℕ) → (P → Order → Candidate → Candidate → Bool) → Matcher P T → Market
market_of deals before m = record {
  deal = λ a r. deals m.terms a r m.quote m.lot;
  before = before m.priority;
  quote = m.quote;
}

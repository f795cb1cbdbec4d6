-- The terms of each book.
use Rattle.std.specs.Prelude.{ℕ, Option, Result}
use Rattle.orders.specs.declared.entry.Entry.{Entry}
use Rattle.orders.specs.declared.lot.Lot.{Lot}
use Rattle.orders.specs.declared.order.Order.{Order}
use Rattle.orders.specs.declared.quote.Quote.{Quote}
use Rattle.terms.specs.declared.rejection.Rejection.{Rejection}
use Rattle.terms.specs.Lit.{lit_deal, lit_verdict}
use Rattle.terms.specs.Dark.{dark_deal, dark_verdict}
use Rattle.venue.specs.declared.venue.Venue.{Venue}
use Rattle.venue.specs.declared.venue.Venue.TheVariants.{LitBook, DarkBook}

abbrev pub venue_deals : Venue → (active resting : Order) → Option Quote → Lot → Option ℕ
venue_deals LitBook = lit_deal
venue_deals DarkBook = dark_deal

abbrev pub venue_verdict : Venue → Entry → Lot → Result (Unit {0}) Rejection
venue_verdict LitBook = lit_verdict
venue_verdict DarkBook = dark_verdict

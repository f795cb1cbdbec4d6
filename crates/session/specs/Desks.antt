-- The book that a session has open.
use Rattle.std.specs.Prelude.{ℕ, List, take, Some, None, Option}
use Rattle.orders.specs.declared.call.Fill.{Fill}
use Rattle.orders.specs.declared.row.Row.{Row}
use Rattle.venue.specs.Rankings.{ranking_before}
use Rattle.venue.specs.Venues.{venue_deals, venue_verdict}
use Rattle.venue.specs.declared.ranking.Ranking.{Ranking}
use Rattle.venue.specs.declared.venue.Venue.{Venue}
use Rattle.book.specs.States.{State, Rules, state_of, priority_of, terms_of}
use Rattle.book.specs.declared.book.Book.{Book}
use Rattle.session.specs.declared.session.Session.{Session}

-- the book, what it is ranked by, its terms and its places
pub record Desk : Type 0 where
  pub ranking : Ranking
  pub venue : Venue
  pub state : State
  pub rows : List Row

abbrev pub rules_by : Desk → Rules
rules_by d = record { deals = venue_deals d.venue; verdict = venue_verdict d.venue; before = ranking_before d.ranking }

-- a book and its places, which are the first of the rows
abbrev pub desk_in : Book Ranking Venue → List Row → Desk
desk_in b rows = record { ranking = priority_of b; venue = terms_of b; state = state_of b; rows = take (state_of b).places rows }

abbrev pub desk_by : Option (Book Ranking Venue) → List Row → Option Desk
desk_by None rows = None
desk_by (Some b) rows = Some (desk_in b rows)

-- the desk of a session
abbrev pub desk_of : Session → Option Desk
desk_of s = desk_by s.book s.rows

-- the fills of the last call, which were so many
abbrev pub last_fills : ℕ → Session → List Fill
last_fills n s = take n s.fills

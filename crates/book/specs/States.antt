-- What a book knows between calls, and what it plays by.
use Rattle.std.specs.Prelude.{ℕ, ◌+◌, Bool, cond, None, Option, Result}
use Rattle.orders.specs.Quotes.{lot_of}
use Rattle.orders.specs.declared.entry.Entry.{Entry}
use Rattle.orders.specs.declared.lot.Lot.{Lot}
use Rattle.orders.specs.declared.order.Order.{Order}
use Rattle.orders.specs.declared.quote.Quote.{Quote}
use Rattle.terms.specs.declared.rejection.Rejection.{Rejection}
use Rattle.terms.specs.declared.terms.Terms.{Ghosts as Terms}
use Rattle.priority.specs.declared.candidate.Candidate.{Candidate}
use Rattle.priority.specs.declared.priority.Priority.{Ghosts as Priority}
use Rattle.matching.specs.Market.{Market}
use Rattle.book.specs.declared.book.Book.{Book}
use Rattle.places.specs.declared.phase.Phase.{Phase}
use Rattle.places.specs.declared.phase.Phase.TheVariants.{Open}

pub record State : Type 0 where
  pub lot : Lot
  pub quote : Option Quote
  pub phase : Phase
  -- how many places there were at opening
  pub places : ℕ
  -- the stamp that the next entry takes
  pub next : ℕ

-- what terms and a priority mean
pub record Rules : Type 0 where
  pub deals : (active resting : Order) → Option Quote → Lot → Option ℕ
  pub verdict : Entry → Lot → Result (Unit {0}) Rejection
  pub before : (active : Order) → Candidate → Candidate → Bool

abbrev pub state_of : {P T : Type 0} → Book P T → State
state_of b = record { lot = b.matcher.lot; quote = b.matcher.quote; phase = b.phase; places = b.places; next = b.next }

-- what a book plays by; no call changes either
abbrev pub priority_of : {P T : Type 0} → Book P T → P
priority_of b = b.matcher.priority

abbrev pub terms_of : {P T : Type 0} → Book P T → T
terms_of b = b.matcher.terms

-- the rules of a book, by what deals, verdicts and the priority mean
abbrev pub rules_of : {P T : Type 0} → (T → Order → Order → Option Quote → Lot → Option ℕ) → (T → Entry → Lot → Result (Unit {0}) Rejection) → (P → Order → Candidate → Candidate → Bool) → Book P T → Rules
rules_of deals verdict before b = record { deals = deals (terms_of b); verdict = verdict (terms_of b); before = before (priority_of b) }

-- the same, by the bounds of a generic book, as `rules_in P.Priority T.Terms`
abbrev pub rules_in : {P T : Type 0} → Priority P → Terms T → Book P T → Rules
rules_in p t b = rules_of t.deals t.verdict p.before b

-- the rules under the quote and the lot of a book
abbrev pub market : Rules → State → Market
market u s = record { deal = λ a r. u.deals a r s.quote s.lot; before = u.before; quote = s.quote }

-- a book that was just opened
abbrev pub opened : (last places : ℕ) → State
opened last places = record { lot = lot_of last; quote = None; phase = Open; places = places; next = 1 }

abbrev pub with_quote : State → Option Quote → State
with_quote s q = record s { quote = q }

-- a stamp is taken
abbrev pub stamped : State → State
stamped s = record s { next = s.next + 1 }

abbrev pub with_phase : State → Phase → State
with_phase s phase = record s { phase = phase }

-- a stamp is taken, if one is needed
abbrev pub stamped_if : Bool → State → State
stamped_if needed s = record s { next = cond {A = ℕ} needed (s.next + 1) s.next }

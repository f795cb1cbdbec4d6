-- The day sheet: what is known of a book from its calls and their returns alone.
use Rattle.std.specs.Prelude.{ℕ, ◌+◌, Bool, false, cond, not, ◌||◌, List, [], ◌∷◌, Some, None, Ok, Err, Option, Result, ◌==◌}
use Rattle.orders.specs.Codes.{kind_of}
use Rattle.orders.specs.Quotes.{lot_of, quote_of}
use Rattle.orders.specs.Rows.{order_of, row_of, entry_row}
use Rattle.orders.specs.declared.call.Call.{Call}
use Rattle.orders.specs.declared.call.Call.TheVariants.{Enter, Amend, Cancel, Quote, Withdraw, Halt, Resume, Close}
use Rattle.orders.specs.declared.call.Fill.{Fill}
use Rattle.orders.specs.declared.call.Receipt.{Receipt}
use Rattle.orders.specs.declared.lot.Lot.{Lot}
use Rattle.orders.specs.declared.order.Order.{Order}
use Rattle.orders.specs.declared.quote.Quote as quotes
use Rattle.orders.specs.declared.refusal.Refusal.{Refusal}
use Rattle.matching.specs.Trades.{lessened}
use Rattle.orders.specs.Amendments.{loses_time, amended_row}
use Rattle.places.specs.Remainders.{rests_as}
use Rattle.places.specs.declared.phase.Phase.{Phase}
use Rattle.places.specs.declared.phase.Phase.TheVariants as phase

-- the orders that stand, by their numbers
abbrev pub Orders : Type 0
Orders = ℕ → Option Order

pub record Sheet : Type 0 where
  pub lot : Lot
  pub phase : Phase
  pub quote : Option quotes.Quote
  -- the stamp that the next entry takes
  pub next : ℕ
  pub orders : Orders

-- a book that was just opened: without orders or quote
abbrev pub opening : (last : ℕ) → Sheet
opening last = record { lot = lot_of last; phase = phase.Open; quote = None; next = 1; orders = λ _. None }

-- the orders with this one, or none, under a number
abbrev pub put : ℕ → Option Order → Orders → Orders
put k o s n = cond (n == k) o (s n)

-- an amended order: shares left and size anew, the limit, and the next stamp if it loses time
abbrev pub amended_to : Option Order → (shares limit next : ℕ) → Option Order
amended_to None shares limit next = None
amended_to (Some o) shares limit next = order_of (amended_row (row_of o) shares limit next)

-- an amendment takes a stamp just when the order loses time
abbrev pub restamps : Option Order → (shares limit : ℕ) → Bool
restamps None shares limit = false
restamps (Some o) shares limit = loses_time (row_of o) shares limit

-- the sheet once an accepted call is written there, before its fills
abbrev pub written : Call → Sheet → Sheet
written (Enter e) s = record s { next = s.next + 1; orders = put s.next (order_of (entry_row e s.next)) s.orders }
written (Amend a) s = record s {
  next = cond {A = ℕ} (restamps (s.orders a.number) a.shares a.limit) (s.next + 1) s.next;
  orders = put a.number (amended_to (s.orders a.number) a.shares a.limit s.next) s.orders;
}
written (Cancel n) s = record s { orders = put n None s.orders }
written (Quote bid offer) s = record s { quote = quote_of bid offer }
written Withdraw s = record s { quote = None }
written Halt s = record s { phase = phase.Halted }
written Resume s = record s { phase = phase.Open }
written Close s = record s { phase = phase.Closed }

-- an order with so many shares fewer; none where none is left
abbrev pub less_of : ℕ → Option Order → Option Order
less_of q None = None
less_of q (Some o) = order_of (lessened (row_of o) q)

-- the fill names the order of this number
abbrev pub names : Fill → ℕ → Bool
names f n = n == f.buyer || n == f.seller

-- a fill takes its shares from the two orders that it names
abbrev pub took : Fill → Orders → Orders
took f s n = cond (names f n) (less_of f.shares (s n)) (s n)

-- each fill in turn
abbrev pub took_all : List Fill → Orders → Orders
took_all [] s = s
took_all (f ∷ fs) s = took_all fs (took f s)

-- an entry of a kind that does not rest
abbrev pub passing : Call → Bool
passing (Enter e) = not (rests_as (kind_of e.kind))
passing (Amend a) = false
passing (Cancel n) = false
passing (Quote bid offer) = false
passing Withdraw = false
passing Halt = false
passing Resume = false
passing Close = false

-- last goes an entered order, under number k, of a kind that does not rest
abbrev pub leaves : Call → (k : ℕ) → Orders → Orders
leaves c k s = cond {A = Orders} (passing c) (put k None s) s

abbrev pub with_orders : Sheet → Orders → Sheet
with_orders s o = record s { orders = o }

-- the sheet after an accepted call with these fills
abbrev pub accepted : Call → List Fill → Sheet → Sheet
accepted c fs s = with_orders (written c s) (leaves c s.next (took_all fs (written c s).orders))

-- the sheet after a call: one that was refused changes nothing
abbrev pub after : Call → Result Receipt Refusal → List Fill → Sheet → Sheet
after c (Err x) fs s = s
after c (Ok r) fs s = accepted c fs s

-- the shares left of an order, or 0
abbrev pub left_of : Option Order → ℕ
left_of None = 0
left_of (Some o) = o.left

-- the shares that a fill takes from the order of a number, and that fills do
abbrev pub takes : Fill → ℕ → ℕ
takes f n = cond {A = ℕ} (names f n) f.shares 0

abbrev pub takes_all : List Fill → ℕ → ℕ
takes_all [] n = 0
takes_all (f ∷ fs) n = takes f n + takes_all fs n

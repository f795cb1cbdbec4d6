-- What a command does, and what a line does.
use Rattle.std.specs.Prelude.{◌≡◌, ℕ, Bool, cond, List, [], replicate, Some, None, Ok, Err, Option, Result}
use Rattle.orders.specs.Rows.{cleared}
use Rattle.orders.specs.declared.call.Call.{Call}
use Rattle.orders.specs.declared.call.Fill.{Fill}
use Rattle.orders.specs.declared.call.Receipt.{Receipt}
use Rattle.orders.specs.declared.refusal.Refusal.{Refusal}
use Rattle.orders.specs.declared.refusal.Refusal.TheVariants.{Closed, WrongOpening}
use Rattle.reader.specs.declared.fault.TextFault.{TextFault}
use Rattle.venue.specs.Rankings.{ranking_of}
use Rattle.venue.specs.declared.venue.Venue.{Venue}
use Rattle.commands.specs.Commands.{command_of}
use Rattle.commands.specs.declared.command.Command.{Command}
use Rattle.commands.specs.declared.command.Command.TheVariants.{Open, Make, Ask}
use Rattle.book.specs.Causes.{openable}
use Rattle.book.specs.States.{opened}
use Rattle.book.specs.Calls.{After, answer, ask, count_in}
use Rattle.session.specs.declared.fault.SessionFault.{SessionFault}
use Rattle.session.specs.declared.fault.SessionFault.TheVariants.{Text, Refused}
use Rattle.session.specs.Desks.{Desk, desk_of, last_fills, rules_by}
use Rattle.session.specs.declared.session.Session.{Session}

-- the most places that a book has; a session hands in as many fill entries with every call
abbrev pub most_places : ℕ
most_places = 1024

-- the reply to a command or to a line, the fills of its call, and the desk after it
pub record Played (E : Type 0) : Type 0 where
  pub reply : Result Receipt E
  pub fills : List Fill
  pub desk : Option Desk

-- the result and the session after it are what was to be played, and the session's list begins with the fills
pub record Follows {E : Type 0} (played : Played E) (result : Result Receipt E) (after : Session) : Type 0 where
  pub reply : result ≡ played.reply
  pub desk : desk_of after ≡ played.desk
  pub fills : last_fills (count_in result) after ≡ played.fills

-- nothing changes
abbrev pub sent_back : Refusal → Option Desk → Played Refusal
sent_back x d = record { reply = Err x; fills = []; desk = d }

-- what a call without an order returns, if it made no fills
abbrev pub blank : Receipt
blank = record { number = 0; filled = 0; resting = 0; cancelled = 0; fills = 0 }

-- a book that was just opened
abbrev pub fresh : Venue → (last places : ℕ) → Desk
fresh v last places = record { ranking = ranking_of v last; venue = v; state = opened last places; rows = replicate places cleared }

-- another book takes the place of the one that was there; a refused opening leaves it
abbrev pub opens_if : (may : Bool) → Venue → (last places : ℕ) → Option Desk → Played Refusal
opens_if may v last places d = record { reply = cond may (Ok blank) (Err WrongOpening); fills = []; desk = cond may (Some (fresh v last places)) d }

abbrev pub opens : Venue → (last places : ℕ) → Option Desk → Played Refusal
opens v last places d = opens_if (openable last places) v last places d

abbrev pub answered_by : Desk → After → Played Refusal
answered_by d a = record { reply = a.reply; fills = a.fills; desk = Some (record { ranking = d.ranking; venue = d.venue; state = a.state; rows = a.rows }) }

-- before any opening every call meets a closed book
abbrev pub makes : Call → Option Desk → Played Refusal
makes c None = sent_back Closed None
makes c (Some d) = answered_by d (answer (rules_by d) d.state c most_places d.rows)

-- the question too
abbrev pub asks : (number : ℕ) → Option Desk → Played Refusal
asks n None = sent_back Closed None
asks n (Some d) = record { reply = ask d.state n d.rows; fills = []; desk = Some d }

abbrev pub obeys : Command → Option Desk → Played Refusal
obeys (Open v last places) d = opens v last places d
obeys (Make c) d = makes c d
obeys (Ask n) d = asks n d

abbrev pub result_of : Result Receipt Refusal → Result Receipt SessionFault
result_of (Ok r) = Ok r
result_of (Err x) = Err (Refused x)

abbrev pub line_played : Played Refusal → Played SessionFault
line_played p = record { reply = result_of p.reply; fills = p.fills; desk = p.desk }

-- a line that is no command changes nothing: its fault is the reader's, with the line
abbrev pub plays_by : (line : ℕ) → Result Command TextFault → Option Desk → Played SessionFault
plays_by line (Err f) d = record { reply = Err (Text (record { line = line; fault = f })); fills = []; desk = d }
plays_by line (Ok c) d = line_played (obeys c d)

abbrev pub plays : (line : ℕ) → List ℕ → Option Desk → Played SessionFault
plays line bytes d = plays_by line (command_of bytes) d

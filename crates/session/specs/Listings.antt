-- The listing of a session.
use Rattle.std.specs.Prelude.{ℕ, ◌+◌, cond, List, [], ◌∷◌, ◌++◌, length, map, None, Ok, Err, Option, Result, nat_lt}
use Rattle.orders.specs.declared.call.Fill.{Fill}
use Rattle.orders.specs.declared.call.Receipt.{Receipt}
use Rattle.reader.specs.Faults.{longest_text}
use Rattle.reader.specs.Lines.{lines}
use Rattle.reader.specs.declared.fault.TextFault.TheVariants.{LongText}
use Rattle.listing.specs.declared.line.Line.{Line}
use Rattle.listing.specs.declared.line.Report.{Report}
use Rattle.listing.specs.declared.line.Report.TheVariants as report
use Rattle.session.specs.declared.fault.SessionFault.{SessionFault}
use Rattle.session.specs.declared.fault.SessionFault.TheVariants.{Text, Refused}
use Rattle.session.specs.Desks.{Desk}
use Rattle.session.specs.Plays.{Played, plays}

abbrev pub listed : (number : ℕ) → Report → Line
listed n r = record { number = n; report = r }

-- what is listed of a line; a fault says itself which line it stands in
abbrev pub result_line : (number : ℕ) → Result Receipt SessionFault → Line
result_line n (Ok r) = listed n (report.Taken r)
result_line n (Err (Refused x)) = listed n (report.Refused x)
result_line n (Err (Text f)) = listed f.line (report.Bad f.fault)

abbrev pub fill_lines : (number : ℕ) → List Fill → List Line
fill_lines n fs = map (λ f. listed n (report.Filled f)) fs

-- the lines of the listing that one line of the session makes
abbrev pub line_listing : (number : ℕ) → Played SessionFault → List Line
line_listing n p = result_line n p.reply ∷ fill_lines n p.fills

-- each line on the desk that the one before left
unfoldable pub listing_from : (number : ℕ) → List (List ℕ) → Option Desk → List Line
listing_from n [] d = []
listing_from n (l ∷ ls) d = line_listing n (plays n l d) ++ listing_from (n + 1) ls (plays n l d).desk

-- a text that is too long is not played
abbrev pub listing_of : (text : List ℕ) → List Line
listing_of text = cond (nat_lt longest_text (length text)) (listed 0 (report.Bad LongText) ∷ []) (listing_from 1 (lines text) None)

-- The bytes of each line of a listing.
use Rattle.std.specs.Prelude.{ℕ, List, [], ◌∷◌, ◌++◌, codes, decimal}
use Rattle.orders.specs.Codes.{refusal_number}
use Rattle.reader.specs.Faults.{fault_number, fault_byte}
use Rattle.orders.specs.Sides.{side_word}
use Rattle.listing.specs.declared.line.Report.{Report}
use Rattle.listing.specs.declared.line.Report.TheVariants.{Taken, Filled, Refused, Bad}
use Rattle.listing.specs.declared.line.Line.{Line}

-- words, each after a space, and the end of the line
abbrev pub rest : List (List ℕ) → List ℕ
rest [] = codes "\n"
rest (w ∷ ws) = codes " " ++ (w ++ rest ws)

-- what follows the line's number
abbrev pub report_words : Report → List (List ℕ)
report_words (Taken r) = codes "OK" ∷ decimal r.number ∷ decimal r.filled ∷ decimal r.resting ∷ decimal r.cancelled ∷ decimal r.fills ∷ []
report_words (Filled f) = codes "FILL" ∷ decimal f.buyer ∷ decimal f.seller ∷ decimal f.price ∷ decimal f.shares ∷ side_word f.active ∷ []
report_words (Refused x) = codes "NO" ∷ decimal (refusal_number x) ∷ []
report_words (Bad x) = codes "BAD" ∷ decimal (fault_number x) ∷ decimal (fault_byte x) ∷ []

abbrev pub line_bytes : Line → List ℕ
line_bytes l = decimal l.number ++ rest (report_words l.report)

-- the bytes of lines one after another
abbrev pub all_bytes : List Line → List ℕ
all_bytes [] = []
all_bytes (l ∷ ls) = line_bytes l ++ all_bytes ls

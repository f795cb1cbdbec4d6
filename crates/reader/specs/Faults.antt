-- What keeps a text from being read, and the lengths that may be read.
use Rattle.std.specs.Prelude.{ℕ}
use Rattle.reader.specs.declared.fault.TextFault.{TextFault}
use Rattle.reader.specs.declared.fault.TextFault.TheVariants.{LongText, LongLine, Word}

-- the most bytes of a text
abbrev pub longest_text : ℕ
longest_text = 65536

-- the most bytes of a line, its end apart
abbrev pub longest_line : ℕ
longest_line = 120

abbrev pub fault_number : TextFault → ℕ
fault_number LongText = 21
fault_number LongLine = 21
fault_number (Word at) = 22

-- the byte that a listing names: the first that is too many, or where the word begins
abbrev pub fault_byte : TextFault → ℕ
fault_byte LongText = longest_text
fault_byte LongLine = longest_line
fault_byte (Word at) = at

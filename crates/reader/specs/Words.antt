-- The words of a line, with their places.
use Rattle.std.specs.Prelude.{ℕ, suc, cond, List, [], ◌∷◌, length, drop, map, Some, None, Option, ◌==◌}
use Rattle.std.specs.List.{join_with_byte}
use Rattle.reader.specs.Numbers.{number_of}

-- the byte that parts words
abbrev pub space : ℕ
space = 32

-- a word and its place, counted from 0
pub record Piece : Type 0 where
  pub at : ℕ
  pub bytes : List ℕ

abbrev pub piece : ℕ → List ℕ → Piece
piece at bytes = record { at = at; bytes = bytes }

-- one more byte in front of the first piece, which then begins at place at
abbrev pub wider : ℕ → ℕ → List Piece → List Piece
wider at b [] = piece at (b ∷ []) ∷ []
wider at b (p ∷ ps) = piece at (b ∷ p.bytes) ∷ ps

-- what single spaces part, from place at on; a space beside no word makes an empty one
abbrev pub pieces : ℕ → List ℕ → List Piece
pieces at [] = piece at [] ∷ []
pieces at (b ∷ bs) = cond (b == space) (piece at [] ∷ pieces (suc at) bs) (wider at b (pieces (suc at) bs))

-- the words of a line: an empty line has none
abbrev pub words_of : List ℕ → List Piece
words_of [] = []
words_of (b ∷ bs) = pieces 0 (b ∷ bs)

-- the words of a line from the next on, which begins at place at, if there is one
abbrev pub words_from : List ℕ → (next : Option ℕ) → List Piece
words_from line None = []
words_from line (Some at) = pieces at (drop at line)

-- what stands next: a number, another word, or the line's end, with their places
pub data Tok : Type 0 where
  word : List ℕ → ℕ → Tok
  number : List ℕ → ℕ → ℕ → Tok
  end : List ℕ → ℕ → Tok

abbrev pub named : Option ℕ → Piece → Tok
named (Some n) p = number p.bytes n p.at
named None p = word p.bytes p.at

-- the words of a line that are still to be judged, and the line's length
pub record Rest : Type 0 where
  pub last : ℕ
  pub todo : List Piece

abbrev pub token_in : ℕ → List Piece → Tok
token_in last [] = end [] last
token_in last (p ∷ ps) = named (number_of p.bytes) p

abbrev pub token : Rest → Tok
token r = token_in r.last r.todo

-- past what stands next
abbrev pub onward : Rest → Rest
onward r = record { last = r.last; todo = drop 1 r.todo }

-- a line before its first word
abbrev pub whole : List ℕ → Rest
whole line = record { last = length line; todo = words_of line }

-- the bytes of words, without their places
abbrev pub texts : List Piece → List (List ℕ)
texts ps = map (λ p. p.bytes) ps

-- words with single spaces between them
abbrev pub spaced : List (List ℕ) → List ℕ
spaced ws = join_with_byte space ws

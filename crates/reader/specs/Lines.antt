-- The lines of a text, as lists of bytes.
use Rattle.std.specs.Prelude.{◌≡◌, ℕ, ◌<◌, cond, ◌⊎◌, List, [], ◌∷◌, ◌++◌, length, ◌==◌, ◌≢◌}
use Rattle.std.specs.List.{All, join_with_byte, onto_first}

-- the byte that ends a line
abbrev pub line_end : ℕ
line_end = 10

-- the lines of a text: each ends with byte 10, which the last, not empty, may lack
abbrev pub lines : List ℕ → List (List ℕ)
lines [] = []
lines (b ∷ bs) = cond (b == line_end) ([] ∷ lines bs) (onto_first b (lines bs))

-- lines with byte 10 between them
abbrev pub joined : List (List ℕ) → List ℕ
joined ls = join_with_byte line_end ls

-- lines with byte 10 after each of them
abbrev pub closed : List (List ℕ) → List ℕ
closed [] = []
closed (l ∷ ls) = l ++ (line_end ∷ closed ls)

-- no byte is c
abbrev pub Lacks : (c : ℕ) → List ℕ → Type 0
Lacks c bs = All (λ b. b ≢ c) bs

-- no byte of the lines is 10
abbrev pub AllEndless : List (List ℕ) → Type 0
AllEndless ls = All (Lacks line_end) ls

-- the last of the lines, if there is one, is not empty
abbrev pub LastFilled : List (List ℕ) → Type 0
LastFilled [] = Unit {0}
LastFilled (l ∷ []) = 0 < length l
LastFilled (l ∷ k ∷ ls) = LastFilled (k ∷ ls)

-- What makes lines the lines of a text: they give it back with byte 10 after each, or only between them, and then the last
-- is not empty; none of them holds byte 10; an empty text has none.
pub record Parted (text : List ℕ) (ls : List (List ℕ)) : Type 0 where
  pub back : (text ≡ closed ls) ⊎ ((text ≡ joined ls) × LastFilled ls)
  pub endless : AllEndless ls
  pub none : text ≡ [] → ls ≡ []

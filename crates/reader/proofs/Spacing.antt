-- Words, and the line that they make with single spaces.
use Rattle.std.proofs.Common.{◌≡◌, ℕ, suc, ◌^◌, ◌<◌, Bool, true, false, cond, not, eqb, List, [], ◌∷◌, length, decimal, refl, ap, ◌∙◌, arith}
use Rattle.std.specs.List.{All, AllByRecursion, list_all, slice_split, onto_first}
use Rattle.std.proofs.lemmas.Bool.{ne_eqb}
use Rattle.std.proofs.lemmas.Bool.Decides.{nat_tests}
use Rattle.std.proofs.lemmas.Fmt.{digits_decimal}
use Rattle.std.proofs.lemmas.List.Elements.{All-weaker, All-from_get_or}
use Rattle.std.proofs.lemmas.List.Splits.{join_with_byte-slice_split, slice_split_none, slice_split_at}
use Rattle.std.proofs.lemmas.List.Sums.{AllPass-from_list_all}
use Rattle.std.proofs.lemmas.Str.Parse.{not_in_digits}
use Rattle.reader.specs.Lines.{Lacks}
use Rattle.reader.specs.Words.{space, Piece, piece, pieces, wider, words_of, texts, spaced}
use Rattle.reader.proofs.Numbers.{own}

abbrev is_space : ℕ → Bool
is_space b = eqb b space

-- no byte is a space
abbrev pub Solid : List ℕ → Type 0
Solid w = Lacks space w

abbrev pub Solids : List (List ℕ) → Type 0
Solids ws = AllByRecursion Solid ws

texts_wider : (at b : ℕ) (ps : List Piece) → texts (wider at b ps) ≡ onto_first b (texts ps)
texts_wider at b [] = refl
texts_wider at b (p ∷ ps) = refl

-- the pieces of a line are what the library splits it into
texts_pieces : (at : ℕ) (bs : List ℕ) → texts (pieces at bs) ≡ slice_split is_space bs
texts_pieces at [] = refl
texts_pieces at (b ∷ bs) =
    let h = texts_pieces (suc at) bs in
    elim (is_space b) as (λ v. texts (cond v (piece at [] ∷ pieces (suc at) bs) (wider at b (pieces (suc at) bs))) ≡ cond v ([] ∷ slice_split is_space bs) (onto_first b (slice_split is_space bs))) [
      | true ↦ ap (λ l. [] ∷ l) h
      | false ↦ texts_wider at b (pieces (suc at) bs) ∙ ap (onto_first b) h
    ]

pub line_is : (line : List ℕ) → spaced (texts (words_of line)) ≡ line
line_is [] = refl
line_is (b ∷ bs) = ap spaced (texts_pieces 0 (b ∷ bs)) ∙ join_with_byte-slice_split space (b ∷ bs)

others : (w : List ℕ) → Solid w → All (λ b. is_space b ≡ false) w
others w s = All-weaker (λ b. b ≡ space → ⊥) (λ b. is_space b ≡ false) (λ b. ne_eqb b space) w s

-- words without spaces come apart again
parts : (w : List ℕ) (ws : List (List ℕ)) → Solid w → Solids ws → slice_split is_space (spaced (w ∷ ws)) ≡ w ∷ ws
parts w [] s t = slice_split_none is_space w (others w s)
parts w (v ∷ ws) s t = slice_split_at is_space w space (spaced (v ∷ ws)) (others w s) refl ∙ ap (λ l. w ∷ l) (parts v ws t.0 t.1)

pub words_of_lem : (w : List ℕ) (ws : List (List ℕ)) → 0 < length w → Solid w → Solids ws → texts (words_of (spaced (w ∷ ws))) ≡ w ∷ ws
words_of_lem [] ws h s t = absurd (omega arith)
words_of_lem (b ∷ w) [] h s t = texts_pieces 0 (b ∷ w) ∙ parts (b ∷ w) [] s t
words_of_lem (b ∷ w) (v ∷ ws) h s t = texts_pieces 0 (spaced ((b ∷ w) ∷ v ∷ ws)) ∙ parts (b ∷ w) (v ∷ ws) s t

pub solid_decimal : (n : ℕ) → n < 2 ^ 32 → Solid (decimal n)
solid_decimal n h = All-from_get_or (λ b. b ≡ space → ⊥) (decimal n) 0 (not_in_digits own (decimal n) space (digits_decimal own n (omega arith)) (λ r. omega (arith, r)))

-- a test for it, which computes for a word that is written out
pub solid_true : (w : List ℕ) → list_all (λ b. not (is_space b)) w ≡ true → Solid w
solid_true w e = All-weaker (λ b. not (is_space b) ≡ true) (λ b. b ≡ space → ⊥) (λ b t e. grind (arith, nat_tests)) w (AllPass-from_list_all (λ b. not (is_space b)) w e)

-- How the steps of the reader take a text apart.
use Rattle.std.proofs.Common.{◌≡◌, ℕ, suc, ◌+◌, ◌-◌, ◌<◌, ◌≤◌, false, eqb, List, [], ◌∷◌, ◌++◌, length, drop, MatchOption, Option, Some, None, Bor, sym, refl, ap, ◌∙◌, arith}
use Rattle.std.specs.List.{onto_first}
use Rattle.std.specs.Option.{unwrap_or, option_map}
use Rattle.std.proofs.lemmas.Bool.{cond-false, ne_eqb}
use Rattle.std.proofs.lemmas.List.{drop-drop, length-drop, length-append}
use Rattle.std.proofs.Math.Seq.{drop-append-add}
use Rattle.std.proofs.lemmas.List.Elements.{All-head, All-tail}
use Rattle.reader.specs.Lines.{line_end, Lacks, lines}
use Rattle.reader.specs.Words.{space, piece, pieces, wider, words_from}

lacks_head : (c b : ℕ) (bs : List ℕ) → Lacks c (b ∷ bs) → eqb b c ≡ false
lacks_head c b bs h = ne_eqb b c (All-head (λ x. x ≡ c → ⊥) b bs h)

lacks_tail : (c b : ℕ) (bs : List ℕ) → Lacks c (b ∷ bs) → Lacks c bs
lacks_tail c b bs h = All-tail (λ x. x ≡ c → ⊥) b bs h

-- a line with its end, and a last line without one
pub lines_more : (l ls : List ℕ) → Lacks line_end l → lines (l ++ line_end ∷ ls) ≡ l ∷ lines ls
lines_more [] ls h = refl
lines_more (b ∷ bs) ls h = cond-false _ _ _ (lacks_head line_end b bs h) ∙ ap (onto_first b) (lines_more bs ls (lacks_tail line_end b bs h))

pub lines_last : (b : ℕ) (bs : List ℕ) → Lacks line_end (b ∷ bs) → lines (b ∷ bs) ≡ (b ∷ bs) ∷ []
lines_last b [] h = cond-false _ _ _ (lacks_head line_end b [] h)
lines_last b (x ∷ xs) h = cond-false _ _ _ (lacks_head line_end b (x ∷ xs) h) ∙ ap (onto_first b) (lines_last x xs (lacks_tail line_end b (x ∷ xs) h))

-- one line is read
pub lines_first : (bs l : List ℕ) (rest : Option (Bor (List ℕ))) (none : Bor (List ℕ)) → none.now ≡ [] → 0 < length bs → Lacks line_end l → MatchOption rest (bs ≡ l) (λ r. bs ≡ l ++ line_end ∷ r.now) → lines bs ≡ l ∷ lines (unwrap_or rest none).now
lines_first bs l (Some r) none n h w e = ap lines e ∙ lines_more l r.now w
lines_first [] l None none n h w e = absurd (omega arith)
lines_first (b ∷ bs) [] None none n h w e = cc
lines_first (b ∷ bs) (x ∷ xs) None none n h w e = ap lines e ∙ lines_last x xs w ∙ (λ i. (x ∷ xs) ∷ lines (sym n i))

-- a word with its space, and a last word
pieces_more : (at : ℕ) (w ws : List ℕ) → Lacks space w → pieces at (w ++ space ∷ ws) ≡ piece at w ∷ pieces (at + (length w + 1)) ws
pieces_more at [] ws h = ap (λ n. piece at [] ∷ pieces n ws) (omega arith)
pieces_more at (b ∷ bs) ws h =
    cond-false _ _ _ (lacks_head space b bs h) ∙ ap (wider at b) (pieces_more (suc at) bs ws (lacks_tail space b bs h)) ∙ ap (λ n. piece at (b ∷ bs) ∷ pieces n ws) (omega arith)

pieces_last : (at : ℕ) (w : List ℕ) → Lacks space w → pieces at w ≡ piece at w ∷ []
pieces_last at [] h = refl
pieces_last at (b ∷ bs) h = cond-false _ _ _ (lacks_head space b bs h) ∙ ap (wider at b) (pieces_last (suc at) bs (lacks_tail space b bs h))

-- one word of a line is read; `left` is the line from it on, and `next` the place of the next word
pub word_first : (line left w : List ℕ) (at : ℕ) (rest : Option (Bor (List ℕ))) (next : Option ℕ) → at ≤ length line → left ≡ drop at line → Lacks space w → MatchOption rest (left ≡ w) (λ r. left ≡ w ++ space ∷ r.now) → next ≡ option_map (λ r. length line - length r.now) rest → words_from line (Some at) ≡ piece at w ∷ words_from line next
word_first line left w at None next h l s e n = ap (pieces at) (sym l ∙ e) ∙ pieces_last at w s ∙ ap (λ o. piece at w ∷ words_from line o) (sym n)
word_first line left w at (Some r) next h l s e n =
    let is : drop at line ≡ w ++ space ∷ r.now = sym l ∙ e in
    let size = length-drop at line in
    let long = ap length is ∙ length-append w (space ∷ r.now) in
    let k : at + (length w + 1) ≡ length line - length r.now = omega arith in
    let behind : drop (length w + 1) (drop at line) ≡ r.now = ap (drop (length w + 1)) is ∙ drop-append-add w (space ∷ r.now) 1 in
    let onward = sym behind ∙ drop-drop (length w + 1) at line ∙ ap (λ n. drop n line) k in
    ap (pieces at) is ∙ pieces_more at w r.now s ∙ (λ i. piece at w ∷ pieces (k i) (onward i)) ∙ ap (λ o. piece at w ∷ words_from line o) (sym n)

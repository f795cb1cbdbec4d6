-- What stands next in a line, read off its words' bytes, both ways.
use Rattle.std.proofs.Common.{ok_or, ◌≡◌, ℕ, zero, suc, ◌<◌, List, [], ◌∷◌, length, drop, Some, None, Ok, Err, decimal, Option, Result, refl, ap, ◌∙◌}
use Rattle.reader.specs.Numbers.{number_of}
use Rattle.reader.specs.Words.{Piece, Rest, named, token, token_in, onward, texts}
use Rattle.reader.specs.declared.fault.TextFault.{TextFault}
use Rattle.reader.specs.declared.fault.TextFault.TheVariants.{Word}
use Rattle.reader.proofs.Numbers.{number_from_lem, number_to}
use Rattle.reader.proofs.Spacing.{Solid}
use Rattle.commands.specs.Tokens.{as_number, as_word, as_end}
use Rattle.commands.specs.Commands.{bind, number_then, end_then}
use Rattle.commands.specs.Written.{Fit}

pub bind_ok : {A B : Type 0} (r : Result A TextFault) (f : A → Result B TextFault) (c : B) → bind r f ≡ Ok c → (x : A) × (r ≡ Ok x) × (f x ≡ Ok c)
bind_ok (Ok x) f c e = (x, refl, e)
bind_ok (Err y) f c e = cc

-- the word of x stands for x, and is no number
pub record Names {A : Type 0} (of : List ℕ → Option A) (word : A → List ℕ) (x : A) : Type 0 where
  pub to : of (word x) ≡ Some x
  pub other : number_of (word x) ≡ None
  pub some : 0 < length (word x)
  pub solid : Solid (word x)

-- only the words that `word` writes stand for anything
pub record Table {A : Type 0} (of : List ℕ → Option A) (word : A → List ℕ) : Type 0 where
  pub from : (w : List ℕ) (x : A) → of w ≡ Some x → w ≡ word x
  pub names : (x : A) → Names of word x

-- what was taken tells the words
named_number : (o : Option ℕ) (p : Piece) (n : ℕ) → as_number (named o p) ≡ Ok n → o ≡ Some n
named_number (Some m) p n e = let s : m ≡ n = cc in ap Some s
named_number None p n e = cc

number_first : (last : ℕ) (ps : List Piece) (n : ℕ) → as_number (token_in last ps) ≡ Ok n → Fit n × (texts ps ≡ decimal n ∷ texts (drop 1 ps))
number_first last [] n e = cc
number_first last (p ∷ ps) n e = let h = number_from_lem p.bytes n (named_number (number_of p.bytes) p n e) in (h.1, ap (λ w. w ∷ texts ps) h.0)

end_named : (o : Option ℕ) (p : Piece) (u : Unit {0}) → as_end (named o p) ≡ Ok u → ⊥
end_named (Some m) p u e = cc
end_named None p u e = cc

end_first : (last : ℕ) (ps : List Piece) (u : Unit {0}) → as_end (token_in last ps) ≡ Ok u → texts ps ≡ []
end_first last [] u e = refl
end_first last (p ∷ ps) u e = absurd (end_named (number_of p.bytes) p u e)

pub end_then_ok : {B : Type 0} (r : Rest) (b c : B) → end_then r b ≡ Ok c → (texts r.todo ≡ []) × (b ≡ c)
end_then_ok r b c e = let h = bind_ok (as_end (token r)) (λ _. Ok b) c e in let k = h.2 in (end_first r.last r.todo h.0 h.1, let s : b ≡ c = cc in s)

ok_or_ok : {A : Type 0} (o : Option A) (f : TextFault) (x : A) → ok_or o f ≡ Ok x → o ≡ Some x
ok_or_ok (Some y) f x e = let s : y ≡ x = cc in ap Some s
ok_or_ok None f x e = cc

word_named : {A : Type 0} (of : List ℕ → Option A) (o : Option ℕ) (p : Piece) (x : A) → as_word of (named o p) ≡ Ok x → of p.bytes ≡ Some x
word_named of (Some m) p x e = cc
word_named of None p x e = ok_or_ok (of p.bytes) _ x e

word_first : {A : Type 0} {of : List ℕ → Option A} {word : A → List ℕ} → Table of word → (last : ℕ) (ps : List Piece) (x : A) → as_word of (token_in last ps) ≡ Ok x → texts ps ≡ word x ∷ texts (drop 1 ps)
word_first t last [] x e = cc
word_first {of = of} t last (p ∷ ps) x e = ap (λ w. w ∷ texts ps) (t.from p.bytes x (word_named of (number_of p.bytes) p x e))

pub word_then_ok : {A B : Type 0} {of : List ℕ → Option A} {word : A → List ℕ} → Table of word → (r : Rest) (g : A → Result B TextFault) (c : B) → bind (as_word of (token r)) g ≡ Ok c → (x : A) × (texts r.todo ≡ word x ∷ texts (onward r).todo) × (g x ≡ Ok c)
word_then_ok {of = of} t r g c e = let b = bind_ok (as_word of (token r)) g c e in (b.0, word_first t r.last r.todo b.0 b.1, b.2)

-- the words tell what is taken
pub first_is : (ps : List Piece) (w : List ℕ) (ws : List (List ℕ)) → texts ps ≡ w ∷ ws → (p : Piece) × (qs : List Piece) × (ps ≡ p ∷ qs) × (p.bytes ≡ w) × (texts qs ≡ ws)
first_is [] w ws e = cc
first_is (p ∷ ps) w ws e = (p, ps, refl, let a : p.bytes ≡ w = cc in a, let b : texts ps ≡ ws = cc in b)

pub no_pieces : (ps : List Piece) → texts ps ≡ [] → ps ≡ []
no_pieces [] e = refl
no_pieces (p ∷ ps) e = cc

pub number_then_is : {B : Type 0} (r : Rest) (f : ℕ → Rest → Result B TextFault) (n : ℕ) (ws : List (List ℕ)) → Fit n → texts r.todo ≡ decimal n ∷ ws → (number_then r f ≡ f n (onward r)) × (texts (onward r).todo ≡ ws)
number_then_is r f n ws h e =
    let q = first_is r.todo (decimal n) ws e in
    let t : as_number (token_in r.last r.todo) ≡ Ok n = ap (λ ps. as_number (token_in r.last ps)) q.2 ∙ ap (λ o. as_number (named o q.0)) (ap number_of q.3 ∙ number_to n h) in
    (ap (λ x. bind x (λ n. f n (onward r))) t, ap (λ ps. texts (drop 1 ps)) q.2 ∙ q.4)

pub end_then_is : {B : Type 0} (r : Rest) (b : B) → texts r.todo ≡ [] → end_then r b ≡ Ok b
end_then_is r b e = ap (λ ps. bind (as_end (token_in r.last ps)) (λ _. Ok b)) (no_pieces r.todo e)

pub word_then_is : {A B : Type 0} {of : List ℕ → Option A} {word : A → List ℕ} → Table of word → (r : Rest) (g : A → Result B TextFault) (x : A) (ws : List (List ℕ)) → texts r.todo ≡ word x ∷ ws → (bind (as_word of (token r)) g ≡ g x) × (texts (onward r).todo ≡ ws)
word_then_is {of = of} {word = word} table r g x ws e =
    let n = table.names x in
    let q = first_is r.todo (word x) ws e in
    let t : as_word of (token_in r.last r.todo) ≡ Ok x =
    ap (λ ps. as_word of (token_in r.last ps)) q.2 ∙ ap (λ o. as_word of (named o q.0)) (ap number_of q.3 ∙ n.other) ∙ ap (λ o. ok_or o (Word q.0.at)) (ap of q.3 ∙ n.to) in
    (ap (λ y. bind y g) t, ap (λ ps. texts (drop 1 ps)) q.2 ∙ q.4)

-- so many numbers
abbrev pub Nums : ℕ → Type 0
Nums zero = Unit {0}
Nums (suc n) = ℕ × Nums n

abbrev pub AllFit : (n : ℕ) → Nums n → Type 0
AllFit zero x = Unit {0}
AllFit (suc n) x = Fit x.0 × AllFit n x.1

-- what is written of them, and then more words
abbrev pub decimals : (n : ℕ) → Nums n → List (List ℕ) → List (List ℕ)
decimals zero x ws = ws
decimals (suc n) x ws = decimal x.0 ∷ decimals n x.1 ws

-- so many numbers stand next, and what follows them
abbrev pub nums_then : {B : Type 0} (n : ℕ) → Rest → (Nums n → Rest → Result B TextFault) → Result B TextFault
nums_then zero r f = f tt r
nums_then (suc n) r f = number_then r (λ x r. nums_then n r (λ xs r. f (x, xs) r))

pub nums_then_ok : {B : Type 0} (n : ℕ) (r : Rest) (f : Nums n → Rest → Result B TextFault) (c : B) → nums_then n r f ≡ Ok c → (x : Nums n) × (q : Rest) × AllFit n x × (texts r.todo ≡ decimals n x (texts q.todo)) × (f x q ≡ Ok c)
nums_then_ok zero r f c e = (tt, r, tt, refl, e)
nums_then_ok (suc n) r f c e =
    let b = bind_ok (as_number (token r)) (λ x. nums_then n (onward r) (λ xs q. f (x, xs) q)) c e in
    let h = number_first r.last r.todo b.0 b.1 in
    let more = nums_then_ok n (onward r) (λ xs q. f (b.0, xs) q) c b.2 in
    ((b.0, more.0), more.1, (h.0, more.2), h.1 ∙ ap (λ ws. decimal b.0 ∷ ws) more.3, more.4)

pub nums_then_is : {B : Type 0} (n : ℕ) (r : Rest) (f : Nums n → Rest → Result B TextFault) (x : Nums n) (ws : List (List ℕ)) → AllFit n x → texts r.todo ≡ decimals n x ws → (q : Rest) × (nums_then n r f ≡ f x q) × (texts q.todo ≡ ws)
nums_then_is zero r f x ws h e = (r, refl, e)
nums_then_is (suc n) r f x ws h e =
    let s = number_then_is r (λ y r. nums_then n r (λ xs q. f (y, xs) q)) x.0 _ h.0 e in
    let more = nums_then_is n (onward r) (λ xs q. f (x.0, xs) q) x.1 ws h.1 s.1 in
    (more.0, s.0 ∙ more.1, more.2)

-- so many numbers, and nothing after them
abbrev pub phrase : {B : Type 0} (n : ℕ) → (Nums n → B) → Rest → Result B TextFault
phrase n k r = nums_then n r (λ x r. end_then r (k x))

pub phrase_ok : {B : Type 0} (n : ℕ) (k : Nums n → B) (r : Rest) (c : B) → phrase n k r ≡ Ok c → (x : Nums n) × AllFit n x × (texts r.todo ≡ decimals n x []) × (k x ≡ c)
phrase_ok n k r c e =
    let h = nums_then_ok n r (λ x r. end_then r (k x)) c e in
    let d = end_then_ok h.1 (k h.0) c h.4 in
    (h.0, h.2, h.3 ∙ ap (decimals n h.0) d.0, d.1)

pub phrase_is : {B : Type 0} (n : ℕ) (k : Nums n → B) (r : Rest) (x : Nums n) → AllFit n x → texts r.todo ≡ decimals n x [] → phrase n k r ≡ Ok (k x)
phrase_is n k r x h e = let s = nums_then_is n r (λ x r. end_then r (k x)) x [] h e in s.1 ∙ end_then_is s.0 (k x) s.2

-- Numbers, and what `decimal` writes of them.
use Rattle.std.proofs.Common.{◌≡◌, ℕ, ◌+◌, ◌-◌, ◌*◌, ◌^◌, ◌<◌, ◌≤◌, Bool, true, ◌&&◌, ltb, List, [], ◌∷◌, length, get_or, Some, None, decimal, Option, sym, refl, ap, ◌∙◌, ⊎_elim, arith, rules}
use Rattle.std.proofs.lemmas.Bool.{cond-true, cond-false, and_from, and_parts, lt-ltb, ltb-true, cases_Bool, cases_eq}
use Rattle.std.proofs.lemmas.Str.Parse.{IsNumeralModel, numerals_by_fold}
use Rattle.std.proofs.lemmas.Fmt.{digits_decimal, digits_value-decimal, decimal-digits_value, decimal_nonempty, decimal_digit, first_decimal}
use Rattle.std.proofs.lemmas.Bool.Decides.{nat_tests}
use Rattle.std.specs.Str.{all_ascii_digits}
use Rattle.reader.specs.Numbers.{digit, number_from, number_of, plain}

-- the byte b may follow the number n
abbrev pub good : ℕ → ℕ → Bool
good n b = digit b && ltb (10 * n + (b - 48)) (2 ^ 32)

-- the number that digits write after n, however large
abbrev pub read_on : ℕ → List ℕ → ℕ
read_on n [] = n
read_on n (c ∷ cs) = read_on (10 * n + (c - 48)) cs

pub own : IsNumeralModel (λ ds. all_ascii_digits ds ≡ true) (read_on 0)
own = numerals_by_fold _ (search rules) read_on (search rules)

reads_more : (n : ℕ) (w : List ℕ) → n ≤ read_on n w
reads_more n [] = omega arith
reads_more n (b ∷ bs) = let h = reads_more (10 * n + (b - 48)) bs in omega arith

from_digits : (n m : ℕ) (w : List ℕ) → n < 2 ^ 32 → number_from n w ≡ Some m → (all_ascii_digits w ≡ true) × (read_on n w ≡ m) × (m < 2 ^ 32)
from_digits n m [] h e = let s : n ≡ m = cc in (refl, s, omega arith)
from_digits n m (b ∷ bs) h e =
    let k = 10 * n + (b - 48) in
    ⊎_elim
    (λ t.
    let p = and_parts (digit b) (ltb k (2 ^ 32)) t in
    let r = from_digits k m bs (ltb-true k (2 ^ 32) p.1) (sym (cond-true (good n b) (number_from k bs) None t) ∙ e) in
    (and_from _ _ p.0 r.0, r.1, r.2))
    (λ f. let none = sym (cond-false (good n b) (number_from k bs) None f) ∙ e in cc)
    (cases_Bool (good n b))

to_digits : (n : ℕ) (w : List ℕ) → all_ascii_digits w ≡ true → read_on n w < 2 ^ 32 → number_from n w ≡ Some (read_on n w)
to_digits n [] d h = refl
to_digits n (b ∷ bs) d h =
    let k = 10 * n + (b - 48) in
    let p = and_parts (digit b) (all_ascii_digits bs) d in
    let m = reads_more k bs in
    cond-true (good n b) (number_from k bs) None (and_from _ _ p.0 (lt-ltb k (2 ^ 32) (omega arith))) ∙ to_digits k bs p.1 h

plain_gives : (w : List ℕ) → plain w ≡ true → (0 < length w) × (get_or w 0 0 ≡ 48 → length w ≡ 1)
plain_gives w e = (grind (arith, nat_tests), λ z. grind (arith, nat_tests))

plain_from : (w : List ℕ) → 0 < length w → (get_or w 0 0 ≡ 48 → length w ≡ 1) → plain w ≡ true
plain_from w h z = ⊎_elim (λ e. let one = z e in grind (arith, nat_tests)) (λ ne. grind (arith, nat_tests)) (cases_eq (get_or w 0 0) 48)

-- a word is a number just when it is what is written of that number
pub number_from_lem : (w : List ℕ) (n : ℕ) → number_of w ≡ Some n → (w ≡ decimal n) × (n < 2 ^ 32)
number_from_lem w n e =
    ⊎_elim
    (λ t.
    let p = plain_gives w t in
    let r = from_digits 0 n w (omega arith) (sym (cond-true (plain w) (number_from 0 w) None t) ∙ e) in
    let v : read_on 0 w < 2 ^ 64 = omega (arith, r.1, r.2) in
    (sym (decimal-digits_value own w r.0 p.0 p.1 v) ∙ ap decimal r.1, r.2))
    (λ f. let none = sym (cond-false (plain w) (number_from 0 w) None f) ∙ e in cc)
    (cases_Bool (plain w))

one_zero : (n : ℕ) → n < 2 ^ 32 → get_or (decimal n) 0 0 ≡ 48 → length (decimal n) ≡ 1
one_zero n h z = ⊎_elim (λ e. ap length (decimal_digit n (omega arith))) (λ ne. absurd (omega (arith, first_decimal n (omega arith) (omega arith)))) (cases_eq n 0)

pub number_to : (n : ℕ) → n < 2 ^ 32 → number_of (decimal n) ≡ Some n
number_to n h =
    let v = digits_value-decimal own n (omega arith) in
    cond-true (plain (decimal n)) (number_from 0 (decimal n)) None (plain_from (decimal n) (decimal_nonempty n (omega arith)) (one_zero n h))
    ∙ to_digits 0 (decimal n) (digits_decimal own n (omega arith)) (omega arith)
    ∙ ap Some v

-- what `number` answers is the number that the word is written of
pub written : (w : List ℕ) (r : Option ℕ) → r ≡ number_of w → (n : ℕ) → (r ≡ Some n → (w ≡ decimal n) × (n < 2 ^ 32)) × (w ≡ decimal n → n < 2 ^ 32 → r ≡ Some n)
written w r e n = (λ k. number_from_lem w n (sym e ∙ k), λ d h. e ∙ ap number_of d ∙ number_to n h)

-- The verbs, the venues and the sides are taken just by their words.
use Rattle.std.proofs.Common.{is_none, ◌≡◌, ℕ, Bool, true, ◌&&◌, not, eqb, ltb, List, length, Some, None, Option, refl}
use Rattle.std.specs.List.{list_all}
use Rattle.std.proofs.lemmas.Bool.{and_parts, ltb-true}
use Rattle.orders.specs.Sides.{side_word}
use Rattle.orders.specs.declared.side.Side.{Side}
use Rattle.orders.specs.declared.side.Side.TheVariants.{Buy, Sell}
use Rattle.venue.specs.declared.venue.Venue.{Venue}
use Rattle.venue.specs.declared.venue.Venue.TheVariants.{LitBook, DarkBook}
use Rattle.reader.specs.Numbers.{number_of}
use Rattle.reader.specs.Words.{space}
use Rattle.reader.proofs.Spacing.{solid_true}
use Rattle.verbs.specs.declared.verb.Verb.{Verb}
use Rattle.verbs.specs.declared.verb.Verb.TheVariants.{Open, Enter, Amend, Cancel, Quote, NoQuote, Halt, Resume, Close, Ask}
use Rattle.verbs.specs.Vocabulary as vocabulary
use Rattle.verbs.specs.Vocabulary.{verb_of, venue_of, side_of, verb_word, venue_word}
use Rattle.verbs.proofs.Spelling.{spelled_is}
use Rattle.commands.proofs.Next.{Names, Table}

-- the bytes of a word, and of no number
abbrev worded : List ℕ → Bool
worded w = is_none (number_of w) && (ltb 0 (length w) && list_all (λ b. not (eqb b space)) w)

is_none_true : (o : Option ℕ) → is_none o ≡ true → o ≡ None
is_none_true None e = refl
is_none_true (Some n) e = cc

-- both facts compute for a word that is written out
known : {A : Type 0} {of : List ℕ → Option A} {word : A → List ℕ} (x : A) → of (word x) ≡ Some x → worded (word x) ≡ true → Names of word x
known {word = word} x to e =
    let w = word x in
    let p = and_parts (is_none (number_of w)) (ltb 0 (length w) && list_all (λ b. not (eqb b space)) w) e in
    let q = and_parts (ltb 0 (length w)) (list_all (λ b. not (eqb b space)) w) p.1 in
    record { to = to; other = is_none_true (number_of w) p.0; some = ltb-true 0 (length w) q.0; solid = solid_true w q.1 }

verb_names : (v : Verb) → Names verb_of verb_word v
verb_names Open = known Open refl refl
verb_names Enter = known Enter refl refl
verb_names Amend = known Amend refl refl
verb_names Cancel = known Cancel refl refl
verb_names Quote = known Quote refl refl
verb_names NoQuote = known NoQuote refl refl
verb_names Halt = known Halt refl refl
verb_names Resume = known Resume refl refl
verb_names Close = known Close refl refl
verb_names Ask = known Ask refl refl

pub verbs : Table verb_of verb_word
verbs = record { from = spelled_is verb_word vocabulary.verbs; names = verb_names }

venue_names : (v : Venue) → Names venue_of venue_word v
venue_names LitBook = known LitBook refl refl
venue_names DarkBook = known DarkBook refl refl

pub venues : Table venue_of venue_word
venues = record { from = spelled_is venue_word vocabulary.venues; names = venue_names }

side_names : (s : Side) → Names side_of side_word s
side_names Buy = known Buy refl refl
side_names Sell = known Sell refl refl

pub sides : Table side_of side_word
sides = record { from = spelled_is side_word vocabulary.sides; names = side_names }

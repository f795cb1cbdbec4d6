-- The words of the session text, and what a word names.
use Rattle.std.specs.Prelude.{ℕ, suc, Bool, true, cond, ◌&&◌, List, [], ◌∷◌, length, Some, None, Option, codes, ◌==◌, slice_index}
use Rattle.orders.specs.Sides.{side_word}
use Rattle.orders.specs.declared.side.Side.{Side}
use Rattle.orders.specs.declared.side.Side.TheVariants.{Buy, Sell}
use Rattle.venue.specs.declared.venue.Venue.{Venue}
use Rattle.venue.specs.declared.venue.Venue.TheVariants.{LitBook, DarkBook}
use Rattle.verbs.specs.declared.verb.Verb.{Verb}
use Rattle.verbs.specs.declared.verb.Verb.TheVariants.{Open, Enter, Amend, Cancel, Quote, NoQuote, Halt, Resume, Close, Ask}

abbrev pub verb_word : Verb → List ℕ
verb_word Open = codes "OPEN"
verb_word Enter = codes "ENTER"
verb_word Amend = codes "AMEND"
verb_word Cancel = codes "CANCEL"
verb_word Quote = codes "QUOTE"
verb_word NoQuote = codes "NOQUOTE"
verb_word Halt = codes "HALT"
verb_word Resume = codes "RESUME"
verb_word Close = codes "CLOSE"
verb_word Ask = codes "ASK"

abbrev pub venue_word : Venue → List ℕ
venue_word LitBook = codes "LIT"
venue_word DarkBook = codes "DARK"

-- from place i on, w has the bytes of p
abbrev pub reads : List ℕ → ℕ → List ℕ → Bool
reads w i [] = true
reads w i (c ∷ p) = slice_index w i == c && reads w (suc i) p

-- w is the word p: as long, and with its bytes
abbrev pub is : List ℕ → List ℕ → Bool
is w p = length w == length p && reads w 0 p

-- the first of these that the word stands for, if there is one
abbrev pub spelled : {A : Type 0} → (word : A → List ℕ) → List A → List ℕ → Option A
spelled word [] w = None
spelled word (x ∷ xs) w = cond (is w (word x)) (Some x) (spelled word xs w)

abbrev pub verbs : List Verb
verbs = Open ∷ Enter ∷ Amend ∷ Cancel ∷ Quote ∷ NoQuote ∷ Halt ∷ Resume ∷ Close ∷ Ask ∷ []

abbrev pub venues : List Venue
venues = LitBook ∷ DarkBook ∷ []

abbrev pub sides : List Side
sides = Buy ∷ Sell ∷ []

-- what a word stands for
abbrev pub verb_of : List ℕ → Option Verb
verb_of w = spelled verb_word verbs w

abbrev pub venue_of : List ℕ → Option Venue
venue_of w = spelled venue_word venues w

abbrev pub side_of : List ℕ → Option Side
side_of w = spelled side_word sides w

-- What an entry is judged by, in every book.
use Rattle.std.specs.Prelude.{ℕ, Bool, cond, ◌&&◌, ◌||◌, is_some, Some, None, Ok, Err, Option, Result, ◌==◌}
use Rattle.orders.specs.Codes.{side_of, mark_of, kind_of}
use Rattle.orders.specs.Kinds.{limit_fits}
use Rattle.orders.specs.Ranges.{shares_fit, broker_fits}
use Rattle.orders.specs.declared.entry.Entry.{Entry}
use Rattle.orders.specs.declared.kind.Kind.{Kind}
use Rattle.orders.specs.declared.refusal.Refusal.{Refusal}
use Rattle.orders.specs.declared.refusal.Refusal.TheVariants.{WrongKind, WrongParty, WrongShares, WrongLimit, WrongMinimum}
use Rattle.terms.specs.declared.rejection.Rejection.{Rejection}
use Rattle.terms.specs.declared.rejection.Rejection.TheVariants.{BadKind, BadParty, BadShares, BadLimit, BadMinimum}

-- the refusal that a rejected entry meets, whose number is 6 to 10
abbrev pub refusal_of : Rejection → Refusal
refusal_of BadKind = WrongKind
refusal_of BadParty = WrongParty
refusal_of BadShares = WrongShares
refusal_of BadLimit = WrongLimit
refusal_of BadMinimum = WrongMinimum

-- side, broker, mark and hidden mark, where the book says whether the order may be hidden
abbrev pub party_fits : Entry → (may_hide : Bool) → Bool
party_fits e may_hide =
    is_some (side_of e.side) && broker_fits e.broker && is_some (mark_of e.mark) && (e.hidden == 0 || (may_hide && e.hidden == 1))

-- of the tests of party, shares, limit and minimum the first that fails
abbrev pub first_wrong : (party shares limit minimum : Bool) → Result (Unit {0}) Rejection
first_wrong party shares limit minimum =
    cond party (cond shares (cond limit (cond minimum (Ok tt) (Err BadMinimum)) (Err BadLimit)) (Err BadShares)) (Err BadParty)

-- a book's own part of the verdict: the kinds that it trades, those that may be hidden in it, which shares are whole
-- units, and which minimum an entry of a kind may carry, given its shares
pub record EntryRules : Type 0 where
  pub trades : Kind → Bool
  pub may_hide : Kind → Bool
  pub whole : ℕ → Bool
  pub allows : Kind → (shares minimum : ℕ) → Bool

abbrev pub verdict_at : EntryRules → Entry → Option Kind → Result (Unit {0}) Rejection
verdict_at b e None = Err BadKind
verdict_at b e (Some k) =
    cond (b.trades k)
    (first_wrong (party_fits e (b.may_hide k)) (shares_fit e.shares && b.whole e.shares) (limit_fits k e.limit) (b.allows k e.shares e.minimum))
    (Err BadKind)

-- the first wrong field of an entry: kind, party, shares, limit, minimum
abbrev pub verdict_by : EntryRules → Entry → Result (Unit {0}) Rejection
verdict_by b e = verdict_at b e (kind_of e.kind)

-- Every number that stands for a case: of sides, kinds, marks, the hidden mark and refusals.
use Rattle.std.specs.Prelude.{◌≡◌, ℕ, Bool, true, false, cond, Some, None, Option, Result, MatchResult, ◌==◌}
use Rattle.orders.specs.declared.code.UnknownCode.{UnknownCode}
use Rattle.orders.specs.declared.side.Side.{Side}
use Rattle.orders.specs.declared.side.Side.TheVariants.{Buy, Sell}
use Rattle.orders.specs.declared.kind.Kind.{Kind}
use Rattle.orders.specs.declared.kind.Kind.TheVariants.{Limit, LimitAtOnce, Market, MiddlePeg, MinimumImprovement, MinimumEach, MinimumSum, SeekImprovement}
use Rattle.orders.specs.declared.mark.Mark.{Mark}
use Rattle.orders.specs.declared.mark.Mark.TheVariants.{Attributed, Anonymous, Jitney}
use Rattle.orders.specs.declared.refusal.Refusal.{Refusal}
use Rattle.orders.specs.declared.refusal.Refusal.TheVariants.{Closed, WrongPlaces, FewFills, AtOnceWhileHalted, NotResting, WrongKind, WrongParty, WrongShares, WrongLimit, WrongMinimum, NoPlace, NoStamp, WrongQuote, WrongPhase, WrongOpening}

abbrev pub side_code : Side → ℕ
side_code Buy = 1
side_code Sell = 2

abbrev pub kind_code : Kind → ℕ
kind_code Limit = 1
kind_code LimitAtOnce = 2
kind_code Market = 3
kind_code MiddlePeg = 4
kind_code MinimumImprovement = 5
kind_code MinimumEach = 6
kind_code MinimumSum = 7
kind_code SeekImprovement = 8

abbrev pub mark_code : Mark → ℕ
mark_code Attributed = 0
mark_code Anonymous = 1
mark_code Jitney = 2

abbrev pub hidden_code : Bool → ℕ
hidden_code false = 0
hidden_code true = 1

abbrev pub refusal_number : Refusal → ℕ
refusal_number Closed = 1
refusal_number WrongPlaces = 2
refusal_number FewFills = 3
refusal_number AtOnceWhileHalted = 4
refusal_number NotResting = 5
refusal_number WrongKind = 6
refusal_number WrongParty = 7
refusal_number WrongShares = 8
refusal_number WrongLimit = 9
refusal_number WrongMinimum = 10
refusal_number NoPlace = 11
refusal_number NoStamp = 12
refusal_number WrongQuote = 13
refusal_number WrongPhase = 14
refusal_number WrongOpening = 15

-- back from a number: the case that has it, or none
abbrev pub side_of : ℕ → Option Side
side_of n = cond (n == 1) (Some Buy) (cond (n == 2) (Some Sell) None)

abbrev pub kind_of : ℕ → Option Kind
kind_of n =
    cond (n == 1) (Some Limit)
    (cond (n == 2) (Some LimitAtOnce)
    (cond (n == 3) (Some Market)
    (cond (n == 4) (Some MiddlePeg)
    (cond (n == 5) (Some MinimumImprovement)
    (cond (n == 6) (Some MinimumEach)
    (cond (n == 7) (Some MinimumSum)
    (cond (n == 8) (Some SeekImprovement) None)))))))

abbrev pub mark_of : ℕ → Option Mark
mark_of n = cond (n == 0) (Some Attributed) (cond (n == 1) (Some Anonymous) (cond (n == 2) (Some Jitney) None))

abbrev pub hidden_of : ℕ → Option Bool
hidden_of n = cond (n == 0) (Some false) (cond (n == 1) (Some true) None)

-- the code of a value, from which the value comes back
abbrev pub Encodes : {A C : Type 0} → (A → C) → (C → Option A) → A → C → Type 0
Encodes code decode x c = (c ≡ code x) × (decode c ≡ Some x)

-- the case that a number stands for, and whose number it is; or an error with the number, which then stands for none
abbrev pub Decodes : {A : Type 0} → (A → ℕ) → (ℕ → Option A) → ℕ → Result A UnknownCode → Type 0
Decodes code decode n r = MatchResult r (λ x. (decode n ≡ Some x) × (code x ≡ n)) (λ e. (decode n ≡ None) × (e.0 ≡ n))

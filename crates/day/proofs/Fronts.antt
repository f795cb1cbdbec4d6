-- A call is handed the first of the places and of the fill entries, and writes over the first of these.
use Rattle.std.proofs.Common.{◌≡◌, ℕ, ◌≤◌, min, List, ◌++◌, length, take, drop, Result, refl, ap, ◌∙◌, length-append, zero-add, arith}
use lib.Seq.{take-append_seam}
use Rattle.std.proofs.lemmas.Grind.{common_steps}
use Rattle.std.proofs.lemmas.List.{append_assoc, take-append-drop, drop-append-le}
use Rattle.orders.specs.declared.call.Fill.{Fill}
use Rattle.orders.specs.declared.call.Receipt.{Receipt}
use Rattle.orders.specs.declared.refusal.Refusal.{Refusal}
use Rattle.orders.specs.declared.row.Row.{Row}
use Rattle.matching.specs.Runs.{written}
use Rattle.book.specs.States.{Rules, State}
use Rattle.book.specs.Calls.{After, count_in, answer}
use Rattle.book.proofs.Counting.{answer_counts}
use Rattle.day.specs.declared.item.Item.{Item}
use Rattle.day.specs.Plays.{handed_in, answer_to}

-- fills written over the first entries of the front, with the entries behind it
pub laid_front : (k : ℕ) (fs old part : List Fill) → part ≡ written 0 fs (take k old) → length part ≡ length (take k old) → part ++ drop k old ≡ fs ++ drop (length fs) old
laid_front k fs old part e long =
    let is : part ≡ fs ++ drop (length fs) (take k old) = e ∙ ap (λ (n : ℕ). fs ++ drop n (take k old)) (zero-add (length fs)) in
    let short : length fs ≤ length (take k old) = omega (arith, ap length is, length-append fs (drop (length fs) (take k old)), long) in
    rw (is, append_assoc fs (drop (length fs) (take k old)) (drop k old), ← drop-append-le (length fs) (take k old) (drop k old) short, take-append-drop k old) refl

-- a call with the first k places and the first n fill entries
module _ (u : Rules) (s : State) (rows : List Row) (fills : List Fill) (i : Item) (k n : ℕ) where
  abbrev of : After
  of = answer u s i.call (length (take n fills)) (take k rows)

  pub asked : k ≡ handed_in i rows → n ≡ min i.fills (length fills) → of ≡ answer_to u (length fills) s rows i
  asked hk hn = grind (arith, common_steps)

  -- its fills lie first in the list, and its reply counts them
  module _ (part : List Fill) (e : part ≡ written 0 of.fills (take n fills)) (long : length part ≡ length (take n fills)) where
    pub laid : part ++ drop n fills ≡ of.fills ++ drop (length of.fills) fills
    laid = laid_front n of.fills fills part e long

    module _ (r : Result Receipt Refusal) (er : r ≡ of.reply) where
      counts : count_in r ≡ length of.fills
      counts = ap count_in er ∙ answer_counts u s i.call (length (take n fills)) (take k rows)

      pub made : take (count_in r) (part ++ drop n fills) ≡ of.fills
      made = rw (laid, counts) (take-append_seam of.fills (drop (length of.fills) fills))

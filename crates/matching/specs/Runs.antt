-- What an active order trades: with the first by priority, again and again.
use Rattle.std.specs.Prelude.{ℕ, zero, suc, ◌+◌, Bool, cond, ◌||◌, List, [], ◌∷◌, ◌++◌, length, take, drop, Some, None, Option, slice_set}
use Rattle.orders.specs.Rows.{order_of}
use Rattle.orders.specs.declared.call.Fill.{Fill}
use Rattle.orders.specs.declared.order.Order.{Order}
use Rattle.orders.specs.declared.row.Row.{Row}
use Rattle.matching.specs.declared.meeting.Found.{Found}
use Rattle.matching.specs.declared.meeting.Meeting.{Meeting}
use Rattle.matching.specs.Market.{Market}
use Rattle.matching.specs.Trades.{fill_of, left_active, left_passive}
use Rattle.matching.specs.Firsts.{first}
use Rattle.matching.specs.Sums.{is_touch, stops}

-- what a run leaves: the active order's row, the places, and the fills that were made
pub record Done : Type 0 where
  pub active : Row
  pub rows : List Row
  pub fills : List Fill

abbrev pub met_by : Market → (touched : Bool) → (active : Order) → List Row → Option Found → Option Meeting
met_by m touched a rows None = None
met_by m touched a rows (Some f) = cond (stops m touched a rows f.candidate.price) None (Some (record { active = a; found = f }))

abbrev pub meeting_by : Market → (touched : Bool) → (active : Option Order) → List Row → Option Meeting
meeting_by m touched None rows = None
meeting_by m touched (Some a) rows = met_by m touched a rows (first m a rows)

-- the next trade of an active order, if it has one; a row that is no order trades nothing
abbrev pub meeting : Market → (touched : Bool) → (active : Row) → List Row → Option Meeting
meeting m touched r rows = meeting_by m touched (order_of r) rows

-- whether a trade is at the touch
abbrev pub touches : Market → Meeting → Bool
touches m t = is_touch m.quote t.active.side t.found.candidate.price

-- the places after a trade
abbrev pub passed : List Row → Meeting → List Row
passed rows t = slice_set rows t.found.place (left_passive t)

abbrev pub ended : Row → List Row → Done
ended r rows = record { active = r; rows = rows; fills = [] }

abbrev pub after : List Fill → Done → Done
after fs d = record { active = d.active; rows = d.rows; fills = fs ++ d.fills }

abbrev pub turn : Market → (touched : Bool) → Row → List Row → (Bool → Row → List Row → Done) → Option Meeting → Done
turn m touched r rows go None = ended r rows
turn m touched r rows go (Some t) = after (fill_of t ∷ []) (go (touched || touches m t) (left_active t) (passed rows t))

-- at most n trades
abbrev pub run : Market → ℕ → (touched : Bool) → (active : Row) → List Row → Done
run m zero touched r rows = ended r rows
run m (suc n) touched r rows = turn m touched r rows (λ b s ss. run m n b s ss) (meeting m touched r rows)

-- fills written into a list from a place on; the rest of the list stays
abbrev pub written : (from : ℕ) → List Fill → (old : List Fill) → List Fill
written from fs old = take from old ++ (fs ++ drop (from + length fs) old)

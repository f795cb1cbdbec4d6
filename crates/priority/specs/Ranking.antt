-- The two priorities of the market.
use Rattle.std.specs.Prelude.{◌≡◌, ℕ, Bool, cond, not, ◌&&◌, ◌||◌, ◌==◌, nat_le, nat_lt, refl}
use Rattle.orders.specs.Codes.{mark_code, hidden_code}
use Rattle.orders.specs.Sides.{better}
use Rattle.orders.specs.declared.mark.Mark.TheVariants.{Attributed}
use Rattle.orders.specs.declared.order.Order.{Order}
use Rattle.orders.specs.declared.side.Side.{Side}
use Rattle.priority.specs.declared.candidate.Candidate.{Candidate}

-- of two numbers the smaller comes first; where they are equal, what follows decides
abbrev pub lower : ℕ → ℕ → (next : Bool) → Bool
lower x y next = nat_lt x y || (x == y && next)

-- of two prices the better for an active order of this side comes first; at one price, what follows decides
abbrev pub better_or : Side → ℕ → ℕ → (next : Bool) → Bool
better_or side p q next = better side p q || (p == q && next)

-- the broker is shown
abbrev pub attributed : Order → Bool
attributed o = mark_code o.mark == mark_code Attributed

-- the same broker, which counts only if the active and the resting order are both attributed
abbrev pub same_broker : (active resting : Order) → Bool
same_broker a r = attributed a && attributed r && a.broker == r.broker

abbrev pub other_broker : (active resting : Order) → ℕ
other_broker a r = cond (same_broker a r) 0 1

-- the shares left of a large order, which is visible and has 30,000 or more; 0 of any other
abbrev pub large_shares : Order → ℕ
large_shares o = cond (not o.hidden && nat_le 30000 o.left) o.left 0

-- The first of these that tells two candidates apart: the better price, visible before hidden, the same broker before
-- others, the greater of the sizes that count, the smaller stamp.
abbrev pub before_by : (active : Order) → (x y : Candidate) → (x_size y_size : ℕ) → Bool
before_by a x y m n =
    better_or a.side x.price y.price
    (lower (hidden_code x.order.hidden) (hidden_code y.order.hidden)
    (lower (other_broker a x.order) (other_broker a y.order)
    (lower n m
    (nat_lt x.order.stamp y.order.stamp))))

-- the same, where the sizes that count are a function of the orders
abbrev pub sized_before : (size : Order → ℕ) → (active : Order) → (x y : Candidate) → Bool
sized_before size a x y = before_by a x y (size x.order) (size y.order)

-- price/broker/time: no size counts
abbrev pub time_before : (active : Order) → (x y : Candidate) → Bool
time_before a x y = before_by a x y 0 0

-- price/broker/large-size/time: before time a large order goes ahead, and of two the larger
abbrev pub size_before : (active : Order) → (x y : Candidate) → Bool
size_before a x y = before_by a x y (large_shares x.order) (large_shares y.order)

-- so the first is where no shares count, and the second where those of a large order do
pub time_sized : sized_before (λ _. 0) ≡ time_before
time_sized = refl

pub size_sized : sized_before large_shares ≡ size_before
size_sized = refl

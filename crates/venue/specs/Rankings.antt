-- The priority of each book.
use Rattle.std.specs.Prelude.{◌≡◌, ℕ, Bool, cond, nat_lt, refl}
use Rattle.orders.specs.declared.order.Order.{Order}
use Rattle.priority.specs.declared.candidate.Candidate.{Candidate}
use Rattle.priority.specs.Ranking.{large_shares, sized_before, time_before, size_before}
use Rattle.venue.specs.declared.venue.Venue.{Venue}
use Rattle.venue.specs.declared.venue.Venue.TheVariants.{LitBook, DarkBook}
use Rattle.venue.specs.declared.ranking.Ranking.{Ranking}
use Rattle.venue.specs.declared.ranking.Ranking.TheVariants.{ByTime, BySize}

-- the shares that count: none, or those of a large order
abbrev pub ranking_size : Ranking → Order → ℕ
ranking_size ByTime o = 0
ranking_size BySize o = large_shares o

abbrev pub ranking_before : Ranking → (active : Order) → Candidate → Candidate → Bool
ranking_before r = sized_before (ranking_size r)

-- so the two are those of the market
pub ranking_by_time : ranking_before ByTime ≡ time_before
ranking_by_time = refl

pub ranking_by_size : ranking_before BySize ≡ size_before
ranking_by_size = refl

-- a lit book with a last sale below 400 ranks by large size, every other book by time
abbrev pub ranking_of : Venue → (last : ℕ) → Ranking
ranking_of LitBook last = cond (nat_lt last 400) BySize ByTime
ranking_of DarkBook last = ByTime

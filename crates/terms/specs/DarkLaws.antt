-- The dark terms are lawful.
use Rattle.std.specs.Prelude.{◌≡◌, ℕ, ◌≤◌, Bool, true, false, cond, IfSome, Some, None, Option}
use Rattle.std.proofs.Common.{arith}
use Rattle.std.proofs.lemmas.Bool.Decides.{nat_tests}
use Rattle.orders.specs.Kinds.{minimum_fits, limit_fits}
use Rattle.orders.specs.Quotes.{middle}
use Rattle.orders.proofs.Bounds.{limit_fits_lem, price_between, bid_below}
use Rattle.orders.specs.declared.kind.Kind.{Kind}
use Rattle.orders.specs.declared.kind.Kind.TheVariants.{Limit, LimitAtOnce, Market, MiddlePeg, MinimumImprovement, MinimumEach, MinimumSum, SeekImprovement}
use Rattle.orders.specs.declared.lot.Lot.{Lot}
use Rattle.orders.specs.declared.order.Order.{Order}
use Rattle.orders.specs.declared.quote.Quote.{Quote}
use Rattle.orders.specs.declared.side.Side.{Side}
use Rattle.orders.specs.declared.side.Side.TheVariants.{Buy, Sell}
use Rattle.terms.specs.Dark.{dark_deal, deal_at, standing, capped, inside_price, agrees, dark_rules, dark_minimum}
use Rattle.terms.specs.Taken.{Sound}

-- a price that can be dealt at
abbrev Fair : ℕ → Type 0
Fair p = (1 ≤ p) × (p ≤ 4000000)

abbrev FairOrNone : Option ℕ → Type 0
FairOrNone o = IfSome o Fair

module _ (q : Quote) where
  middle_fair : Fair (middle q)
  middle_fair =
      let b = price_between q.bid in let o = price_between q.offer in
      (omega arith, omega arith)

  inside_fair : (side : Side) → Fair (inside_price side q)
  inside_fair Buy =
      let b = price_between q.bid in let o = price_between q.offer in let l = bid_below q in let g = q.bid.ok in let h = q.offer.ok in
      (grind (arith, nat_tests), grind (arith, nat_tests))
  inside_fair Sell =
      let b = price_between q.bid in let o = price_between q.offer in let l = bid_below q in let g = q.bid.ok in let h = q.offer.ok in
      (grind (arith, nat_tests), grind (arith, nat_tests))

  capped_fair : (side : Side) (limit : ℕ) → limit_fits Limit limit ≡ true → Fair (capped side limit q)
  capped_fair Buy limit h = let o = price_between q.offer in (grind (arith, nat_tests), grind (arith, nat_tests))
  capped_fair Sell limit h = let b = price_between q.bid in (grind (arith, nat_tests), grind (arith, nat_tests))

  standing_fair : (k : Kind) (side : Side) (limit : ℕ) → limit_fits k limit ≡ true → FairOrNone (standing k side limit q)
  standing_fair Limit side limit h = capped_fair side limit h
  standing_fair LimitAtOnce side limit h = tt
  standing_fair Market side limit h = tt
  standing_fair MiddlePeg side limit h = middle_fair
  standing_fair MinimumImprovement side limit h = inside_fair side
  standing_fair MinimumEach side limit h = tt
  standing_fair MinimumSum side limit h = tt
  standing_fair SeekImprovement side limit h = tt

if_fair : (b : Bool) (o : Option ℕ) → FairOrNone o → FairOrNone (cond b o None)
if_fair true o h = h
if_fair false o h = tt

at_fair : (a r : Order) (q : Quote) (l : Lot) (o : Option ℕ) → FairOrNone o → FairOrNone (deal_at a r q l o)
at_fair a r q l None h = tt
at_fair a r q l (Some p) h = if_fair (agrees a r q l p) (Some p) h

pub dark_priced : (a r : Order) (q : Option Quote) (l : Lot) → IfSome (dark_deal a r q l) (λ p. (1 ≤ p) × (p ≤ 4000000))
dark_priced a r None l = tt
dark_priced a r (Some q) l =
    if_fair _ (deal_at a r q l (standing r.kind r.side r.limit q))
    (at_fair a r q l (standing r.kind r.side r.limit q) (standing_fair q r.kind r.side r.limit (limit_fits_lem r)))

dark_below : (l : Lot) (k : Kind) (n m : ℕ) → 1 ≤ n → dark_minimum l k n m ≡ true → m ≤ n
dark_below l Limit n m one h = grind (arith, nat_tests)
dark_below l LimitAtOnce n m one h = grind (arith, nat_tests)
dark_below l Market n m one h = grind (arith, nat_tests)
dark_below l MiddlePeg n m one h = grind (arith, nat_tests)
dark_below l MinimumImprovement n m one h = grind (arith, nat_tests)
dark_below l MinimumEach n m one h = grind (arith, nat_tests)
dark_below l MinimumSum n m one h = grind (arith, nat_tests)
dark_below l SeekImprovement n m one h = grind (arith, nat_tests)

dark_fits : (l : Lot) (k : Kind) (n m : ℕ) → m ≤ n → n ≤ 10000000 → dark_minimum l k n m ≡ true → minimum_fits k m ≡ true
dark_fits l Limit n m le most h = grind (arith, nat_tests)
dark_fits l LimitAtOnce n m le most h = grind (arith, nat_tests)
dark_fits l Market n m le most h = h
dark_fits l MiddlePeg n m le most h = grind (arith, nat_tests)
dark_fits l MinimumImprovement n m le most h = grind (arith, nat_tests)
dark_fits l MinimumEach n m le most h = grind (arith, nat_tests)
dark_fits l MinimumSum n m le most h = grind (arith, nat_tests)
dark_fits l SeekImprovement n m le most h = h

pub dark_sound : (l : Lot) → Sound (dark_rules l)
dark_sound l = record {
  hidden = λ k t h. cc;
  below = λ k n m t one h. dark_below l k n m one h;
  minimum = λ k n m t one most h. dark_fits l k n m (dark_below l k n m one h) most h;
}

-- A price, a lot and a quote are what their numbers make them: a test has one proof at most.
use Rattle.std.proofs.Common.{◌≡◌, ℕ, Bool, true, false, ◌&&◌, ltb, is_some, Some, refl, ap}
use mathlib.Core.Path.{path_j}
use mathlib.Core.Bool.{Bool-set}
use Rattle.std.proofs.lemmas.Bool.{both_ways}
use Rattle.orders.specs.Grid.{on_grid, is_lot}
use Rattle.orders.specs.Quotes.{price_if, price_of, quote_if, quote_by, quote_of}
use Rattle.orders.specs.declared.price.Price.{Price}
use Rattle.orders.specs.declared.lot.Lot.{Lot}

price_if_lem : (n : ℕ) (p : Bool) (e : on_grid n ≡ p) (t : on_grid n ≡ true) → price_if n p e ≡ Some (record { quarters = n; ok = t })
price_if_lem n true e t = ap (λ q. Some (record { quarters = n; ok = q })) (Bool-set _ _ e t)
price_if_lem n false e t = absurd (both_ways _ e t)

pub price_is : (n : ℕ) (t : on_grid n ≡ true) → price_of n ≡ Some (record { quarters = n; ok = t })
price_is n t = price_if_lem n _ refl t

pub lot_is : (n : ℕ) (p : is_lot n ≡ true) (m : ℕ) → n ≡ m → (q : is_lot m ≡ true) → ◌≡◌ {A = Lot} (record { shares = n; ok = p }) (record { shares = m; ok = q })
lot_is n p m e =
    path_j (λ y _. (q : is_lot y ≡ true) → ◌≡◌ {A = Lot} (record { shares = n; ok = p }) (record { shares = y; ok = q }))
    (λ q. ap (λ w. record { shares = n; ok = w }) (Bool-set _ _ p q)) e

quote_if_lem : (b o : Price) (p : Bool) (e : ltb b.quarters o.quarters ≡ p) (t : ltb b.quarters o.quarters ≡ true) → quote_if b o p e ≡ Some (record { bid = b; offer = o; ok = t })
quote_if_lem b o true e t = ap (λ q. Some (record { bid = b; offer = o; ok = q })) (Bool-set _ _ e t)
quote_if_lem b o false e t = absurd (both_ways _ e t)

pub quote_is : (m n : ℕ) (b o : Price) (t : ltb b.quarters o.quarters ≡ true) → Some b ≡ price_of m → Some o ≡ price_of n → Some (record { bid = b; offer = o; ok = t }) ≡ quote_of m n
quote_is m n b o t eb eo = rw (← eb, ← eo) (cc (quote_if_lem b o _ refl t))

quote_test_if : (b o : Price) (p : Bool) (e : ltb b.quarters o.quarters ≡ p) → is_some (quote_if b o p e) ≡ p
quote_test_if b o true e = refl
quote_test_if b o false e = refl

quote_test_by : (m n : ℕ) (p q : Bool) (d : on_grid m ≡ p) (e : on_grid n ≡ q) → is_some (quote_by (price_if m p d) (price_if n q e)) ≡ (p && q && ltb m n)
quote_test_by m n true true d e = quote_test_if _ _ _ refl
quote_test_by m n true false d e = refl
quote_test_by m n false q d e = refl

-- just when two numbers make a quote
pub quote_test : (m n : ℕ) → is_some (quote_of m n) ≡ (on_grid m && on_grid n && ltb m n)
quote_test m n = quote_test_by m n _ _ refl refl

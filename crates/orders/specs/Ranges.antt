-- The ranges of an order's fields, those that turn on the book or the lot apart.
use Rattle.std.specs.Prelude.{ℕ, Bool, not, ◌&&◌, ◌||◌, nat_le}
use Rattle.orders.specs.Kinds.{limit_fits, minimum_fits, hides, most_shares}
use Rattle.orders.specs.declared.kind.Kind.{Kind}

-- shares left, size, and the shares of an entry
abbrev pub shares_fit : ℕ → Bool
shares_fit n = nat_le 1 n && nat_le n most_shares

abbrev pub broker_fits : ℕ → Bool
broker_fits broker = nat_le 1 broker && nat_le broker 999

abbrev pub last_stamp : ℕ
last_stamp = 1000000

-- stamps, and numbers, which are first stamps
abbrev pub stamp_fits : ℕ → Bool
stamp_fits stamp = nat_le 1 stamp && nat_le stamp last_stamp

-- the fields that every kind has alike
abbrev pub plain_fits : (left size broker stamp number : ℕ) → Bool
plain_fits left size broker stamp number = shares_fit left && shares_fit size && broker_fits broker && stamp_fits stamp && stamp_fits number

-- the fields that turn on the kind
abbrev pub kind_fits : Kind → (limit minimum : ℕ) → (hidden : Bool) → Bool
kind_fits kind limit minimum hidden = limit_fits kind limit && minimum_fits kind minimum && (hides kind || not hidden)

-- each field of an order is in its own range; nothing is asked between one field and another
unfoldable pub order_fits : Kind → (left size limit minimum broker : ℕ) → (hidden : Bool) → (stamp number : ℕ) → Bool
order_fits kind left size limit minimum broker hidden stamp number =
    plain_fits left size broker stamp number && kind_fits kind limit minimum hidden

-- What an amendment asks for.
use Rattle.std.specs.Prelude.{ℕ, min, Bool, cond, not, ◌||◌, ◌==◌, nat_lt}
use Rattle.orders.specs.declared.entry.Entry.{Entry}
use Rattle.orders.specs.declared.row.Row.{Row}

-- what an amendment is judged as: an entry of the same order with the new shares and limit, whose minimum is no more than
-- the new shares
abbrev pub amended_entry : Row → (shares limit : ℕ) → Entry
amended_entry r shares limit = record {
  side = r.side;
  kind = r.kind;
  shares = shares;
  limit = limit;
  minimum = min r.minimum shares;
  broker = r.broker;
  mark = r.mark;
  hidden = r.hidden;
}

-- more shares than are left, or another limit
abbrev pub loses_time : Row → (shares limit : ℕ) → Bool
loses_time r shares limit = nat_lt r.left shares || not (limit == r.limit)

-- the amended order: shares left and size are the new shares, the minimum stays, and the stamp is the next if time is lost
abbrev pub amended_row : Row → (shares limit next : ℕ) → Row
amended_row r shares limit next = record {
  side = r.side;
  kind = r.kind;
  left = shares;
  size = shares;
  limit = limit;
  minimum = r.minimum;
  broker = r.broker;
  mark = r.mark;
  hidden = r.hidden;
  stamp = cond {A = ℕ} (loses_time r shares limit) next r.stamp;
  number = r.number;
}

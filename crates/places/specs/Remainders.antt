-- What an entry calls its kind, as far as it decides what becomes of a remainder.
use Rattle.std.specs.Prelude.{Bool, false, not, Some, None, Option}
use Rattle.orders.specs.Kinds.{rests}
use Rattle.orders.specs.declared.kind.Kind.{Kind}

-- a kind that rests; what is no kind does not
abbrev pub rests_as : Option Kind → Bool
rests_as None = false
rests_as (Some k) = rests k

-- a kind that does not rest; what is no kind is none
abbrev pub at_once_as : Option Kind → Bool
at_once_as None = false
at_once_as (Some k) = not (rests k)

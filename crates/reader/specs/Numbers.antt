-- Numbers as words.
use Rattle.std.specs.Prelude.{ℕ, ◌+◌, ◌-◌, ◌*◌, ◌^◌, Bool, cond, not, ◌&&◌, List, [], ◌∷◌, length, Some, None, Option, ◌==◌, nat_le, nat_lt, slice_index}

abbrev pub digit : ℕ → Bool
digit b = nat_le 48 b && nat_le b 57

-- the number that digits write, after the number n so far, as long as it is below 4,294,967,296
abbrev pub number_from : ℕ → List ℕ → Option ℕ
number_from n [] = Some n
number_from n (b ∷ bs) = cond (digit b && nat_lt (10 * n + (b - 48)) (2 ^ 32)) (number_from (10 * n + (b - 48)) bs) None

-- some byte, and no 0 in front of others
abbrev pub plain : List ℕ → Bool
plain w = nat_lt 0 (length w) && not (slice_index w 0 == 48 && nat_lt 1 (length w))

-- a number is decimal, up to 4,294,967,295, without leading zeros
abbrev pub number_of : List ℕ → Option ℕ
number_of w = cond (plain w) (number_from 0 w) None

-- Numbers as texts: decimal digits without a zero in front of others, and a minus before a negative number.
use Rattle.std.specs.Prelude.{ℕ, ℤ, pos, ◌^◌, ◌==◌, ◌&&◌, ◌||◌, not, nat_lt, nat_le, Bool, List, length, drop, slice_index, Option, Some, None, if◌then◌else◌, neg_ℤ, option_and_then}
use Rattle.std.specs.List.{list_all}
use Rattle.std.specs.Char.{is_ascii_digit}
use Rattle.std.specs.Str.Parse.{digits_value}

-- decimal digits, one at least, and no zero in front of others
abbrev pub is_decimal : List ℕ → Bool
is_decimal text = nat_lt 0 (length text) && list_all is_ascii_digit text && ((length text == 1) || not (slice_index text 0 == 48))

-- the number below 2 ^ 64 that a text is
unfoldable pub number : List ℕ → Option ℕ
number text = if is_decimal text && nat_lt (digits_value 10 text) (2 ^ 64) then Some (digits_value 10 text) else None

-- the same, from low to high
unfoldable pub number_within : ℕ → ℕ → List ℕ → Option ℕ
number_within low high text = option_and_then (λ n. if nat_le low n && nat_le n high then Some n else None) (number text)

-- the number of i64 that a text is: a minus stands only before a number that is not 0
unfoldable pub whole_number : List ℕ → Option ℤ
whole_number text =
    if slice_index text 0 == 45
    then (if is_decimal (drop 1 text) && not (slice_index text 1 == 48) && nat_le (digits_value 10 (drop 1 text)) (2 ^ 63)
    then Some (neg_ℤ (pos (digits_value 10 (drop 1 text)))) else None)
    else (if is_decimal text && nat_lt (digits_value 10 text) (2 ^ 63) then Some (pos (digits_value 10 text)) else None)

-- Numbers of decimal digits.
use Rattle.std.specs.Prelude.{ℕ, Bool, not, ◌==◌, ◌&&◌, nat_le, length}
use Rattle.std.specs.Str.{all_ascii_digits}
use Rattle.std.specs.Str.Parse.{digits_value}
use Rattle.strip_text.specs.Field.{Field}

-- one or more digits, a number within these ends
abbrev pub is_number : ℕ → ℕ → Field → Bool
is_number least most field =
    not (length field == 0) && all_ascii_digits field
    && nat_le least (digits_value 10 field) && nat_le (digits_value 10 field) most

abbrev pub number_of : Field → ℕ
number_of field = digits_value 10 field

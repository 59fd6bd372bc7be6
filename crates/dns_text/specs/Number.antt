-- Numbers as decimal digits.
use Rattle.std.specs.Prelude.{◌≡◌, ◌≤◌, ℕ, ◌+◌, ◌-◌, ◌*◌, Bool, false, List, [], ◌∷◌, Option, Some, None, nat_lt, ◌==◌, if◌then◌else◌}
use Rattle.std.specs.Char.{is_ascii_digit}
use Rattle.std.specs.Str.{all_ascii_digits}
use Rattle.std.specs.Str.Parse.{IsNumeral, digits_value}

-- A word stands for this number, which is no greater than `most`. The word has one digit or more and may have leading zeros.
pub record IsNumberText (most : ℕ) (word : List ℕ) (n : ℕ) : Type 0 where
  pub numeral : IsNumeral 10 word
  pub value : n ≡ digits_value 10 word
  pub within : n ≤ most

-- whether a word is one digit or more
abbrev pub is_digits : List ℕ → Bool
is_digits [] = false
is_digits (c ∷ word) = all_ascii_digits (c ∷ word)

-- the number, if it is no greater than `most`
abbrev pub no_more_than : ℕ → ℕ → Option ℕ
no_more_than most n = if nat_lt most n then None else Some n

-- the number that a word of digits stands for, no greater than `most`
unfoldable pub number_in : ℕ → List ℕ → Option ℕ
number_in most word = if is_digits word then no_more_than most (digits_value 10 word) else None

-- the number, if it isn't 0
abbrev pub unless_zero : ℕ → Option ℕ
unless_zero n = if n == 0 then None else Some n

-- the number whose digits are those of n and then these, octet by octet
unfoldable pub digits_in : ℕ → ℕ → List ℕ → Option ℕ
digits_in most n [] = Some n
digits_in most n (c ∷ text) =
    if is_ascii_digit c then (if nat_lt most (n * 10 + (c - 48)) then None else digits_in most (n * 10 + (c - 48)) text) else None

-- the number that a word of digits without leading zeros stands for, no greater than `most`
abbrev pub short_number_in : ℕ → List ℕ → Option ℕ
short_number_in most (c ∷ d ∷ word) = if c == 48 then None else number_in most (c ∷ d ∷ word)
short_number_in most word = number_in most word

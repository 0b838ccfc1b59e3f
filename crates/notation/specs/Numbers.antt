-- What a word reads as, where it is a decimal number. Assumes nothing.
use Rattle.std.specs.Prelude.{ℕ, ◌≤◌, cond, List, drop, ℤ, pos, neg_ℤ}
use Rattle.std.specs.Str.Parse.{IsNumeral, digits_value, starts_with_minus}
use Rattle.number.specs.Exact.{Int32}

-- the word without the minus sign that it may begin with
abbrev pub without_minus : List ℕ → List ℕ
without_minus word = cond (starts_with_minus word) (drop 1 word) word

-- the number that the digits write
abbrev pub decimal : List ℕ → ℕ
decimal digits = digits_value 10 digits

-- the same, below zero after a minus sign
abbrev pub signed_decimal : List ℕ → ℤ
signed_decimal word = cond (starts_with_minus word) (neg_ℤ (pos (decimal (without_minus word)))) (pos (decimal (without_minus word)))

-- digits alone, one or more, after a minus sign or none, and they write an integer of 32 bits
abbrev pub IsInteger : List ℕ → Type 0
IsInteger word = IsNumeral 10 (without_minus word) × Int32 (signed_decimal word)

-- digits alone, one or more, and they write at most 2147483647
abbrev pub IsNumber : List ℕ → Type 0
IsNumber word = IsNumeral 10 word × (decimal word ≤ 2147483647)

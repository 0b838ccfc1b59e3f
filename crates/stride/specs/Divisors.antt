-- The greatest common divisor in its own words, and the test of a multiple. Assumes nothing.
use Rattle.std.specs.Prelude.{ℕ, ◌%◌, Bool, ◌==◌}
use Rattle.std.specs.Int.{◌∣◌}

-- n is a multiple of d; by 0 the remainder of a number is the number itself, so that 0 has the one multiple 0
abbrev pub is_multiple : ℕ → ℕ → Bool
is_multiple d n = n % d == 0

-- g divides both, and all that divides both divides it; of 0 and m that is m
pub record Greatest (a b g : ℕ) : Type 0 where
  pub first : g ∣ a
  pub second : g ∣ b
  pub greatest : (d : ℕ) → d ∣ a → d ∣ b → d ∣ g

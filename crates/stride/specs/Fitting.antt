-- Which modulus and remainder make a stride. Assumes nothing.
use Rattle.std.specs.Prelude.{ℕ, Bool, cond, ◌&&◌, ℤ, pos, ◌==◌, int_le, int_lt, nat_le}
use Rattle.number.specs.Exact.{fits32}

-- the modulus has 16 bits; the remainder lies from 0 up to it, and at modulus 0 it is any integer of 32 bits
abbrev pub fitting : ℕ → ℤ → Bool
fitting m r = nat_le m 65535 && cond (m == 0) (fits32 r) (int_le (pos 0) r && int_lt r (pos m))

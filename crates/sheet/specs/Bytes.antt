-- Numbers in bytes. Assumes nothing.
use Rattle.std.specs.Prelude.{ℕ, ◌+◌, ◌*◌, ◌<◌, List, ℤ, slice_index}
use Rattle.std.specs.Int.{w32}
use Rattle.std.proofs.Common.{to_z}

-- a list of bytes
abbrev pub AllBytes : List ℕ → Type 0
AllBytes xs = (i : ℕ) → slice_index xs i < 256

-- the number in four bytes, the lowest first
abbrev pub little : ℕ → ℕ → ℕ → ℕ → ℕ
little b₀ b₁ b₂ b₃ = b₀ + b₁ * 256 + b₂ * 65536 + b₃ * 16777216

-- the number in the four bytes from a place on
abbrev pub word_at : List ℕ → ℕ → ℕ
word_at bs at = little (slice_index bs at) (slice_index bs (at + 1)) (slice_index bs (at + 2)) (slice_index bs (at + 3))

-- the integer in them: that whose two's complement of 32 bits they are
abbrev pub integer_at : List ℕ → ℕ → ℤ
integer_at bs at = to_z w32 (word_at bs at)

-- A record ends inside its part. Assumes nothing.
use Rattle.std.proofs.Common.{ℕ, ◌+◌, ◌*◌, ◌<◌, ◌≤◌, mul-le-mul_right, suc-mul}

pub piece-ends : (size count i : ℕ) → i < count → i * size + size ≤ count * size
piece-ends size count i h = rw (← suc-mul i size) (mul-le-mul_right size h)

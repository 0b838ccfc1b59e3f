-- What a row that was read may name. Assumes nothing.
use Rattle.std.specs.Prelude.{ℕ, ◌<◌}
use Rattle.machine.specs.declared.Row.{Row}
use Rattle.machine.specs.declared.Row.TheVariants.{End, Put, Take, Work, Fork}

-- a row names only the variables and inputs that there are, v and k of them; its places are left open
abbrev pub Known : ℕ → ℕ → Row → Type 0
Known v k End = Unit {0}
Known v k (Put x n t) = x < v
Known v k (Take x i t) = (x < v) × (i < k)
Known v k (Work x op a b t) = (x < v) × (a < v) × (b < v)
Known v k (Fork rel a b t u) = (a < v) × (b < v)

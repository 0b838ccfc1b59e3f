-- What the first byte of an entry says: 1 present, 0 absent. Assumes nothing.
use Rattle.std.specs.Prelude.{ℕ, cond, ◌==◌}
use Rattle.inspect.specs.declared.Flag.{Flag}
use Rattle.inspect.specs.declared.Flag.TheVariants.{Present, Absent, Neither}

abbrev pub flag_of : ℕ → Flag
flag_of b = cond (b == 1) Present (cond (b == 0) Absent Neither)

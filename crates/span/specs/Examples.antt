-- A few operations on spans, worked out. Assumes nothing.
use Rattle.std.specs.Prelude.{◌≡◌, true, false, pos, negsuc, Some}
use Rattle.number.specs.declared.Op.TheVariants.{Mul, Div}
use Rattle.number.specs.declared.Relation.TheVariants.{Unequal}
use Rattle.span.specs.Ends.{to, whole}
use Rattle.span.specs.Works.{narrowed, works}

pub record Examples : Type 0 where
  -- -3..2 × -4..5 is -15..12
  pub product : works Mul (to (negsuc 2) (pos 2)) (to (negsuc 3) (pos 5)) ≡ (to (negsuc 14) (pos 12), false, false)
  -- -5..5 narrowed by ≠ and 0..0 is -5..5
  pub hole : narrowed (to (negsuc 4) (pos 5)) Unequal (to (pos 0) (pos 0)) ≡ Some (to (negsuc 4) (pos 5))
  -- 1..5 narrowed by ≠ and 1..1 is 2..5
  pub trimmed : narrowed (to (pos 1) (pos 5)) Unequal (to (pos 1) (pos 1)) ≡ Some (to (pos 2) (pos 5))
  -- 7..7 ÷ -5..5 warns of zero, and is anything
  pub divided : works Div (to (pos 7) (pos 7)) (to (negsuc 4) (pos 5)) ≡ (whole, true, false)

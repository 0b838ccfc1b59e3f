-- What the tests of a span mean. Assumes nothing.
use Rattle.std.specs.Prelude.{◌≡◌, Bool, ℤ, Decides, int_le}
use Rattle.std.proofs.Common.{sym, subst}
use Rattle.std.proofs.lemmas.Bool.{and_parts, and_from}
use Rattle.number.proofs.Order.{le-from-test, test-from-le, le_trans, le_refl}
use Rattle.span.specs.declared.Span.{Span}
use Rattle.span.specs.Ends.{Within, has, covers, Covers}

pub within-lo : (s : Span) → Within s s.lo
within-lo s = record { from = le_refl s.lo; to = s.ordered }

pub within-hi : (s : Span) → Within s s.hi
within-hi s = record { from = s.ordered; to = le_refl s.hi }

pub decides-has : (s : Span) (z : ℤ) → Decides (has s z) (Within s z)
decides-has s z = (
  λ t. let p = and_parts (int_le s.lo z) (int_le z s.hi) t in record { from = le-from-test p.0; to = le-from-test p.1 },
  λ h. and_from (int_le s.lo z) (int_le z s.hi) (test-from-le h.from) (test-from-le h.to),
)

pub decides-covers : (a b : Span) → Decides (covers a b) (Covers a b)
decides-covers a b = (
  λ t z h.
      let p = and_parts (int_le a.lo b.lo) (int_le b.hi a.hi) t in
      record { from = le_trans (le-from-test p.0) h.from; to = le_trans h.to (le-from-test p.1) },
  λ all. and_from (int_le a.lo b.lo) (int_le b.hi a.hi) (test-from-le (all b.lo (within-lo b)).from) (test-from-le (all b.hi (within-hi b)).to),
)

pub covers-as : (a b : Span) (r : Bool) → r ≡ covers a b → record { value : r ≡ covers a b; means : Decides r (Covers a b) }
covers-as a b r e = record { value = e; means = subst (λ t. Decides t (Covers a b)) (sym e) (decides-covers a b) }

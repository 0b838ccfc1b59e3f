-- The rules of spans in plain statements: which integers a result has to hold, and that it is the least such span.
-- Assumes nothing.
use Rattle.std.specs.Prelude.{◌≡◌, Bool, true, false, ◌||◌, ℤ, pos, ◌≤ℤ◌, Some, None, Decides, Option}
use Rattle.number.specs.declared.Op.{Op}
use Rattle.number.specs.declared.Op.TheVariants.{Add, Sub, Mul, Div, IsLess, IsAtMost, IsEqual, IsUnequal}
use Rattle.number.specs.declared.Relation.{Relation}
use Rattle.number.specs.declared.Relation.TheVariants.{Less, AtMost, Equal, Unequal}
use Rattle.number.specs.Exact.{exact, zero_trap, range_trap}
use Rattle.number.specs.Means.{Related}
use Rattle.span.specs.declared.Span.{Span}
use Rattle.span.specs.Ends.{Within, to, whole}

-- s describes every integer of a set, and its ends lie within every span that does so
pub record LeastSpan (set : ℤ → Type 0) (s : Span) : Type 0 where
  pub all : (z : ℤ) → set z → Within s z
  pub fewest : (t : Span) → ((z : ℤ) → set z → Within t z) → (t.lo ≤ℤ s.lo) × (s.hi ≤ℤ t.hi)

-- the least span of a set, or none where the set is empty
abbrev pub LeastOf : (ℤ → Type 0) → Option Span → Type 0
LeastOf set (Some s) = LeastSpan set s
LeastOf set None = (z : ℤ) → set z → ⊥

-- some integer of a and some integer of b are so
pub record SomePair (a b : Span) (so : ℤ → ℤ → Type 0) : Type 0 where
  pub x : ℤ
  pub y : ℤ
  pub in_a : Within a x
  pub in_b : Within b y
  pub pair : so x y

-- every integer of a and every integer of b are so
abbrev pub EveryPair : Span → Span → (ℤ → ℤ → Type 0) → Type 0
EveryPair a b so = (x y : ℤ) → Within a x → Within b y → so x y

-- the results of an operation on the integers of a and b
abbrev pub Results : Op → Span → Span → ℤ → Type 0
Results op a b z = SomePair a b (λ x y. z ≡ exact op x y)

-- what working op on a and b answers: it warns of a trap exactly where some pair of integers traps so;
-- with a warning the value is every integer, and without one it is the least span of the results
pub record Worked (op : Op) (a b : Span) (r : Span × Bool × Bool) : Type 0 where
  pub zero : Decides r.1 (SomePair a b (λ x y. zero_trap op x y ≡ true))
  pub range : Decides r.2 (SomePair a b (λ x y. range_trap op x y ≡ true))
  pub warned : (r.1 || r.2) ≡ true → r.0 ≡ whole
  pub quiet : (r.1 || r.2) ≡ false → LeastSpan (Results op a b) r.0

-- what comparing a and b gives: 1 if the relation holds for every pair of integers, 0 if for none, else 0 or 1
pub record Judged (rel : Relation) (a b s : Span) : Type 0 where
  pub every : EveryPair a b (Related rel) → s ≡ to (pos 1) (pos 1)
  pub none : (SomePair a b (Related rel) → ⊥) → s ≡ to (pos 0) (pos 0)
  pub mixed : SomePair a b (Related rel) → SomePair a b (λ x y. Related rel x y → ⊥) → s ≡ to (pos 0) (pos 1)

-- so it is for the operations that compare
abbrev pub Compared : Op → Span → Span → Span → Type 0
Compared Add a b s = Unit {0}
Compared Sub a b s = Unit {0}
Compared Mul a b s = Unit {0}
Compared Div a b s = Unit {0}
Compared IsLess a b s = Judged Less a b s
Compared IsAtMost a b s = Judged AtMost a b s
Compared IsEqual a b s = Judged Equal a b s
Compared IsUnequal a b s = Judged Unequal a b s

-- the integers of a that stand in the relation to some integer of b
pub record Left (a : Span) (rel : Relation) (b : Span) (x : ℤ) : Type 0 where
  pub in_a : Within a x
  pub y : ℤ
  pub in_b : Within b y
  pub related : Related rel x y

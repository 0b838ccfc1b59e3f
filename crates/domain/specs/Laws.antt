-- What makes the operations of a domain trustworthy: four laws that tie them to a meaning. Assumes nothing.
-- The meaning says which integers a value describes. Every integer that a law speaks of is one of 32 bits.
use Rattle.std.specs.Prelude.{◌≡◌, ℕ, ◌<◌, ◌≤◌, true, false, ◌≢◌, List, map, length, ℤ, ◌≤ℤ◌, ◌<ℤ◌, Some, None, Option}
use Rattle.std.specs.List.{range_with_len}
use Rattle.number.specs.Exact.{Int32, exact, holds, zero_trap, range_trap}
use Rattle.number.specs.declared.Op.{Op}
use Rattle.number.specs.declared.Relation.{Relation}
use Rattle.domain.specs.Model.{Ops}

-- the blank cell: the blank bytes at 0 up to the width
abbrev pub blanks : {V : Type 0} → Ops V → List ℕ
blanks o = map o.blank (range_with_len 0 o.width)

-- a value is left, and it describes x
abbrev pub Keeps : {V : Type 0} → (V → ℤ → Type 0) → ℤ → Option V → Type 0
Keeps describes x (Some v) = describes v x
Keeps describes x None = ⊥

module _ {V : Type 0} (describes : V → ℤ → Type 0) (o : Ops V) where
  -- what the values describe, and which cover which
  pub record Order : Type 0 where
    pub anything_describes : (z : ℤ) → Int32 z → describes o.anything z
    pub anything_covers : (a : V) → o.covers o.anything a ≡ true
    pub value_describes : (lo hi z : ℤ) → Int32 lo → Int32 hi → lo ≤ℤ z → z ≤ℤ hi → describes (o.value lo hi) z
    pub value_empty : (lo hi : ℤ) → Int32 lo → Int32 hi → hi <ℤ lo → o.value lo hi ≡ o.anything
    pub covers_sound : (a b : V) → o.covers a b ≡ true → (z : ℤ) → Int32 z → describes b z → describes a z
    pub covers_self : (a : V) → o.covers a a ≡ true

  -- what working op on a and b answers, against what op does to integers that a and b describe
  pub record Working : Type 0 where
    pub zero_warned : (op : Op) (a b : V) (x y : ℤ) → Int32 x → Int32 y → describes a x → describes b y → (o.works op a b).1 ≡ false → zero_trap op x y ≡ false
    pub range_warned : (op : Op) (a b : V) (x y : ℤ) → Int32 x → Int32 y → describes a x → describes b y → (o.works op a b).2 ≡ false → range_trap op x y ≡ false
    pub result_described : (op : Op) (a b : V) (x y : ℤ) → Int32 x → Int32 y → describes a x → describes b y → zero_trap op x y ≡ false → range_trap op x y ≡ false → describes (o.works op a b).0 (exact op x y)

  -- narrowing loses no integer that stands in the relation to one that b describes
  pub record Narrowing : Type 0 where
    pub kept : (a : V) (rel : Relation) (b : V) (x y : ℤ) → Int32 x → Int32 y → describes a x → describes b y → holds rel x y ≡ true → Keeps describes x (o.narrows a rel b)

module _ {V : Type 0} (o : Ops V) where
  -- only a cell of the width is read, and the blank cell reads as anything
  pub record Reading : Type 0 where
    pub width_small : o.width ≤ 64
    -- a blank byte is a byte, as its type says in the code
    pub blank_byte : (i : ℕ) → o.blank i < 256
    pub blank_beyond : (i : ℕ) → o.width ≤ i → o.blank i ≡ 0
    pub blank_reads : o.width ≢ 0 → o.reads (blanks o) ≡ Some o.anything
    pub other_length : (cell : List ℕ) → length cell ≢ o.width → o.reads cell ≡ None
    pub no_width : o.width ≡ 0 → (cell : List ℕ) → o.reads cell ≡ None

-- The pair of two domains: a value of each, and it describes what both describe. Assumes nothing.
use Rattle.std.specs.Prelude.{ℕ, ◌+◌, ◌-◌, Bool, cond, not, ◌&&◌, ◌||◌, List, length, take, drop, ℤ, Some, None, Option, ◌==◌, nat_le, nat_lt}
use Rattle.domain.specs.Model.{Ops}
use Rattle.layers.specs.declared.pair.Pair.{Pair}

abbrev pub both : {A B : Type 0} → (A → ℤ → Type 0) → (B → ℤ → Type 0) → Pair A B → ℤ → Type 0
both D E v z = D v.first z × E v.second z

-- a pair where there are both
abbrev pub both_of : {A B : Type 0} → Option A → Option B → Option (Pair A B)
both_of (Some a) (Some b) = Some (record { first = a; second = b })
both_of (Some a) None = None
both_of None b = None

-- the two widths together; 0 where either is 0, and where they come to more than 64
abbrev pub pair_width : ℕ → ℕ → ℕ
pair_width a b = cond (a == 0 || b == 0 || nat_lt 64 (a + b)) 0 (a + b)

-- two results side by side; it warns where both warn
abbrev pub both_results : {A B : Type 0} → A × Bool × Bool → B × Bool × Bool → Pair A B × Bool × Bool
both_results r s = (record { first = r.0; second = s.0 }, r.1 && s.1, r.2 && s.2)

module _ {A B : Type 0} (p : Ops A) (q : Ops B) where
  -- the bytes of the first cell and then those of the second
  abbrev pub pair_blank : ℕ → ℕ
  pair_blank i = cond (nat_le (pair_width p.width q.width) i) 0 (cond (nat_lt i p.width) (p.blank i) (q.blank (i - p.width)))

  abbrev pub pair_reads : List ℕ → Option (Pair A B)
  pair_reads cell = cond (pair_width p.width q.width == 0 || not (length cell == pair_width p.width q.width)) None (both_of (p.reads (take p.width cell)) (q.reads (drop p.width cell)))

  abbrev pub pair_ops : Ops (Pair A B)
  pair_ops = record {
    width = pair_width p.width q.width;
    blank = pair_blank;
    reads = pair_reads;
    anything = record { first = p.anything; second = q.anything };
    value = λ lo hi. record { first = p.value lo hi; second = q.value lo hi };
    covers = λ a b. p.covers a.first b.first && q.covers a.second b.second;
    works = λ op a b. both_results (p.works op a.first b.first) (q.works op a.second b.second);
    narrows = λ a rel b. both_of (p.narrows a.first rel b.first) (q.narrows a.second rel b.second);
  }

-- Sums, differences, products and quotients over two intervals lie between their corners. Assumes nothing.
use Rattle.std.proofs.Common.{ℕ, suc, ◌⊎◌, ℤ, pos, negsuc, ◌+ℤ◌, ◌-ℤ◌, ◌*ℤ◌, ◌≤ℤ◌, ◌<ℤ◌, inl, inr, mul-le-mul_right, mul-le-mul_left, arith}
use lib.Signed.{quot_z}
use borrow.Author.Differences.{le_out}
use Rattle.std.proofs.lemmas.Int.{ints}
use Rattle.arith.specs.Corners.{Between, Cornered}
use Rattle.arith.proofs.Quotients.{quot-turned, quot-rises, quot-falls, quot-rises-by}

le_refl : (a : ℤ) → a ≤ℤ a
le_refl a = omega (arith, ints)

le_trans : {a b c : ℤ} → a ≤ℤ b → b ≤ℤ c → a ≤ℤ c
le_trans {a} {b} {c} p q = omega (arith, ints)

-- ---- one variable

pub rising : (f : ℤ → ℤ) (lo hi : ℤ) → ((x z : ℤ) → lo ≤ℤ x → x ≤ℤ z → z ≤ℤ hi → f x ≤ℤ f z) → Between f lo hi
rising f lo hi mono = record {
  above = λ l x p q h k. le_trans h (mono lo x (le_refl lo) p q);
  below = λ h x p q k m. le_trans (mono x hi p q (le_refl hi)) m;
}

pub falling : (f : ℤ → ℤ) (lo hi : ℤ) → ((x z : ℤ) → lo ≤ℤ x → x ≤ℤ z → z ≤ℤ hi → f z ≤ℤ f x) → Between f lo hi
falling f lo hi mono = record {
  above = λ l x p q h k. le_trans k (mono x hi p q (le_refl hi));
  below = λ h x p q k m. le_trans (mono lo x (le_refl lo) p q) k;
}

-- ---- two variables, one at a time

pub cornered : (f : ℤ → ℤ → ℤ) (a b c d : ℤ) → ((y : ℤ) → c ≤ℤ y → y ≤ℤ d → Between (λ x. f x y) a b) → Between (f a) c d → Between (f b) c d → Cornered f a b c d
cornered f a b c d across at_a at_b = record {
  above = λ l x y p q s t ac ad bc bd. (across y s t).above l x p q (at_a.above l y s t ac ad) (at_b.above l y s t bc bd);
  below = λ h x y p q s t ac ad bc bd. (across y s t).below h x p q (at_a.below h y s t ac ad) (at_b.below h y s t bc bd);
}

-- ---- sums and differences

pub sum-corners : (a b c d : ℤ) → Cornered ◌+ℤ◌ a b c d
sum-corners a b c d = cornered ◌+ℤ◌ a b c d
    (λ y _ _. rising (λ x. x +ℤ y) a b (λ x z _ h _. omega (arith, ints)))
    (rising (λ y. a +ℤ y) c d (λ y z _ h _. omega (arith, ints)))
    (rising (λ y. b +ℤ y) c d (λ y z _ h _. omega (arith, ints)))

pub difference-corners : (a b c d : ℤ) → Cornered ◌-ℤ◌ a b c d
difference-corners a b c d = cornered ◌-ℤ◌ a b c d
    (λ y _ _. rising (λ x. x -ℤ y) a b (λ x z _ h _. omega (arith, ints)))
    (falling (λ y. a -ℤ y) c d (λ y z _ h _. omega (arith, ints)))
    (falling (λ y. b -ℤ y) c d (λ y z _ h _. omega (arith, ints)))

-- ---- products

times-rises : (x z : ℤ) (n : ℕ) → x ≤ℤ z → (x *ℤ pos n) ≤ℤ (z *ℤ pos n)
times-rises x z n h = omega (arith, ints, mul-le-mul_right n (le_out x z h))

times-falls : (x z : ℤ) (n : ℕ) → x ≤ℤ z → (z *ℤ negsuc n) ≤ℤ (x *ℤ negsuc n)
times-falls x z n h = omega (arith, ints, mul-le-mul_right (suc n) (le_out x z h))

by-rises : (y z : ℤ) (n : ℕ) → y ≤ℤ z → (pos n *ℤ y) ≤ℤ (pos n *ℤ z)
by-rises y z n h = omega (arith, ints, mul-le-mul_left n (le_out y z h))

by-falls : (y z : ℤ) (n : ℕ) → y ≤ℤ z → (negsuc n *ℤ z) ≤ℤ (negsuc n *ℤ y)
by-falls y z n h = omega (arith, ints, mul-le-mul_left (suc n) (le_out y z h))

times-between : (y a b : ℤ) → Between (λ x. x *ℤ y) a b
times-between (pos n) a b = rising (λ x. x *ℤ pos n) a b (λ x z _ h _. times-rises x z n h)
times-between (negsuc n) a b = falling (λ x. x *ℤ negsuc n) a b (λ x z _ h _. times-falls x z n h)

by-between : (x c d : ℤ) → Between (λ y. x *ℤ y) c d
by-between (pos n) c d = rising (λ y. pos n *ℤ y) c d (λ y z _ h _. by-rises y z n h)
by-between (negsuc n) c d = falling (λ y. negsuc n *ℤ y) c d (λ y z _ h _. by-falls y z n h)

pub product-corners : (a b c d : ℤ) → Cornered ◌*ℤ◌ a b c d
product-corners a b c d = cornered ◌*ℤ◌ a b c d (λ y _ _. times-between y a b) (by-between a c d) (by-between b c d)

-- ---- quotients

quot-between : (y a b : ℤ) → Between (λ x. quot_z x y) a b
quot-between (pos n) a b = rising (λ x. quot_z x (pos n)) a b (λ x z _ h _. quot-rises x z n h)
quot-between (negsuc n) a b = falling (λ x. quot_z x (negsuc n)) a b
    (λ x z _ h _. rw (quot-turned x n, quot-turned z n) (omega (arith, ints, quot-rises x z (suc n) h)))

-- an interval of divisors without 0
abbrev pub OneSided : ℤ → ℤ → Type 0
OneSided c d = (pos 0 <ℤ c) ⊎ (d <ℤ pos 0)

-- two positive divisors, or two negative ones, in order: the quotient of a dividend that is not negative falls
falls-right : (a : ℕ) (y z : ℤ) → pos 0 <ℤ y → y ≤ℤ z → quot_z (pos a) z ≤ℤ quot_z (pos a) y
falls-right a (pos m) (pos n) s h = quot-falls a m n (omega (arith, ints)) (omega (arith, ints))
falls-right a (pos m) (negsuc n) s h = absurd h.le
falls-right a (negsuc m) z s h = absurd s.lt

falls-left : (a : ℕ) (y z : ℤ) → z <ℤ pos 0 → y ≤ℤ z → quot_z (pos a) z ≤ℤ quot_z (pos a) y
falls-left a (negsuc m) (negsuc n) s h = omega (arith, ints, quot-falls a (suc n) (suc m) (omega arith) (omega (arith, ints)))
falls-left a (negsuc m) (pos n) s h = absurd (omega (arith, ints))
falls-left a (pos m) (negsuc n) s h = absurd h.le
falls-left a (pos m) (pos n) s h = absurd (omega (arith, ints))

-- and that of a negative dividend rises
rises-right : (a : ℕ) (y z : ℤ) → pos 0 <ℤ y → y ≤ℤ z → quot_z (negsuc a) y ≤ℤ quot_z (negsuc a) z
rises-right a (pos m) (pos n) s h = quot-rises-by a m n (omega (arith, ints)) (omega (arith, ints))
rises-right a (pos m) (negsuc n) s h = absurd h.le
rises-right a (negsuc m) z s h = absurd s.lt

rises-left : (a : ℕ) (y z : ℤ) → z <ℤ pos 0 → y ≤ℤ z → quot_z (negsuc a) y ≤ℤ quot_z (negsuc a) z
rises-left a (negsuc m) (negsuc n) s h = omega (arith, ints, quot-rises-by a (suc n) (suc m) (omega arith) (omega (arith, ints)))
rises-left a (negsuc m) (pos n) s h = absurd (omega (arith, ints))
rises-left a (pos m) (negsuc n) s h = absurd h.le
rises-left a (pos m) (pos n) s h = absurd (omega (arith, ints))

divisor-between : (x c d : ℤ) → OneSided c d → Between (quot_z x) c d
divisor-between (pos a) c d (inl s) = falling (quot_z (pos a)) c d (λ y z p h _. falls-right a y z (omega (arith, ints)) h)
divisor-between (pos a) c d (inr s) = falling (quot_z (pos a)) c d (λ y z _ h q. falls-left a y z (omega (arith, ints)) h)
divisor-between (negsuc a) c d (inl s) = rising (quot_z (negsuc a)) c d (λ y z p h _. rises-right a y z (omega (arith, ints)) h)
divisor-between (negsuc a) c d (inr s) = rising (quot_z (negsuc a)) c d (λ y z _ h q. rises-left a y z (omega (arith, ints)) h)

pub quotient-corners : (a b c d : ℤ) → OneSided c d → Cornered quot_z a b c d
quotient-corners a b c d s = cornered quot_z a b c d (λ y _ _. quot-between y a b) (divisor-between a c d s) (divisor-between b c d s)

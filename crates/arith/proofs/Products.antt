-- The laws of the product of integers. Assumes nothing.
use Rattle.std.proofs.Common.{◌≡◌, ℕ, ◌*◌, ℤ, ◌+ℤ◌, ◌*ℤ◌, neg_ℤ, ap, arith}
use borrow.Author.Differences.{up, down, sum_is_lem, product_is, neg_is}
use Rattle.std.proofs.lemmas.Int.{ints}

pub times-sum : (c a b : ℤ) → c *ℤ (a +ℤ b) ≡ (c *ℤ a) +ℤ (c *ℤ b)
times-sum c a b = omega (arith, ints, ap (λ (n : ℕ). up c * n) (sum_is_lem a b), ap (λ (n : ℕ). down c * n) (sum_is_lem a b))

pub sum-times : (a b c : ℤ) → (a +ℤ b) *ℤ c ≡ (a *ℤ c) +ℤ (b *ℤ c)
sum-times a b c = omega (arith, ints, ap (λ (n : ℕ). n * up c) (sum_is_lem a b), ap (λ (n : ℕ). n * down c) (sum_is_lem a b))

pub times-neg : (c a : ℤ) → c *ℤ neg_ℤ a ≡ neg_ℤ (c *ℤ a)
times-neg c a =
    omega (arith, ints, ap (λ (n : ℕ). up c * n) (neg_is a).0, ap (λ (n : ℕ). down c * n) (neg_is a).0, ap (λ (n : ℕ). up c * n) (neg_is a).1, ap (λ (n : ℕ). down c * n) (neg_is a).1)

pub times-assoc : (a b c : ℤ) → (a *ℤ b) *ℤ c ≡ a *ℤ (b *ℤ c)
times-assoc a b c =
    omega (
      arith,
      ints,
      ap (λ (n : ℕ). n * up c) (product_is a b).0,
      ap (λ (n : ℕ). n * down c) (product_is a b).0,
      ap (λ (n : ℕ). n * up c) (product_is a b).1,
      ap (λ (n : ℕ). n * down c) (product_is a b).1,
      ap (λ (n : ℕ). up a * n) (product_is b c).0,
      ap (λ (n : ℕ). down a * n) (product_is b c).0,
      ap (λ (n : ℕ). up a * n) (product_is b c).1,
      ap (λ (n : ℕ). down a * n) (product_is b c).1,
    )

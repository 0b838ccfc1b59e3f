-- Where the results of a function over two intervals lie: between its results at the ends. Assumes nothing.
use Rattle.std.specs.Prelude.{ℤ, ◌≤ℤ◌}

-- what bounds f at both ends of lo..hi bounds it all the way
pub record Between (f : ℤ → ℤ) (lo hi : ℤ) : Type 0 where
  pub above : (l x : ℤ) → lo ≤ℤ x → x ≤ℤ hi → l ≤ℤ f lo → l ≤ℤ f hi → l ≤ℤ f x
  pub below : (h x : ℤ) → lo ≤ℤ x → x ≤ℤ hi → f lo ≤ℤ h → f hi ≤ℤ h → f x ≤ℤ h

-- what bounds f at the four pairs of ends of a..b and c..d bounds it at every pair
pub record Cornered (f : ℤ → ℤ → ℤ) (a b c d : ℤ) : Type 0 where
  pub above : (l x y : ℤ) → a ≤ℤ x → x ≤ℤ b → c ≤ℤ y → y ≤ℤ d → l ≤ℤ f a c → l ≤ℤ f a d → l ≤ℤ f b c → l ≤ℤ f b d → l ≤ℤ f x y
  pub below : (h x y : ℤ) → a ≤ℤ x → x ≤ℤ b → c ≤ℤ y → y ≤ℤ d → f a c ≤ℤ h → f a d ≤ℤ h → f b c ≤ℤ h → f b d ≤ℤ h → f x y ≤ℤ h

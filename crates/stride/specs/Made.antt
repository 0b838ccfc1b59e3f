-- The strides that a modulus and a remainder make, and what their invariant says. Assumes nothing.
use Rattle.std.specs.Prelude.{◌≡◌, ℕ, ◌<◌, ◌≤◌, Bool, true, false, ◌&&◌, ℤ, pos, ◌≤ℤ◌, ◌<ℤ◌, Some, None, ◌≢◌, int_le, int_lt, nat_le, refl}
use Rattle.std.proofs.Math.Bool.{Bool-set}
use Rattle.std.proofs.Common.{⊎_elim, sym, ap, ap₂, subst, ◌∙◌, arith}
use Rattle.std.specs.Option.{unwrap_or}
use Rattle.std.proofs.lemmas.Int.{ints}
use Rattle.std.proofs.lemmas.Bool.{and_parts, and_from, and_right, both_ways, leb-true, le-leb, eq-eqb, ne_eqb, cases_eq, cond-true, cond-false}
use Rattle.number.specs.Exact.{Int32}
use Rattle.number.proofs.Order.{fits-from-test, test-from-fits, le-from-test, lt-from-test, test-from-le, test-from-lt}
use Rattle.stride.specs.declared.value.Stride.{Stride}
use Rattle.arith.specs.Residues.{Congruent}
use Rattle.stride.specs.Fitting.{fitting}
use Rattle.stride.specs.Strides.{describes, made_if, made, anything, strided}

-- what the invariant says
pub record Facts (m : ℕ) (r : ℤ) : Type 0 where
  pub small : m ≤ 65535
  pub int32 : Int32 r
  pub above : 0 < m → pos 0 ≤ℤ r
  pub below : 0 < m → r <ℤ pos m

pub facts : (m : ℕ) (r : ℤ) → fitting m r ≡ true → Facts m r
facts m r e = ⊎_elim none some (cases_eq m 0)
  where
    low : m ≤ 65535
    low = leb-true m 65535 (and_parts (nat_le m 65535) _ e).0

    none : m ≡ 0 → Facts m r
    none z = record {
      small = low;
      int32 = fits-from-test (sym (cond-true _ _ _ (eq-eqb m 0 z)) ∙ (and_parts (nat_le m 65535) _ e).1);
      above = λ p. absurd (omega arith);
      below = λ p. absurd (omega arith);
    }

    some : (m ≢ 0) → Facts m r
    some z =
        let p = and_parts (int_le (pos 0) r) (int_lt r (pos m)) (sym (cond-false _ _ _ (ne_eqb m 0 z)) ∙ (and_parts (nat_le m 65535) _ e).1) in
        let a = le-from-test {a = pos 0} {b = r} p.0 in
        let b = lt-from-test {a = r} {b = pos m} p.1 in
        record { small = low; int32 = record { low = omega (arith, ints, a); high = omega (arith, ints, b, low) }; above = λ _. a; below = λ _. b }

pub stride-facts : (s : Stride) → Facts s.modulus s.remainder
stride-facts s = facts s.modulus s.remainder s.fits

pub fitting-constant : (r : ℤ) → Int32 r → fitting 0 r ≡ true
fitting-constant r h = test-from-fits h

pub fitting-moving : (m : ℕ) (r : ℤ) → m ≤ 65535 → 0 < m → pos 0 ≤ℤ r → r <ℤ pos m → fitting m r ≡ true
fitting-moving m r h p a b = and_from _ _ (le-leb m 65535 h) (cond-false _ _ _ (ne_eqb m 0 (omega arith)) ∙ and_from _ _ (test-from-le a) (test-from-lt b))

-- a stride that fits is made
made_if-fits : (m : ℕ) (r : ℤ) (t : Bool) (d : fitting m r ≡ t) (e : fitting m r ≡ true) → made_if m r t d ≡ Some (record { modulus = m; remainder = r; fits = e })
made_if-fits m r true d e = λ i. Some (record { modulus = m; remainder = r; fits = Bool-set _ _ d e i })
made_if-fits m r false d e = absurd (both_ways (fitting m r) d e)

pub made-fits : (m : ℕ) (r : ℤ) (e : fitting m r ≡ true) → made m r ≡ Some (record { modulus = m; remainder = r; fits = e })
unfolding made
made-fits m r e = made_if-fits m r (fitting m r) refl e

made_if-breaks : (m : ℕ) (r : ℤ) (t : Bool) (d : fitting m r ≡ t) → fitting m r ≡ false → made_if m r t d ≡ None
made_if-breaks m r true d e = absurd (both_ways (fitting m r) e d)
made_if-breaks m r false d e = refl

pub made-breaks : (m : ℕ) (r : ℤ) → fitting m r ≡ false → made m r ≡ None
unfolding made
made-breaks m r e = made_if-breaks m r (fitting m r) refl e

pub strided-fits : (m : ℕ) (r : ℤ) (e : fitting m r ≡ true) → strided m r ≡ record { modulus = m; remainder = r; fits = e }
strided-fits m r e = ap (λ o. unwrap_or o anything) (made-fits m r e)

pub strided-describes : (m : ℕ) (r z : ℤ) → fitting m r ≡ true → Congruent m z r → describes (strided m r) z
strided-describes m r z e h = subst (λ s. describes s z) (sym (strided-fits m r e)) h

-- what the code makes is what the model makes
pub some-made : (m : ℕ) (r s : ℤ) (e : fitting m s ≡ true) → s ≡ r → Some (record { modulus = m; remainder = s; fits = e }) ≡ made m r
some-made m r s e h = sym (made-fits m s e) ∙ ap (made m) h

pub whole_is : (e : fitting 1 (pos 0) ≡ true) → record { modulus = 1; remainder = pos 0; fits = e } ≡ anything
whole_is e = λ i. record { modulus = 1; remainder = pos 0; fits = Bool-set _ _ e refl i }

pub breaks : (m : ℕ) (r s t : ℤ) → s ≡ r → t ≡ pos m → (m ≢ 0) → (int_le (pos 0) s && int_lt s t) ≡ false → fitting m r ≡ false
breaks m r s t h i z e = and_right _ _ (cond-false _ _ _ (ne_eqb m 0 z) ∙ sym (ap₂ (λ x y. int_le (pos 0) x && int_lt x y) h i) ∙ e)

-- The cells that are written read as their values. Assumes nothing but the law of reading of the domains below.
use Rattle.std.proofs.Common.{◌≡◌, ℕ, ◌+◌, ◌*◌, ◌/◌, ◌%◌, ◌≤◌, true, false, cond, eqb, ◌≢◌, List, ◌∷◌, ◌++◌, length, is_ok, Some, Ok, Result, sym, refl, ap, ◌∙◌, ap₂, ⊎_elim, arith, length-append}
use Rattle.std.proofs.lemmas.List.{take_at, drop_at}
use Rattle.std.proofs.lemmas.Int.{ints}
use Rattle.std.proofs.lemmas.Bool.{cases_eq, cond-false, or_from, ne_eqb, eq-eqb, not_from_true}
use Rattle.sheet.proofs.Accepted.{integer-read}
use Rattle.domain.specs.Model.{Ops}
use Rattle.domain.specs.Laws.{Reading}
use Rattle.layers.specs.Marks.{marking, marked_width, nonzero_ops}
use Rattle.layers.specs.Pairs.{both_of, pair_width, pair_ops}
use Rattle.layers.specs.declared.nonzero.Nonzero.{Nonzero}
use Rattle.layers.specs.declared.pair.Pair.{Pair}
use Rattle.layers.specs.PairLaws.{wide}
use Rattle.span.specs.Ends.{read_span, spanned}
use Rattle.span.specs.declared.Span.{Span}
use Rattle.span.specs.Made.{spanned-is}
use Rattle.stride.specs.Strides.{made, reads}
use Rattle.stride.specs.declared.value.Stride.{Stride}
use Rattle.stride.specs.Made.{stride-facts, made-fits}
use Rattle.notation.specs.Cells.{Holds, span_cell, stride_cell, marked_cell, pair_cell}

-- what a vector holds once some bytes were added
pub pushed : {E : Type 0} (old new more : List ℕ) (r : Result (Unit {0}) E) (u : Unit {0}) → new ≡ cond (is_ok r) (old ++ more) old → r ≡ Ok u → new ≡ old ++ more
pushed old new more r u e w = e ∙ ap (λ x. cond (is_ok x) (old ++ more) old) w

pub span-held : (s : Span) → read_span (span_cell s) ≡ Some s
span-held s =
    ap₂ spanned
    (integer-read s.lo (record { low = s.low; high = omega (arith, ints, s.ordered, s.high) }))
    (integer-read s.hi (record { low = omega (arith, ints, s.low, s.ordered); high = s.high }))
    ∙ sym (spanned-is s s.lo s.hi refl refl)

-- a number of 16 bits is made up of its two digits in base 256
two_digits : (m : ℕ) → m ≤ 65535 → m % 256 + m / 256 % 256 * 256 ≡ m
two_digits m h = omega arith

pub stride-held : (s : Stride) → reads (stride_cell s) ≡ Some s
stride-held s =
    let f = stride-facts s in
    ap₂ made (two_digits s.modulus (omega (arith, f))) (integer-read s.remainder f.int32) ∙ made-fits s.modulus s.remainder s.fits

pub marked-held : {A : Type 0} (o : Ops A) (cell : A → List ℕ) (v : Nonzero A) → Holds o (cell v.inner) v.inner → Holds (nonzero_ops o) (marked_cell cell v) v
marked-held o cell v inner h =
    let some : o.width ≢ 0 = λ e. h (ap marked_width e) in
    let none : eqb (marked_width o.width) 0 ≡ false = ne_eqb _ 0 h in
    elim v.marked as (λ m. (nonzero_ops o).reads (cond m 1 0 ∷ cell v.inner) ≡ Some (record { marked = m; inner = v.inner })) [
      | true ↦ cond-false _ _ _ (or_from _ _ none refl) ∙ ap (marking true) (inner some)
      | false ↦ cond-false _ _ _ (or_from _ _ none refl) ∙ ap (marking false) (inner some)
    ]

-- only a cell of the width is read
reads-length : {A : Type 0} (o : Ops A) → Reading o → (cell : List ℕ) (v : A) → o.reads cell ≡ Some v → length cell ≡ o.width
reads-length o l cell v e = ⊎_elim (λ same. same) (λ other. let n = l.other_length cell other in let z : ◌≡◌ {A = ℕ} 0 1 = cc in absurd (omega arith)) (cases_eq (length cell) o.width)

module _ {A B : Type 0} (p : Ops A) (q : Ops B) (l : Reading p) (m : Reading q) where
  pub pair_held : (cell : A → List ℕ) (other : B → List ℕ) (v : Pair A B) → Holds p (cell v.first) v.first → Holds q (other v.second) v.second → Holds (pair_ops p q) (pair_cell cell other v) v
  pair_held cell other v first second h =
      let w = wide p.width q.width h in
      let a = cell v.first in
      let b = other v.second in
      let e = first w.first in
      let f = second w.second in
      let la = reads-length p l a v.first e in
      let lb = reads-length q m b v.second f in
      let long : length (a ++ b) ≡ pair_width p.width q.width = length-append a b ∙ ap₂ ◌+◌ la lb ∙ sym w.sum in
      cond-false _ _ _ (or_from _ _ (ne_eqb _ 0 h) (not_from_true _ (eq-eqb _ _ long)))
      ∙ ap₂ both_of (ap p.reads (take_at a b p.width la) ∙ e) (ap q.reads (drop_at a b p.width la) ∙ f)

-- Spans keep the laws of a domain. Assumes nothing.
use Rattle.std.specs.Prelude.{◌≡◌, ℕ, zero, suc, ◌<◌, ◌≤◌, true, false, not, ◌||◌, length, ℤ, ◌≤ℤ◌, Some, None, Option, ◌==◌, int_le, slice_index, refl}
use Rattle.std.proofs.Common.{sym, ap, subst, ⊎_elim, arith, lit<, lit≤}
use Rattle.std.proofs.lemmas.Bool.{and_from, both_ways, cases_Bool, cond-false, ne_eqb, not-false, not_from_false, and_cases}
use Rattle.number.specs.declared.Op.{Op}
use Rattle.number.specs.declared.Relation.{Relation}
use Rattle.number.specs.Exact.{Int32, least, greatest, exact, fits32, zero_trap, range_trap}
use Rattle.number.proofs.Order.{le_refl, le_trans, test-from-le, fits-from-test}
use Rattle.number.proofs.Meaning.{decides-holds}
use Rattle.domain.specs.Laws.{Order, Reading, Working, Narrowing, Keeps, blanks}
use Rattle.span.specs.declared.Span.{Span}
use Rattle.span.specs.Ends.{Within, spanned, whole, or_whole, covers, read_span, word}
use Rattle.span.specs.Works.{works, narrowed}
use Rattle.span.specs.Means.{LeastOf, Left}
use Rattle.span.specs.Model.{blank_cell, span_ops}
use Rattle.span.specs.Made.{Made, one, none, spanned-made, spanned-is, none-order}
use Rattle.span.specs.Covering.{decides-covers}
use Rattle.span.specs.Narrow.{narrowed-least}
use Rattle.span.specs.Results.{works-worked}

-- ---- order

whole-describes : (z : ℤ) → Int32 z → Within whole z
unfolding whole
whole-describes z h = record { from = h.low; to = h.high }

whole_covers : (a : Span) → covers whole a ≡ true
unfolding whole
whole_covers a = and_from (int_le least a.lo) (int_le a.hi greatest) (test-from-le a.low) (test-from-le a.high)

value_describes : (lo hi z : ℤ) → Int32 lo → Int32 hi → lo ≤ℤ z → z ≤ℤ hi → Within (or_whole (spanned lo hi)) z
value_describes lo hi z f g p q = go (spanned-made lo hi)
  where
    go : {o : Option Span} → Made lo hi o → Within (or_whole o) z
    go (one s d e) = record { from = subst (λ l. l ≤ℤ z) (sym d) p; to = subst (λ h. z ≤ℤ h) (sym e) q }
    go (none _) = whole-describes z (record { low = le_trans f.low p; high = le_trans q g.high })

pub span-order : Order Within span_ops
span-order = record {
  anything_describes = whole-describes;
  anything_covers = whole_covers;
  value_describes = value_describes;
  value_empty = λ lo hi _ _ h. ap or_whole (sym (none-order lo hi h));
  covers_sound = λ a b t z _ h. (decides-covers a b).0 t z h;
  covers_self = λ a. and_from (int_le a.lo a.lo) (int_le a.hi a.hi) (test-from-le (le_refl a.lo)) (test-from-le (le_refl a.hi));
}

-- ---- reading

blank_byte : (i : ℕ) → slice_index blank_cell i < 256
blank_byte zero = lit< tt
blank_byte (suc zero) = lit< tt
blank_byte (suc (suc zero)) = lit< tt
blank_byte (suc (suc (suc zero))) = lit< tt
blank_byte (suc (suc (suc (suc zero)))) = lit< tt
blank_byte (suc (suc (suc (suc (suc zero))))) = lit< tt
blank_byte (suc (suc (suc (suc (suc (suc zero)))))) = lit< tt
blank_byte (suc (suc (suc (suc (suc (suc (suc zero))))))) = lit< tt
blank_byte (suc (suc (suc (suc (suc (suc (suc (suc n)))))))) = lit< tt

blank_beyond : (i : ℕ) → 8 ≤ i → slice_index blank_cell i ≡ 0
blank_beyond zero h = absurd (omega arith)
blank_beyond (suc zero) h = absurd (omega arith)
blank_beyond (suc (suc zero)) h = absurd (omega arith)
blank_beyond (suc (suc (suc zero))) h = absurd (omega arith)
blank_beyond (suc (suc (suc (suc zero)))) h = absurd (omega arith)
blank_beyond (suc (suc (suc (suc (suc zero))))) h = absurd (omega arith)
blank_beyond (suc (suc (suc (suc (suc (suc zero)))))) h = absurd (omega arith)
blank_beyond (suc (suc (suc (suc (suc (suc (suc zero))))))) h = absurd (omega arith)
blank_beyond (suc (suc (suc (suc (suc (suc (suc (suc n)))))))) h = refl

blank_reads : read_span (blanks span_ops) ≡ Some whole
unfolding whole
blank_reads = sym (spanned-is whole least greatest refl refl)

pub span-reading : Reading span_ops
span-reading = record {
  width_small = lit≤ tt;
  blank_byte = blank_byte;
  blank_beyond = blank_beyond;
  blank_reads = λ _. blank_reads;
  other_length = λ cell n. cond-false (length cell == 8) (spanned (word cell 0) (word cell 4)) None (ne_eqb (length cell) 8 n);
  no_width = λ e _. absurd (omega arith);
}

-- ---- working

result_described : (op : Op) (a b : Span) (x y : ℤ) → Within a x → Within b y → zero_trap op x y ≡ false → range_trap op x y ≡ false → Within (works op a b).0 (exact op x y)
result_described op a b x y p q nz nr =
    let w = works-worked op a b in
    ⊎_elim
    (λ t. subst (λ s. Within s (exact op x y)) (sym (w.warned t)) (whole-describes (exact op x y) fits))
    (λ t. (w.quiet t).all (exact op x y) (record { x = x; y = y; in_a = p; in_b = q; pair = refl }))
    (cases_Bool ((works op a b).1 || (works op a b).2))
  where
    fits : Int32 (exact op x y)
    fits = fits-from-test (⊎_elim
        (λ f. absurd (both_ways (not (zero_trap op x y)) f (not_from_false (zero_trap op x y) nz)))
        (λ f. not-false (fits32 (exact op x y)) f)
        (and_cases (not (zero_trap op x y)) (not (fits32 (exact op x y))) nr))

pub span-working : Working Within span_ops
span-working = record {
  zero_warned = λ op a b x y _ _ p q n. ⊎_elim
      (λ t. absurd (both_ways (works op a b).1 n ((works-worked op a b).zero.1 (record { x = x; y = y; in_a = p; in_b = q; pair = t }))))
      (λ f. f)
      (cases_Bool (zero_trap op x y));
  range_warned = λ op a b x y _ _ p q n. ⊎_elim
      (λ t. absurd (both_ways (works op a b).2 n ((works-worked op a b).range.1 (record { x = x; y = y; in_a = p; in_b = q; pair = t }))))
      (λ f. f)
      (cases_Bool (range_trap op x y));
  result_described = λ op a b x y _ _ p q nz nr. result_described op a b x y p q nz nr;
}

-- ---- narrowing

left-keeps : (a : Span) (rel : Relation) (b : Span) (x : ℤ) (o : Option Span) → LeastOf (Left a rel b) o → Left a rel b x → Keeps Within x o
left-keeps a rel b x (Some s) l h = l.all x h
left-keeps a rel b x None l h = l x h

pub span-narrowing : Narrowing Within span_ops
span-narrowing = record { kept = λ a rel b x y _ _ p q t. left-keeps a rel b x (narrowed a rel b) (narrowed-least a rel b) (record { in_a = p; y = y; in_b = q; related = (decides-holds rel x y).0 t }) }

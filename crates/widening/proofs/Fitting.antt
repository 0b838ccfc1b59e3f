-- A sheet that can be widened: its length, what is answered, and what is written. Assumes nothing.
use Rattle.std.proofs.Common.{◌≡◌, ℕ, ◌+◌, ◌*◌, ◌<◌, ◌≤◌, not, eqb, List, ◌++◌, length, Ok, Err, sym, refl, ap, ◌∙◌, subst, arith}
use Rattle.std.proofs.lemmas.Bool.{eqb-true, le-leb, lt-leb, cond-true, cond-false}
use Rattle.scan.specs.Scan.{unless}
use Rattle.scan.proofs.Scans.{stage, held, ok_same}
use Rattle.sheet.specs.Parts.{Parts}
use Rattle.sheet.specs.Sheets.{sheet_of}
use Rattle.sheet.specs.declared.refusals.Refusal.TheVariants.{NoWidth, TableSize}
use Rattle.domain.specs.Model.{Ops}
use Rattle.rules.specs.Tables.{table_of}
use Rattle.widening.specs.Widened.{head_bytes, sheet_bytes, widened_table, widened_parts, widened_in, widened}
use Rattle.widening.specs.Writes.{head_with, table_with, sheet_with}
use Rattle.widening.specs.Answers.{table_sized, widths_right, fitting, sized, widen_answer}
use Rattle.widening.specs.declared.WidenError.TheVariants.{Short}
use Rattle.widening.proofs.Moved.{whole}
use Rattle.widening.proofs.Sizes.{table-with-sized}

module _ {A B : Type 0} (p : Ops A) (q : Ops B) where
  widths-whole : (s : Parts) → widths_right p q s ≡ Ok tt → length s.table.bytes ≡ s.places * (1 + s.variables * p.width)
  widths-whole s e =
      stage (unless (not (eqb p.width 0)) NoWidth) _ tt (λ _ _ e₁.
      stage (unless (table_sized s p.width) TableSize) _ tt (λ _ f _. eqb-true _ _ (held _ _ f)) e₁) e

  module _ (bs : List ℕ) (s : Parts) (e : fitting p q bs ≡ Ok s) where
    fitting-read : sheet_of bs ≡ Ok s
    fitting-read =
        stage (sheet_of bs) _ s (λ t read e₁. stage (widths_right p q t) _ s (λ _ _ e₂. subst (λ u. sheet_of bs ≡ Ok u) (ok_same e₂) read) e₁) e

    pub fitting-whole : length s.table.bytes ≡ s.places * (1 + s.variables * p.width)
    fitting-whole =
        stage (sheet_of bs) _ s (λ t _ e₁.
        stage (widths_right p q t) _ s (λ _ right e₂.
        subst (λ (u : Parts). length u.table.bytes ≡ u.places * (1 + u.variables * p.width)) (ok_same e₂) (widths-whole t right)) e₁) e

    -- how long the widened sheet is
    size_is : length (sheet_bytes (widened_parts p q s)) ≡ 28 + length s.inputs.bytes + length s.rows.bytes + s.places * (1 + s.variables * (p.width + q.width))
    size_is =
        whole (head_bytes (widened_parts p q s)) s.inputs.bytes s.rows.bytes (widened_table q (table_of p s)) refl
        ∙ ap (λ n. 28 + length s.inputs.bytes + length s.rows.bytes + n) (table-with-sized q p.width s.variables s.places s.table.bytes fitting-whole)

    -- what is written is the widened sheet
    pub bytes-are : sheet_with q p.width s ≡ widened p q bs
    bytes-are =
        ap (λ n. head_with s.variables s.input_count (length s.inputs.bytes) (length s.rows.bytes) n
        ++ (s.inputs.bytes ++ (s.rows.bytes ++ table_with q p.width s.variables s.table.bytes s.places)))
        (sym (table-with-sized q p.width s.variables s.places s.table.bytes fitting-whole))
        ∙ sym (ap (widened_in p q) fitting-read)

    module _ (n room : ℕ) (size : n ≡ 28 + length s.inputs.bytes + length s.rows.bytes + s.places * (1 + s.variables * (p.width + q.width))) where
      pub too_short : room < n → Err (Short n) ≡ widen_answer p q bs room
      too_short h =
          ap (λ m. Err (Short m)) (size ∙ sym size_is)
          ∙ sym (ap (sized p q room) e ∙ cond-false _ _ _ (lt-leb _ room (omega (arith, size_is))))

      pub room-enough : n ≤ room → Ok n ≡ widen_answer p q bs room
      room-enough h =
          ap Ok (size ∙ sym size_is)
          ∙ sym (ap (sized p q room) e ∙ cond-true _ _ _ (le-leb _ room (omega (arith, size_is))))

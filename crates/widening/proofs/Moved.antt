-- A sheet whose parts are moved up is well-formed where it was before. Assumes nothing.
use Rattle.std.proofs.Common.{◌≡◌, ℕ, ◌+◌, ◌*◌, ◌≤◌, List, ◌++◌, length, take, drop, sym, refl, ap, ◌∙◌, mul-le-mul, arith, length-append}
use Rattle.std.proofs.lemmas.List.{take_at, take_all, drop_at, drop-drop}
use Rattle.sheet.specs.Format.{WellFormed}
use Rattle.sheet.specs.Parts.{Parts}
use Rattle.sheet.proofs.Accepted.{digits}
use Rattle.widening.specs.Widened.{head_bytes, sheet_bytes, moved_up}

-- at most 256 entries of a flag and 16 cells, each of at most 64 bytes of either domain
pub small-table : (places variables width : ℕ) → places ≤ 256 → variables ≤ 16 → width ≤ 128 → places * (1 + variables * width) ≤ 1000000
small-table places variables width h k l =
    let cells : variables * width ≤ 16 * 128 = mul-le-mul k l in
    let entry : 1 + variables * width ≤ 2049 = omega arith in
    let all : places * (1 + variables * width) ≤ 256 * 2049 = mul-le-mul h entry in
    omega arith

-- what stands behind the head, in three parts
module _ (head a b c : List ℕ) (size : length head ≡ 28) where
  pub whole : length (head ++ (a ++ (b ++ c))) ≡ 28 + length a + length b + length c
  whole = simp length-append (omega arith)

  pub first-held : a ≡ take (length a) (drop 28 (head ++ (a ++ (b ++ c))))
  first-held = sym (ap (take (length a)) (drop_at head (a ++ (b ++ c)) 28 size) ∙ take_at a (b ++ c) (length a) refl)

  pub second-held : b ≡ take (length b) (drop (28 + length a) (head ++ (a ++ (b ++ c))))
  second-held =
      sym (ap (take (length b))
      (sym (drop-drop (length a) 28 (head ++ (a ++ (b ++ c))))
      ∙ ap (drop (length a)) (drop_at head (a ++ (b ++ c)) 28 size)
      ∙ drop_at a (b ++ c) (length a) refl)
      ∙ take_at b c (length b) refl)

  pub third-held : c ≡ take (length c) (drop (28 + length a + length b) (head ++ (a ++ (b ++ c))))
  third-held =
      sym (ap (take (length c))
      (sym (drop-drop (length b) (28 + length a) (head ++ (a ++ (b ++ c))))
      ∙ ap (drop (length b))
      (sym (drop-drop (length a) 28 (head ++ (a ++ (b ++ c))))
      ∙ ap (drop (length a)) (drop_at head (a ++ (b ++ c)) 28 size)
      ∙ drop_at a (b ++ c) (length a) refl)
      ∙ drop_at b c (length b) refl)
      ∙ take_all (length c) c (omega arith))

module _ (bs : List ℕ) (s : Parts) (table : List ℕ) (w : WellFormed bs s) (small : length table ≤ 1000000) where
  -- the inputs part has at most 72 bytes, the rows part at most 3072
  few-inputs : length s.inputs.bytes ≤ 72
  few-inputs = omega (arith, w.counts.inputs, w.counts.input_count)

  few-rows : length s.rows.bytes ≤ 3072
  few-rows = omega (arith, w.counts.rows, w.counts.places)

  pub moved-formed : WellFormed (sheet_bytes (moved_up s table)) (moved_up s table)
  moved-formed =
      let a = s.inputs.bytes in
      let b = s.rows.bytes in
      let m = moved_up s table in
      let long = whole (head_bytes m) a b table refl in
      record {
        head = record {
          least = omega (arith, long);
          most = omega (arith, long, few-inputs, few-rows);
          version = refl;
          variables = refl;
          inputs = refl;
          spare = refl;
          inputs_given = (digits 28 (omega arith), digits (length a) (omega (arith, few-inputs)));
          rows_given = (digits (28 + length a) (omega (arith, few-inputs)), digits (length b) (omega (arith, few-rows)));
          table_given = (digits (28 + length a + length b) (omega (arith, few-inputs, few-rows)), digits (length table) (omega arith));
        };
        order = record {
          behind_head = omega arith;
          inputs_first = omega arith;
          rows_next = omega arith;
          inside = omega (arith, long);
          inputs_held = first-held (head_bytes m) a b table refl;
          rows_held = second-held (head_bytes m) a b table refl;
          table_held = third-held (head_bytes m) a b table refl;
        };
        counts = record {
          some_variable = w.counts.some_variable;
          variables = w.counts.variables;
          input_count = w.counts.input_count;
          some_place = w.counts.some_place;
          places = w.counts.places;
          inputs = w.counts.inputs;
          rows = w.counts.rows;
        };
        inputs = w.inputs;
        rows = w.rows;
      }

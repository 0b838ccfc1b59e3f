-- The sheet of a sound routine is well-formed, and is read as its parts. Assumes nothing.
use Rattle.std.proofs.Common.{◌≡◌, ℕ, ◌+◌, ◌*◌, ◌≤◌, List, length, Ok, refl, arith}
use Rattle.machine.specs.declared.Input.{Input}
use Rattle.machine.specs.declared.Row.{Row}
use Rattle.machine.specs.declared.Row.TheVariants.{End, Put, Take, Work, Fork}
use Rattle.sheet.specs.Format.{row_bytes, input_bytes, Names, Proper, WellFormed}
use Rattle.sheet.specs.Sheets.{sheet_of}
use Rattle.sheet.proofs.Accepted.{digits, accepted}
use Rattle.widening.specs.Widened.{head_bytes, sheet_bytes}
use Rattle.widening.proofs.Moved.{whole, first-held, second-held, third-held}
use Rattle.writing.specs.Laid.{joined, laid_out, Sound}
use Rattle.writing.proofs.Joined.{joined_length, found}

pub row-length : (r : Row) → length (row_bytes r) ≡ 12
row-length End = refl
row-length (Put x n t) = refl
row-length (Take x k t) = refl
row-length (Work x op a b t) = refl
row-length (Fork rel a b t u) = refl

module _ (v : ℕ) (is : List Input) (rs : List Row) (table : List ℕ) (s : Sound v is rs) (variables : v ≤ 16) (inputs : length is ≤ 8) (rows : length rs ≤ 256) (small : length table ≤ 1000000) where
  inputs_long : length (joined input_bytes is) ≡ length is * 9
  inputs_long = joined_length input_bytes 9 (λ x. refl) is

  rows_long : length (joined row_bytes rs) ≡ length rs * 12
  rows_long = joined_length row_bytes 12 row-length rs

  laid-formed : WellFormed (sheet_bytes (laid_out v is rs table)) (laid_out v is rs table)
  laid-formed =
      let a = joined input_bytes is in
      let b = joined row_bytes rs in
      let m = laid_out v is rs table in
      let long = whole (head_bytes m) a b table refl in
      let few : length a ≤ 72 = omega (arith, inputs_long) in
      let some : length b ≤ 3072 = omega (arith, rows_long) in
      record {
        head = record {
          least = omega (arith, long);
          most = omega (arith, long, few, some);
          version = refl;
          variables = refl;
          inputs = refl;
          spare = refl;
          inputs_given = (digits 28 (omega arith), digits (length a) (omega (arith, few)));
          rows_given = (digits (28 + length a) (omega (arith, few)), digits (length b) (omega (arith, some)));
          table_given = (digits (28 + length a + length b) (omega (arith, few, some)), digits (length table) (omega arith));
        };
        order = record {
          behind_head = omega arith;
          inputs_first = omega arith;
          rows_next = omega arith;
          inside = omega (arith, long);
          inputs_held = first-held (head_bytes m) a b table refl;
          rows_held = second-held (head_bytes m) a b table refl;
          table_held = third-held (head_bytes m) a b table refl;
        };
        counts = record {
          some_variable = s.some_variable;
          variables = variables;
          input_count = inputs;
          some_place = s.some_place;
          places = rows;
          inputs = inputs_long;
          rows = rows_long;
        };
        inputs = found input_bytes 9 (λ x. refl) Proper is s.proper;
        rows = found row_bytes 12 row-length (Names v (length is) (length rs)) rs s.named;
      }

  pub laid-read : sheet_of (sheet_bytes (laid_out v is rs table)) ≡ Ok (laid_out v is rs table)
  laid-read = accepted _ _ laid-formed

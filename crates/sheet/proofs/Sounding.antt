-- The inputs and the rows of a sheet that has been read. Assumes nothing.
use Rattle.std.proofs.Common.{◌≡◌, ◌≢◌, ℕ, ◌+◌, ◌*◌, ◌<◌, ◌≤◌, ◌&&◌, ltb, List, length, get_or, Ok, Some, None, Option, MatchOption, subst, sym, ap, ◌∙◌, arith}
use lib.Signed.{le_z}
use Rattle.scan.specs.Scan.{chunk, passed, unless, up_to}
use Rattle.scan.proofs.Scans.{stage, ok_same, up-each}
use Rattle.machine.specs.declared.Input.{Input}
use Rattle.machine.specs.declared.Row.{Row}
use Rattle.sheet.specs.Bytes.{AllBytes, integer_at}
use Rattle.sheet.specs.Format.{Names, Proper}
use Rattle.sheet.specs.Inputs.{input_at, input_in, input_of}
use Rattle.sheet.specs.Parts.{Parts}
use Rattle.sheet.specs.Rows.{limits, row_at, row_byte, row_in, row_of}
use Rattle.sheet.specs.Sheets.{Width, NoWidth}
use Rattle.sheet.specs.Sound.{Sound}
use Rattle.sheet.specs.declared.refusals.Refusal.TheVariants.{InputRecord}
use Rattle.sheet.proofs.Formed.{chunk-length, found-by}
use Rattle.sheet.proofs.Written.{row_written, input-written}

-- a row that was read is what its bytes say
row_is : (v k p place : ℕ) (bs : List ℕ) (r : Row) → row_of v k p place bs ≡ Ok r → row_in bs ≡ r
row_is v k p place bs r e = stage (up_to (row_byte (limits v k p (get_or bs 0 0)) place bs) 12) _ r (λ _ _ made. ok_same made) e

input-is : (i : ℕ) (bs : List ℕ) (n : Input) → input_of i bs ≡ Ok n → input_in bs ≡ n
input-is i bs n e = stage (unless (ltb (get_or bs 0 0) 2 && le_z (integer_at bs 1) (integer_at bs 5)) (InputRecord i)) _ n (λ _ _ made. ok_same made) e

-- the row at a place: it is read as what its bytes say, and names only what exists
pub record RowRead (s : Parts) (i : ℕ) : Type 0 where
  pub read : row_at s i ≡ Ok (row_in (chunk 12 i s.rows.bytes))
  pub names : Names s.variables s.input_count s.places (row_in (chunk 12 i s.rows.bytes))

pub row-read : (s : Parts) (i : ℕ) → AllBytes (chunk 12 i s.rows.bytes) → Sound s → i < s.places → RowRead s i
row-read s i bytes sound h =
    let found = found-by (row_at s i) (up-each (λ n. passed (row_at s n)) s.places sound.rows i h) in
    let is = row_is s.variables s.input_count s.places i (chunk 12 i s.rows.bytes) found.0 found.1 in
    let w = row_written s.variables s.input_count s.places (chunk 12 i s.rows.bytes)
    (chunk-length 12 s.places i s.rows.bytes sound.fits.rows h) bytes i found.0 found.1 in
    record { read = found.1 ∙ ap Ok (sym is); names = subst (Names s.variables s.input_count s.places) (sym is) w.1 }

-- the same of an input, whose set is not empty
pub record InputRead (s : Parts) (i : ℕ) : Type 0 where
  pub read : input_at s i ≡ Ok (input_in (chunk 9 i s.inputs.bytes))
  pub proper : Proper (input_in (chunk 9 i s.inputs.bytes))

pub input-read : (s : Parts) (i : ℕ) → AllBytes (chunk 9 i s.inputs.bytes) → Sound s → i < s.input_count → InputRead s i
input-read s i bytes sound h =
    let found = found-by (input_at s i) (up-each (λ n. passed (input_at s n)) s.input_count sound.inputs i h) in
    let is = input-is i (chunk 9 i s.inputs.bytes) found.0 found.1 in
    let w = input-written i (chunk 9 i s.inputs.bytes)
    (chunk-length 9 s.input_count i s.inputs.bytes sound.fits.inputs h) bytes found.0 found.1 in
    record { read = found.1 ∙ ap Ok (sym is); proper = subst Proper (sym is) w.1 }

-- the width of a cell, as it is found among 1 to 64
pub width-of : (s : Parts) (r : Option ℕ)
    → MatchOption r ((k : ℕ) → 1 ≤ k → k < 65 → length s.table.bytes ≢ s.places * (1 + s.variables * k))
    (λ w. (1 ≤ w) × (w < 65) × (length s.table.bytes ≡ s.places * (1 + s.variables * w)) × ((k : ℕ) → 1 ≤ k → k < w → length s.table.bytes ≢ s.places * (1 + s.variables * k)))
    → MatchOption r (NoWidth s) (Width s)
width-of s None h = λ w fits. h w fits.least (omega (arith, fits.most)) fits.whole
width-of s (Some w) h = record { least = h.0; most = omega (arith, h.1); whole = h.2 }

-- What acceptance of a sheet means. Assumes nothing.
use Rattle.std.proofs.Common.{◌≡◌, ℕ, ◌*◌, ◌<◌, List, length, drop, Ok, Result, sym, subst, arith, length-drop, length-take}
use Rattle.scan.specs.Scan.{passed, chunk}
use Rattle.scan.proofs.Pieces.{piece-ends}
use Rattle.scan.proofs.Scans.{stage, ok_same, up-each, then_ok}
use Rattle.sheet.specs.Bytes.{AllBytes}
use Rattle.sheet.specs.Format.{Held, WellFormed}
use Rattle.sheet.specs.Inputs.{input_at, inputs_right}
use Rattle.sheet.specs.Parts.{Region, Parts, parts_of}
use Rattle.sheet.specs.Rows.{row_at, rows_right}
use Rattle.sheet.specs.Sheets.{sheet_of}
use Rattle.sheet.proofs.Laying.{Laid, laid_of}
use Rattle.sheet.proofs.Spelled.{bytes-chunk, bytes_take, bytes_drop}
use Rattle.sheet.proofs.Written.{row_written, input-written}

-- a record of a part that is as long as its records has their size
pub chunk-length : (size count i : ℕ) (xs : List ℕ) → length xs ≡ count * size → i < count → length (chunk size i xs) ≡ size
chunk-length size count i xs e h =
    let ends = piece-ends size count i h in
    simp (length-take, length-drop) (omega arith)

-- what a part holds are bytes of the sheet
pub held_bytes : (bs : List ℕ) (p : Region) → AllBytes bs → Held bs p → AllBytes p.bytes
held_bytes bs p bytes h = subst AllBytes (sym h) (bytes_take (length p.bytes) (drop p.at bs) (bytes_drop p.at bs bytes))

-- whatever passed was found
pub found-by : {A E : Type 0} (r : Result A E) → passed r ≡ Ok tt → (x : A) × (r ≡ Ok x)
found-by r e = let t = then_ok r (λ _. Ok tt) tt e in (t.0, t.1)

pub formed-of : (bs : List ℕ) (s : Parts) → AllBytes bs → sheet_of bs ≡ Ok s → WellFormed bs s
formed-of bs s bytes e =
    stage (parts_of bs) _ s (λ p layout e₁.
    stage (inputs_right p) _ s (λ _ inputs e₂.
    stage (rows_right p) _ s (λ _ rows e₃.
    subst (WellFormed bs) (ok_same e₃) (formed p (laid_of bs p layout) inputs rows)) e₂) e₁) e
  where
    formed : (p : Parts) → Laid bs p → inputs_right p ≡ Ok tt → rows_right p ≡ Ok tt → WellFormed bs p
    formed p laid inputs rows = record {
      head = laid.head;
      order = laid.order;
      counts = laid.counts;
      inputs = λ i h.
          let read = found-by (input_at p i) (up-each (λ n. passed (input_at p n)) p.input_count inputs i h) in
          let part = held_bytes bs p.inputs bytes laid.order.inputs_held in
          let w = input-written i (chunk 9 i p.inputs.bytes)
          (chunk-length 9 p.input_count i p.inputs.bytes laid.counts.inputs h)
          (bytes-chunk 9 i p.inputs.bytes part) read.0 read.1 in
          (read.0, w.0, w.1);
      rows = λ i h.
          let read = found-by (row_at p i) (up-each (λ n. passed (row_at p n)) p.places rows i h) in
          let part = held_bytes bs p.rows bytes laid.order.rows_held in
          let w = row_written p.variables p.input_count p.places (chunk 12 i p.rows.bytes)
          (chunk-length 12 p.places i p.rows.bytes laid.counts.rows h)
          (bytes-chunk 12 i p.rows.bytes part) i read.0 read.1 in
          (read.0, w.0, w.1);
    }

-- A widened sheet is made of bytes. Assumes that the blank bytes of the second domain are bytes.
use Rattle.std.proofs.Common.{◌≡◌, ℕ, zero, suc, ◌/◌, ◌%◌, ◌<◌, ◌≤◌, List, [], ◌∷◌, ◌++◌, length, drop, Ok, Err, Result, refl, ⊎_elim, arith}
use Rattle.std.proofs.lemmas.List.FromFn.{length-map-range_with_len, get_or-map-range_with_len}
use Rattle.std.proofs.lemmas.List.{get_or_past}
use Rattle.std.proofs.lemmas.Bool.{cases_lt}
use Rattle.sheet.specs.Bytes.{AllBytes}
use Rattle.sheet.specs.Format.{WellFormed}
use Rattle.sheet.specs.Parts.{Region, Parts}
use Rattle.sheet.specs.Sheets.{sheet_of}
use Rattle.sheet.specs.declared.refusals.Refusal.{Refusal}
use Rattle.sheet.proofs.Formed.{held_bytes, formed-of}
use Rattle.sheet.proofs.Spelled.{bytes-chunk, bytes_drop}
use Rattle.domain.specs.Model.{Ops}
use Rattle.domain.specs.Laws.{Reading, blanks}
use Rattle.rules.specs.Tables.{entry_size, entry_at, flag_at, cell_at, table_of}
use Rattle.widening.specs.Widened.{pieces, word_bytes, pair_bytes, head_bytes, sheet_bytes, widened_cell, widened_entry, widened_table, widened_parts, widened_in}
use Rattle.widening.specs.Pairing.{StaysBytes}
use Rattle.widening.proofs.Joins.{append-bytes, pieces-bytes}

no_bytes : AllBytes []
no_bytes i = omega arith

cons-bytes : (x : ℕ) (xs : List ℕ) → x < 256 → AllBytes xs → AllBytes (x ∷ xs)
cons-bytes x xs h k zero = h
cons-bytes x xs h k (suc i) = k i

four_bytes : (a b c d : ℕ) → a < 256 → b < 256 → c < 256 → d < 256 → (xs : List ℕ) → AllBytes xs → AllBytes (a ∷ b ∷ c ∷ d ∷ xs)
four_bytes a b c d h i j k xs l = cons-bytes a (b ∷ c ∷ d ∷ xs) h (cons-bytes b (c ∷ d ∷ xs) i (cons-bytes c (d ∷ xs) j (cons-bytes d xs k l)))

word-bytes : (n : ℕ) → AllBytes (word_bytes n)
word-bytes n = four_bytes (n % 256) (n / 256 % 256) (n / 65536 % 256) (n / 16777216 % 256) (omega arith) (omega arith) (omega arith) (omega arith) [] no_bytes

pair-bytes : (r : Region) → AllBytes (pair_bytes r)
pair-bytes r = append-bytes (word_bytes r.at) (word_bytes (length r.bytes)) (word-bytes r.at) (word-bytes (length r.bytes))

bytes_of_head : (s : Parts) → s.variables < 256 → s.input_count < 256 → AllBytes (head_bytes s)
bytes_of_head s h k =
    four_bytes 1 s.variables s.input_count 0 (omega arith) h k (omega arith) (pair_bytes s.inputs ++ (pair_bytes s.rows ++ pair_bytes s.table))
    (append-bytes (pair_bytes s.inputs) (pair_bytes s.rows ++ pair_bytes s.table) (pair-bytes s.inputs)
    (append-bytes (pair_bytes s.rows) (pair_bytes s.table) (pair-bytes s.rows) (pair-bytes s.table)))

blanks-bytes : {B : Type 0} (q : Ops B) → Reading q → AllBytes (blanks q)
blanks-bytes q l i = ⊎_elim
    (λ (h : i < q.width). rw (get_or-map-range_with_len q.blank 0 q.width i i 0 h (omega arith)) (l.blank_byte i))
    (λ (h : q.width ≤ i). rw (get_or_past (blanks q) i 0 (omega (arith, length-map-range_with_len q.blank 0 q.width))) (omega arith))
    (cases_lt i q.width)

module _ {A B : Type 0} (p : Ops A) (q : Ops B) (l : Reading q) where
  entry-bytes : (s : Parts) → AllBytes s.table.bytes → (place : ℕ) → AllBytes (widened_entry q (table_of p s) place)
  entry-bytes s bytes place =
      let entry = bytes-chunk (entry_size (table_of p s)) place s.table.bytes bytes in
      cons-bytes (flag_at (table_of p s) place) (pieces (widened_cell q (table_of p s) place) s.variables) (entry 0)
      (pieces-bytes (widened_cell q (table_of p s) place)
      (λ x. append-bytes (cell_at (table_of p s) place x) (blanks q) (bytes-chunk p.width x (drop 1 (entry_at (table_of p s) place)) (bytes_drop 1 (entry_at (table_of p s) place) entry)) (blanks-bytes q l))
      s.variables)

  parts-bytes : (bs : List ℕ) (s : Parts) → AllBytes bs → WellFormed bs s → AllBytes (sheet_bytes (widened_parts p q s))
  parts-bytes bs s bytes w =
      let table = pieces-bytes (widened_entry q (table_of p s)) (entry-bytes s (held_bytes bs s.table bytes w.order.table_held)) s.places in
      append-bytes (head_bytes (widened_parts p q s)) (s.inputs.bytes ++ (s.rows.bytes ++ widened_table q (table_of p s)))
      (bytes_of_head (widened_parts p q s) (omega (arith, w.counts.variables)) (omega (arith, w.counts.input_count)))
      (append-bytes s.inputs.bytes (s.rows.bytes ++ widened_table q (table_of p s)) (held_bytes bs s.inputs bytes w.order.inputs_held)
      (append-bytes s.rows.bytes (widened_table q (table_of p s)) (held_bytes bs s.rows bytes w.order.rows_held) table))

  read-bytes : (bs : List ℕ) → AllBytes bs → (r : Result Parts Refusal) → sheet_of bs ≡ r → AllBytes (widened_in p q r)
  read-bytes bs bytes (Ok s) e = parts-bytes bs s bytes (formed-of bs s bytes e)
  read-bytes bs bytes (Err f) e = no_bytes

  pub stays-bytes : StaysBytes p q
  stays-bytes bs bytes = read-bytes bs bytes (sheet_of bs) refl

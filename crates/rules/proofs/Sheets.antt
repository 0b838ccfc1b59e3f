-- A sheet that is taken holds a routine and a table that pass the check, and so one that is safe.
-- Assumes the laws of the domain.
use Rattle.std.proofs.Common.{◌≡◌, ℕ, ◌+◌, ◌*◌, ◌<◌, ◌≤◌, true, cond, not, ◌&&◌, eqb, ltb, List, length, get_or, drop, ℤ, pos, Ok, Err, Result, sym, refl, ap, ◌∙◌, subst, subst₂, ⊎_elim, mul-le-mul_right, arith}
use lib.Signed.{le_z}
use Rattle.std.proofs.lemmas.List.FromFn.{length-map-range_with_len, get_or-map-range_with_len}
use Rattle.std.proofs.lemmas.List.{get_or_past, get_or-take, get_or-drop}
use Rattle.std.proofs.lemmas.Bool.{cases_lt, eqb-true, cond-true, both_ways}
use Rattle.scan.specs.Scan.{and_then, unless, up_to, chunk}
use Rattle.scan.proofs.Scans.{stage, held, up-each, ok_same, err-is-not-ok}
use Rattle.number.proofs.Order.{le_refl, fits-from-test}
use Rattle.machine.specs.Runs.{row_on}
use Rattle.machine.specs.declared.Input.{Input}
use Rattle.machine.specs.declared.InputKind.TheVariants.{Reading}
use Rattle.machine.specs.declared.Row.{Row}
use Rattle.machine.specs.declared.Row.TheVariants.{End}
use Rattle.sheet.specs.Bytes.{AllBytes, integer_at}
use Rattle.sheet.specs.Format.{Names, Proper, WellFormed, row_bytes, input_bytes}
use Rattle.sheet.specs.Inputs.{input_in}
use Rattle.sheet.specs.Parts.{Parts}
use Rattle.sheet.specs.Rows.{row_in, row_byte, limits}
use Rattle.sheet.specs.Sheets.{sheet_of}
use Rattle.sheet.specs.declared.refusals.Refusal.{Refusal}
use Rattle.sheet.specs.declared.refusals.Refusal.TheVariants.{InputRecord, NoWidth, TableSize}
use Rattle.sheet.proofs.Accepted.{row_read, input-read}
use Rattle.sheet.proofs.Formed.{formed-of}
use Rattle.domain.specs.Carrier.{Dom, Lawful, as_dom}
use Rattle.domain.specs.Laws.{Order, Reading as ReadingLaw, Working, Narrowing}
use Rattle.domain.specs.Model.{Ops}
use Rattle.rules.specs.Checks.{start_right, place_right, places_right}
use Rattle.rules.specs.Faults.{fixed, faulty}
use Rattle.rules.specs.Safety.{TakenIsSafe}
use Rattle.rules.specs.Tables.{flag_at, routine_of, table_of, claims_of, table_fits, entries_right, table_right, verdict_of}
use Rattle.rules.specs.Ways.{input_on}
use Rattle.rules.proofs.Sound.{WellMade, Passes, passes-safe}

-- ---- the routine of a sheet

-- what the bytes of an accepted row or input say
row-in : (v k p : ℕ) (r : Row) → Names v k p r → row_in (row_bytes r) ≡ r
row-in v k p r named =
    stage (up_to (row_byte (limits v k p (get_or (row_bytes r) 0 0)) 0 (row_bytes r)) 12) _ r (λ _ _ e. ok_same e) (row_read v k p 0 r named)

input-in : (n : Input) → Proper n → input_in (input_bytes n) ≡ n
input-in n proper =
    let bs = input_bytes n in
    stage (unless (ltb (get_or bs 0 0) 2 && le_z (integer_at bs 1) (integer_at bs 5)) (InputRecord 0)) _ n (λ _ _ e. ok_same e) (input-read 0 n proper)

-- an input that is not there would give 0
none-proper : Proper (record { kind = Reading; lo = pos 0; hi = pos 0 })
none-proper = record { lo = fits-from-test refl; hi = fits-from-test refl; some = le_refl (pos 0) }

module _ (bs : List ℕ) (s : Parts) (formed : WellFormed bs s) where
  -- row i of the routine is written in the i-th 12 bytes of the rows; past the last there is an end
  row_made : (i : ℕ) → Names s.variables s.input_count s.places (row_on (routine_of s).rows i)
  row_made i = ⊎_elim
      (λ (h : i < s.places).
      let read = formed.rows i h in
      let is : row_on (routine_of s).rows i ≡ read.0 =
      get_or-map-range_with_len (λ j. row_in (chunk 12 j s.rows.bytes)) 0 s.places i i End h (omega arith)
      ∙ ap row_in read.1 ∙ row-in s.variables s.input_count s.places read.0 read.2 in
      subst (Names s.variables s.input_count s.places) (sym is) read.2)
      (λ (h : s.places ≤ i).
      let count = length-map-range_with_len (λ j. row_in (chunk 12 j s.rows.bytes)) 0 s.places in
      subst (Names s.variables s.input_count s.places) (sym (get_or_past (routine_of s).rows i End (omega (arith, count)))) tt)
      (cases_lt i s.places)

  -- input k of the routine is written in the k-th 9 bytes of the inputs
  input-made : (k : ℕ) → Proper (input_on (routine_of s).inputs k)
  input-made k = ⊎_elim
      (λ (h : k < s.input_count).
      let read = formed.inputs k h in
      let is : input_on (routine_of s).inputs k ≡ read.0 =
      get_or-map-range_with_len (λ j. input_in (chunk 9 j s.inputs.bytes)) 0 s.input_count k k _ h (omega arith)
      ∙ ap input_in read.1 ∙ input-in read.0 read.2 in
      subst Proper (sym is) read.2)
      (λ (h : s.input_count ≤ k).
      let count = length-map-range_with_len (λ j. input_in (chunk 9 j s.inputs.bytes)) 0 s.input_count in
      subst Proper (sym (get_or_past (routine_of s).inputs k _ (omega (arith, count)))) none-proper)
      (cases_lt k s.input_count)

  pub well-made : WellMade (routine_of s)
  well-made = record {
    few = formed.counts.variables;
    rows = λ i. subst₂ (λ (k p : ℕ). Names s.variables k p (row_on (routine_of s).rows i))
        (sym (length-map-range_with_len (λ j. input_in (chunk 9 j s.inputs.bytes)) 0 s.input_count))
        (sym (length-map-range_with_len (λ j. row_in (chunk 12 j s.rows.bytes)) 0 s.places))
        (row_made i);
    inputs = input-made;
  }

-- ---- the table of a sheet

-- past the last entry there is none
module _ {V : Type 0} (o : Ops V) (s : Parts) (whole : length s.table.bytes ≡ s.places * (1 + s.variables * o.width)) where
  flag-past : (place : ℕ) → s.places ≤ place → flag_at (table_of o s) place ≡ 0
  flag-past place h =
      let size = 1 + s.variables * o.width in
      let past : s.places * size ≤ place * size = mul-le-mul_right size h in
      get_or-take size (drop (place * size) s.table.bytes) 0 0 (omega arith)
      ∙ get_or-drop (place * size) s.table.bytes 0 0
      ∙ get_or_past s.table.bytes (place * size + 0) 0 (omega (arith, past, whole))

  place-below : (place : ℕ) → (claims_of o (table_of o s)).present place ≡ true → place < s.places
  place-below place e = ⊎_elim
      (λ (q : place < s.places). q)
      (λ (q : s.places ≤ place). absurd (both_ways (eqb (flag_at (table_of o s) place) 1) (ap (λ f. eqb f 1) (flag-past place q)) e))
      (cases_lt place s.places)

-- a sheet that is taken has a table that passes
module _ {V : Type 0} (o : Ops V) (bs : List ℕ) (s : Parts) (formed : WellFormed bs s) where
  table-passes : table_right o s ≡ Ok tt → Passes o (routine_of s) (claims_of o (table_of o s))
  table-passes e =
      stage (table_fits o s) _ tt (λ _ fits e₁.
      stage (entries_right o (table_of o s)) _ tt (λ _ entries e₂.
      stage (start_right o (routine_of s) (claims_of o (table_of o s))) _ tt (λ _ starts places.
      record {
        made = well-made bs s formed;
        starts = starts;
        places = λ place there. place-passes (whole fits) places place there;
      }) e₂) e₁) e
    where
      whole : table_fits o s ≡ Ok tt → length s.table.bytes ≡ s.places * (1 + s.variables * o.width)
      whole f =
          stage (unless (not (eqb o.width 0)) (fixed NoWidth)) _ tt (λ _ _ size.
          eqb-true (length s.table.bytes) (s.places * (1 + s.variables * o.width)) (held _ (fixed TableSize) size)) f

      place-passes : length s.table.bytes ≡ s.places * (1 + s.variables * o.width)
          → places_right o (routine_of s) (claims_of o (table_of o s)) s.places ≡ Ok tt
          → (place : ℕ) → (claims_of o (table_of o s)).present place ≡ true → place_right o (routine_of s) (claims_of o (table_of o s)) place ≡ Ok tt
      place-passes long all place there =
          let claims = claims_of o (table_of o s) in
          let right = place_right o (routine_of s) claims in
          sym (cond-true (claims.present place) (right place) (Ok tt) there)
          ∙ up-each (λ p. cond (claims.present p) (right p) (Ok tt)) s.places all place (place-below o s long place there)

-- the verdict on a sheet that is read goes by its table
verdict-of : {V : Type 0} (o : Ops V) (bs : List ℕ) (n : ℕ) (s : Parts) → sheet_of bs ≡ Ok s → verdict_of o bs ≡ Ok n
    → and_then (table_right o s) (λ _. Ok s.places) ≡ Ok n
verdict-of o bs n s e taken =
    subst (λ (p : Result Parts Refusal). and_then (faulty p) (λ s. and_then (table_right o s) (λ _. Ok s.places)) ≡ Ok n) e taken

-- what is taken passes, and with as many places as it has
pub taken-passes : {V : Type 0} (o : Ops V) (bs : List ℕ) (n : ℕ) (s : Parts) → AllBytes bs → sheet_of bs ≡ Ok s → verdict_of o bs ≡ Ok n
    → (n ≡ s.places) × Passes o (routine_of s) (claims_of o (table_of o s))
taken-passes o bs n s bytes e taken =
    stage (table_right o s) _ n (λ _ right count.
    (sym (ok_same count), table-passes o bs s (formed-of bs s bytes e) right)) (verdict-of o bs n s e taken)

-- what is taken is a sheet that can be read
pub taken-read : {V : Type 0} (o : Ops V) (bs : List ℕ) (n : ℕ) → verdict_of o bs ≡ Ok n → (s : Parts) × (sheet_of bs ≡ Ok s)
taken-read o bs n taken = go (sheet_of bs) taken
  where
    go : (p : Result Parts Refusal) → and_then (faulty p) (λ s. and_then (table_right o s) (λ _. Ok s.places)) ≡ Ok n → (s : Parts) × (p ≡ Ok s)
    go (Ok s) e = (s, refl)
    go (Err r) e = absurd (err-is-not-ok e)

-- the check of a lawful domain takes only what is safe
pub taken-is-safe : (d : Dom) → Lawful d → TakenIsSafe d
taken-is-safe d laws bs n s bytes e taken =
    let t = taken-passes d.ops bs n s bytes e taken in
    (t.0, passes-safe d.describes d.ops laws.order laws.working laws.narrowing (routine_of s) (claims_of d.ops (table_of d.ops s)) t.1)

-- the same, of the four laws one by one
pub safe-by-laws : {V : Type 0} {describes : V → ℤ → Type 0} {o : Ops V} → Order describes o → ReadingLaw o → Working describes o → Narrowing describes o → TakenIsSafe (as_dom V describes o)
safe-by-laws {V} {describes} {o} order reading working narrowing =
    taken-is-safe (as_dom V describes o) (record { order = order; reading = reading; working = working; narrowing = narrowing })

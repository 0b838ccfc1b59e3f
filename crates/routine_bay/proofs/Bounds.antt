-- What a refusal of a sheet names: places, ways and variables that fit their fields. Assumes nothing.
use Rattle.std.proofs.Common.{◌≡◌, ℕ, zero, suc, ◌+◌, ◌*◌, ◌<◌, ◌≤◌, Bool, true, false, cond, not, ◌&&◌, eqb, ltb, leb, List, length, get_or, pos, is_some, Ok, Err, Result, sym, refl, ap, subst, arith}
use lib.Signed.{le_z}
use Rattle.std.proofs.lemmas.Bool.{and_parts, ltb-true}
use Rattle.scan.specs.Scan.{and_then, Check, unless, up_to, passed, chunk}
use Rattle.scan.proofs.Scans.{stage, ok_same, err-is-not-ok}
use Rattle.machine.specs.Runs.{row_on}
use Rattle.machine.specs.declared.Input.{Input}
use Rattle.machine.specs.declared.Row.{Row}
use Rattle.machine.specs.declared.Row.TheVariants.{End, Put, Take, Work, Fork}
use Rattle.sheet.specs.Bytes.{integer_at}
use Rattle.sheet.specs.Inputs.{input_at, inputs_right}
use Rattle.sheet.specs.Parts.{Region, Parts, end_of, offset_of, length_of, size_right, head_byte, head_right, part_of, sizes_right, parts_of}
use Rattle.sheet.specs.Refusals.{numbers, report}
use Rattle.sheet.specs.Rows.{limits, row_byte, row_at, rows_right}
use Rattle.sheet.specs.Sheets.{Fits, sheet_of}
use Rattle.sheet.specs.PartNames.{part_number}
use Rattle.sheet.specs.declared.parts.PartName.{PartName}
use Rattle.sheet.specs.declared.parts.PartName.TheVariants.{Inputs, Rows, Table}
use Rattle.sheet.specs.declared.refusals.Refusal.{Refusal}
use Rattle.sheet.specs.declared.refusals.Refusal.TheVariants.{SheetSize, HeadByte, PartExtent, PartSize, InputRecord, RowByte, NoWidth, TableSize, EntryFlag, CellUnreadable, StartAbsent, StartUncovered, ZeroWarning, RangeWarning, EntryAbsent}
use Rattle.sheet.proofs.Laying.{laid_of}
use Rattle.domain.specs.Model.{Ops}
use Rattle.rules.specs.Checks.{Routine, start_right, unwarned, covered, lands, way_right, place_right, places_right}
use Rattle.rules.specs.Claims.{Claims}
use Rattle.rules.specs.Faults.{Fault, fixed, uncovered, faulty, Allows, Meets}
use Rattle.rules.specs.Tables.{flag_at, cell_at, routine_of, table_of, claims_of, entry_right, table_fits, entries_right, table_right, verdict_of}
use Rattle.rules.specs.Ways.{Way, pass, go, ways}
use Rattle.routine_bay.specs.Fields.{Small, verdict_report}

-- ---- what holds of each refusal that a row of checks may give

abbrev Each : {A E : Type 0} → (E → Type 0) → Result A E → Type 0
Each P (Ok x) = Unit {0}
Each P (Err e) = P e

each-then : {A B E : Type 0} (P : E → Type 0) (r : Result A E) (next : A → Result B E) → Each P r → ((x : A) → r ≡ Ok x → Each P (next x)) → Each P (and_then r next)
each-then P (Ok x) next h k = k x refl
each-then P (Err e) next h k = h

each-unless : {E : Type 0} (P : E → Type 0) (b : Bool) (e : E) → P e → Each P (unless b e)
each-unless P true e h = tt
each-unless P false e h = h

each-cond : {A E : Type 0} (P : E → Type 0) (b : Bool) (r q : Result A E) → Each P r → Each P q → Each P (cond b r q)
each-cond P true r q h k = h
each-cond P false r q h k = k

each-up : {E : Type 0} (P : E → Type 0) (f : ℕ → Check E) (n : ℕ) → ((i : ℕ) → i < n → Each P (f i)) → Each P (up_to f n)
each-up P f zero k = tt
each-up P f (suc n) k = each-then P (up_to f n) (λ _. f n) (each-up P f n (λ i h. k i (omega arith))) (λ _ _. k n (omega arith))

each-passed : {A E : Type 0} (P : E → Type 0) (r : Result A E) → Each P r → Each P (passed r)
each-passed P r h = each-then P r (λ _. Ok tt) h (λ _ _. tt)

-- ---- the refusals of the format

abbrev Few : Refusal → Type 0
Few e = Small (numbers e)

-- where the numbers are literals or below a small bound
abbrev Under : ℕ → ℕ → ℕ → Type 0
Under p w x = (p < 256) × (w < 256) × (x < 256)

few : (n p w x : ℕ) → n < 24 → Under p w x → Small (report n p w x)
few n p w x a b = record { number = omega (arith, a); place = omega (arith, b.0); way = b.1; variable = omega (arith, b.2) }

none : Under 0 0 0
none = (omega arith, omega arith, omega arith)

here : (p : ℕ) → p < 256 → Under p 0 0
here p h = (h, omega arith, omega arith)

module _ (bs : List ℕ) where
  few-parts : (n : ℕ) → n < 24 → (p : PartName) → Small (report n (part_number p) 0 0)
  few-parts n h Inputs = few n 0 0 0 h none
  few-parts n h Rows = few n 1 0 0 h (here 1 (omega arith))
  few-parts n h Table = few n 2 0 0 h (here 2 (omega arith))

  extent-few : (p : PartName) (before : ℕ) → Each Few (part_of bs p before)
  extent-few p before =
      each-then Few (unless (leb before (offset_of bs p) && leb (offset_of bs p + length_of bs p) (length bs)) (PartExtent (part_number p))) _
      (each-unless Few _ (PartExtent (part_number p)) (few-parts 3 (omega arith) p)) (λ _ _. tt)

  sizes-few : (k : ℕ) (i r : Region) → Each Few (sizes_right k i r)
  sizes-few k i r =
      each-then Few (unless (eqb (length i.bytes) (9 * k)) (PartSize (part_number Inputs))) _
      (each-unless Few _ (PartSize (part_number Inputs)) (few 4 0 0 0 (omega arith) none))
      (λ _ _. each-unless Few _ (PartSize (part_number Rows)) (few 4 1 0 0 (omega arith) (here 1 (omega arith))))

  parts-few : Each Few (parts_of bs)
  parts-few =
      each-then Few (size_right bs) _ (each-unless Few _ SheetSize (few 1 0 0 0 (omega arith) none)) (λ _ _.
      each-then Few (head_right bs) _ (each-up Few (head_byte bs) 4 (λ i h. each-unless Few _ (HeadByte i) (few 2 i 0 0 (omega arith) (here i (omega (arith, h)))))) (λ _ _.
      each-then Few (part_of bs Inputs 28) _ (extent-few Inputs 28) (λ inputs _.
      each-then Few (part_of bs Rows (end_of inputs)) _ (extent-few Rows (end_of inputs)) (λ rows _.
      each-then Few (part_of bs Table (end_of rows)) _ (extent-few Table (end_of rows)) (λ table _.
      each-then Few (sizes_right (get_or bs 2 0) inputs rows) _ (sizes-few (get_or bs 2 0) inputs rows) (λ _ _. tt))))))

module _ (s : Parts) (fits : Fits s) where
  inputs-few : Each Few (inputs_right s)
  inputs-few = each-up Few (λ i. passed (input_at s i)) s.input_count (λ i h.
      each-passed Few (input_at s i) (each-then Few
      (unless (ltb (get_or (chunk 9 i s.inputs.bytes) 0 0) 2 && le_z (integer_at (chunk 9 i s.inputs.bytes) 1) (integer_at (chunk 9 i s.inputs.bytes) 5)) (InputRecord i)) _
      (each-unless Few _ (InputRecord i) (few 5 i 0 0 (omega arith) (here i (omega (arith, h, fits.input_count))))) (λ _ _. tt)))

  bytes-few : (most bytes : List ℕ) (i : ℕ) → i < 256 → Each Few (up_to (row_byte most i bytes) 12)
  bytes-few most bytes i h =
      each-up Few (row_byte most i bytes) 12 (λ j k.
      each-unless Few (ltb (get_or bytes j 0) (get_or most j 0)) (RowByte i j) (few 6 i j 0 (omega arith) (h, omega (arith, k), omega arith)))

  rows_few : Each Few (rows_right s)
  rows_few = each-up Few (λ i. passed (row_at s i)) s.places (λ i h.
      let bytes = chunk 12 i s.rows.bytes in
      let most = limits s.variables s.input_count s.places (get_or bytes 0 0) in
      each-passed Few (row_at s i) (each-then Few (up_to (row_byte most i bytes) 12) _ (bytes-few most bytes i (omega (arith, h, fits.places))) (λ _ _. tt)))

sheet-few : (bs : List ℕ) → Each Few (sheet_of bs)
sheet-few bs =
    each-then Few (parts_of bs) _ (parts-few bs) (λ s e.
    each-then Few (inputs_right s) _ (inputs-few s (laid_of bs s e).counts) (λ _ _.
    each-then Few (rows_right s) _ (rows_few s (laid_of bs s e).counts) (λ _ _. tt)))

-- ---- the refusals of the check

-- of a fault: whichever refusal it allows
abbrev Slight : Fault → Type 0
Slight (fixed e) = Few e
Slight (uncovered place way which) = (place < 256) × (way < 256) × ((x : ℕ) → which x ≡ true → x < 256)

ways-two : (inputs : List Input) (row : Row) → ways inputs row ≤ 2
ways-two inputs End = omega arith
ways-two inputs (Put x n t) = omega arith
ways-two inputs (Take x k t) = omega arith
ways-two inputs (Work x op a b t) = omega arith
ways-two inputs (Fork rel a b t u) = omega arith

module _ {V : Type 0} (o : Ops V) (r : Routine) (claims : Claims V) (some : r.variables ≤ 16) where
  start-slight : Each Slight (start_right o r claims)
  start-slight =
      each-then Slight (unless (claims.present 0) (fixed StartAbsent)) _
      (each-unless Slight (claims.present 0) (fixed StartAbsent) (few 11 0 0 16 (omega arith) (omega arith, omega arith, omega arith)))
      (λ _ _. each-up Slight (λ x. unless (o.covers (claims.cell 0 x) (o.value (pos 0) (pos 0))) (fixed (StartUncovered x))) r.variables
      (λ x h. each-unless Slight _ (fixed (StartUncovered x)) (few 11 0 0 x (omega arith) (omega arith, omega arith, omega (arith, h, some)))))

  unwarned-slight : (place : ℕ) → place < 256 → (row : Row) → Each Slight (unwarned o r claims place row)
  unwarned-slight place h End = tt
  unwarned-slight place h (Put x n t) = tt
  unwarned-slight place h (Take x k t) = tt
  unwarned-slight place h (Work x op a b t) =
      each-then Slight (unless (not (o.works op (claims.cell place a) (claims.cell place b)).1) (fixed (ZeroWarning place))) _
      (each-unless Slight _ (fixed (ZeroWarning place)) (few 12 place 0 0 (omega arith) (here place h)))
      (λ _ _. each-unless Slight _ (fixed (RangeWarning place)) (few 13 place 0 0 (omega arith) (here place h)))
  unwarned-slight place h (Fork rel a b t u) = tt

  lands-slight : (place w : ℕ) → place < 256 → w < 2 → (way : Way V) → Each Slight (lands o r claims place w way)
  lands-slight place w h k pass = tt
  lands-slight place w h k (go t values) =
      each-then Slight (unless (claims.present t) (fixed (EntryAbsent place w))) _
      (each-unless Slight (claims.present t) (fixed (EntryAbsent place w)) (few 14 place w 0 (omega arith) (h, omega (arith, k), omega arith)))
      (λ _ _. each-unless Slight _ (uncovered place w (λ x. ltb x r.variables && not (covered o r claims t values x)))
      (h, omega (arith, k), λ x e. below x (and_parts (ltb x r.variables) (not (covered o r claims t values x)) e).0))
    where
      below : (x : ℕ) → ltb x r.variables ≡ true → x < 256
      below x e = omega (arith, ltb-true x r.variables e, some)

  place-slight : (place : ℕ) → place < 256 → Each Slight (place_right o r claims place)
  place-slight place h =
      each-then Slight (unwarned o r claims place (row_on r.rows place)) _ (unwarned-slight place h (row_on r.rows place))
      (λ _ _. each-up Slight (way_right o r claims place) (ways r.inputs (row_on r.rows place))
      (λ w k. lands-slight place w h (omega (arith, k, ways-two r.inputs (row_on r.rows place))) _))

  places-slight : (places : ℕ) → places ≤ 256 → Each Slight (places_right o r claims places)
  places-slight places most =
      each-up Slight (λ place. cond (claims.present place) (place_right o r claims place) (Ok tt)) places
      (λ place h. each-cond Slight (claims.present place) _ _ (place-slight place (omega (arith, h, most))) tt)

module _ {V : Type 0} (o : Ops V) (s : Parts) (fits : Fits s) where
  entry-slight : (place : ℕ) → place < 256 → Each Slight (entry_right o (table_of o s) place)
  entry-slight place h =
      each-then Slight (unless (ltb (flag_at (table_of o s) place) 2) (fixed (EntryFlag place))) _
      (each-unless Slight _ (fixed (EntryFlag place)) (few 9 place 0 0 (omega arith) (here place h)))
      (λ _ _. each-cond Slight (eqb (flag_at (table_of o s) place) 1) _ _
      (each-up Slight (λ x. unless (is_some (o.reads (cell_at (table_of o s) place x))) (fixed (CellUnreadable place x))) s.variables
      (λ x k. each-unless Slight _ (fixed (CellUnreadable place x)) (few 10 place 0 x (omega arith) (h, omega arith, omega (arith, k, fits.variables)))))
      tt)

  fits-slight : Each Slight (table_fits o s)
  fits-slight =
      each-then Slight (unless (not (eqb o.width 0)) (fixed NoWidth)) _
      (each-unless Slight _ (fixed NoWidth) (few 7 0 0 0 (omega arith) none))
      (λ _ _. each-unless Slight _ (fixed TableSize) (few 8 0 0 0 (omega arith) none))

  table-slight : Each Slight (table_right o s)
  table-slight =
      each-then Slight (table_fits o s) _ fits-slight (λ _ _.
      each-then Slight (entries_right o (table_of o s)) _
      (each-up Slight (entry_right o (table_of o s)) s.places (λ place h. entry-slight place (omega (arith, h, fits.places)))) (λ _ _.
      each-then Slight (start_right o (routine_of s) (claims_of o (table_of o s))) _
      (start-slight o (routine_of s) (claims_of o (table_of o s)) fits.variables) (λ _ _.
      places-slight o (routine_of s) (claims_of o (table_of o s)) fits.variables s.places fits.places)))

-- ---- the verdict

faulty-slight : {A : Type 0} (r : Result A Refusal) → Each Few r → Each Slight (faulty r)
faulty-slight (Ok x) h = h
faulty-slight (Err e) h = h

faulty-read : {A : Type 0} (r : Result A Refusal) (x : A) → faulty r ≡ Ok x → r ≡ Ok x
faulty-read (Ok y) x e = ap Ok (ok_same e)
faulty-read (Err d) x e = absurd (err-is-not-ok e)

sheet-fits : (bs : List ℕ) (s : Parts) → sheet_of bs ≡ Ok s → Fits s
sheet-fits bs s e =
    stage (parts_of bs) _ s (λ p laid e₁.
    stage (inputs_right p) _ s (λ _ _ e₂.
    stage (rows_right p) _ s (λ _ _ e₃. subst Fits (ok_same e₃) (laid_of bs p laid).counts) e₂) e₁) e

verdict-slight : {V : Type 0} (o : Ops V) (bs : List ℕ) → Each Slight (verdict_of o bs)
verdict-slight o bs =
    each-then Slight (faulty (sheet_of bs)) _ (faulty-slight (sheet_of bs) (sheet-few bs)) (λ s e.
    each-then Slight (table_right o s) _ (table-slight o s (sheet-fits bs s (faulty-read (sheet_of bs) s e))) (λ _ _. tt))

-- an answer that meets what slight rules answer is small
meets-small : (f : Fault) (e : Refusal) → Slight f → Allows f e → Small (numbers e)
meets-small (fixed q) e h a = subst Few (sym a) h
meets-small (uncovered place way which) e h a =
    subst Few (sym a.1) (few 15 place way a.0 (omega arith) (h.0, h.1, h.2 a.0 a.2))

answer-small : (a : Result ℕ Refusal) (f : Result ℕ Fault) → Each Slight f → ((n : ℕ) → f ≡ Ok n → n ≤ 256) → Meets a f → Small (verdict_report a)
answer-small (Ok n) (Ok m) h k same = record { number = omega arith; place = omega (arith, k m refl, same); way = omega arith; variable = omega arith }
answer-small (Ok n) (Err f) h k meets = absurd meets
answer-small (Err e) (Ok m) h k meets = absurd meets
answer-small (Err e) (Err f) h k meets = meets-small f e h meets

-- a verdict that the rules allow fits its fields
pub verdict-small : {V : Type 0} (o : Ops V) (bs : List ℕ) (a : Result ℕ Refusal) → Meets a (verdict_of o bs) → Small (verdict_report a)
verdict-small o bs a meets = answer-small a (verdict_of o bs) (verdict-slight o bs) places meets
  where
    places : (n : ℕ) → verdict_of o bs ≡ Ok n → n ≤ 256
    places n e =
        stage (faulty (sheet_of bs)) _ n (λ s read e₁.
        stage (table_right o s) _ n (λ _ _ same. subst (λ (m : ℕ). m ≤ 256) (ok_same same) (sheet-fits bs s (faulty-read (sheet_of bs) s read)).places) e₁) e

-- A well-formed sheet is accepted, and with the parts that it has. Assumes nothing.
use Rattle.std.proofs.Common.{◌≡◌, ℕ, ◌+◌, ◌*◌, ◌/◌, ◌%◌, ◌<◌, ◌≤◌, Bool, true, false, cond, ◌&&◌, T, eqb, ltb, leb, List, length, get_or, take, drop, ℤ, pos, negsuc, ◌≤ℤ◌, Ok, Err, Result, unwrap_or, sym, refl, ap, ◌∙◌, ap₂, arith, lit<, w32, SFits, to_z, of_z}
use native.Mathlib.Nat.{div-div-eq-div-mul}
use lib.Signed.{le_z}
use Rattle.std.proofs.lemmas.Int.{to_z-of_z, ints}
use Rattle.std.proofs.lemmas.Bool.{lt-ltb, le-leb, eq-eqb, and_from}
use Rattle.scan.specs.Scan.{and_then, unless, passed}
use Rattle.scan.proofs.Scans.{up-all, up_next, then-on, passes, passed_ok, err-is-not-ok}
use Rattle.number.specs.Codes.{op_coded, relation_coded, op_code, relation_code}
use Rattle.number.specs.Exact.{Int32}
use Rattle.number.specs.declared.Op.{Op}
use Rattle.number.specs.declared.Op.TheVariants.{Add, Sub, Mul, Div, IsLess, IsAtMost, IsEqual, IsUnequal}
use Rattle.number.specs.declared.Relation.{Relation}
use Rattle.number.specs.declared.Relation.TheVariants.{Less, AtMost, Equal, Unequal, Greater, AtLeast}
use Rattle.machine.specs.declared.Input.{Input}
use Rattle.machine.specs.declared.InputKind.{InputKind}
use Rattle.machine.specs.declared.InputKind.TheVariants.{Reading, Setting}
use Rattle.machine.specs.declared.Row.{Row}
use Rattle.machine.specs.declared.Row.TheVariants.{End, Put, Take, Work, Fork}
use Rattle.sheet.specs.Bytes.{AllBytes, little}
use Rattle.sheet.specs.Format.{row_bytes, Names, input_bytes, Proper, Given, Held, Headed, InOrder, WellFormed, Means, kind_code}
use Rattle.sheet.specs.Inputs.{input_of, input_at, inputs_right}
use Rattle.sheet.specs.Parts.{Region, Parts, end_of, offset_of, length_of, part_of, head_right, head_byte, size_right, sizes_right, parts_of}
use Rattle.sheet.specs.Rows.{row_of, row_at, rows_right}
use Rattle.sheet.specs.Sheets.{Fits, sheet_of}
use Rattle.sheet.specs.declared.parts.PartName.{PartName}
use Rattle.sheet.specs.declared.parts.PartName.TheVariants.{Inputs, Rows, Table}
use Rattle.sheet.specs.declared.refusals.Refusal.{Refusal}
use Rattle.sheet.specs.PartNames.{part_number}
use Rattle.sheet.specs.declared.refusals.Refusal.TheVariants.{SheetSize, HeadByte, PartExtent, PartSize, InputRecord}
use Rattle.sheet.proofs.Formed.{formed-of}

-- a number below 2^32 is made up of its four digits in base 256
pub digits : (n : ℕ) → n < 4294967296 → little (n % 256) (n / 256 % 256) (n / 65536 % 256) (n / 16777216 % 256) ≡ n
digits n h =
    let q₂ : n / 65536 ≡ n / 256 / 256 = sym (div-div-eq-div-mul n 256 256) in
    let q₃ : n / 16777216 ≡ n / 256 / 256 / 256 = sym (div-div-eq-div-mul (n / 256) 256 256 ∙ div-div-eq-div-mul n 256 65536) in
    rw (q₂, q₃) (omega arith)

sfits_of : (z : ℤ) → Int32 z → SFits w32 z
sfits_of (pos n) fits = record { sfits = omega (arith, ints) }
sfits_of (negsuc n) fits = record { sfits = omega (arith, ints) }

bits_small : (z : ℤ) → Int32 z → of_z w32 z < 4294967296
bits_small (pos n) fits = omega (arith, ints)
bits_small (negsuc n) fits = omega (arith, ints)

-- an integer of 32 bits is read from the bytes that it is written in
pub integer-read : (z : ℤ) → Int32 z → to_z w32 (little (of_z w32 z % 256) (of_z w32 z / 256 % 256) (of_z w32 z / 65536 % 256) (of_z w32 z / 16777216 % 256)) ≡ z
integer-read z fits = ap (to_z w32) (digits (of_z w32 z) (bits_small z fits)) ∙ to_z-of_z w32 z (sfits_of z fits)

-- the codes
op-coded : (op : Op) → (op_code op < 8) × (unwrap_or (op_coded (op_code op)) Add ≡ op)
op-coded Add = (lit< tt, refl)
op-coded Sub = (lit< tt, refl)
op-coded Mul = (lit< tt, refl)
op-coded Div = (lit< tt, refl)
op-coded IsLess = (lit< tt, refl)
op-coded IsAtMost = (lit< tt, refl)
op-coded IsEqual = (lit< tt, refl)
op-coded IsUnequal = (lit< tt, refl)

relation-coded : (rel : Relation) → (relation_code rel < 6) × (unwrap_or (relation_coded (relation_code rel)) Less ≡ rel)
relation-coded Less = (lit< tt, refl)
relation-coded AtMost = (lit< tt, refl)
relation-coded Equal = (lit< tt, refl)
relation-coded Unequal = (lit< tt, refl)
relation-coded Greater = (lit< tt, refl)
relation-coded AtLeast = (lit< tt, refl)

-- a row that names only what exists is read from the bytes that it is written in
pub row_read : (v k p place : ℕ) (r : Row) → Names v k p r → row_of v k p place (row_bytes r) ≡ Ok r
row_read v k p place End h = refl
row_read v k p place (Put x n t) h =
    let z = of_z w32 n in
    rw (
      lt-ltb x v h.0,
      lt-ltb t p h.2,
      lt-ltb (z % 256) 256 (omega arith),
      lt-ltb (z / 256 % 256) 256 (omega arith),
      lt-ltb (z / 65536 % 256) 256 (omega arith),
      lt-ltb (z / 16777216 % 256) 256 (omega arith),
      integer-read n h.1,
    ) refl
row_read v k p place (Take x i t) h = rw (lt-ltb x v h.0, lt-ltb i k h.1, lt-ltb t p h.2) refl
row_read v k p place (Work x op a b t) h =
    rw (lt-ltb x v h.0, lt-ltb (op_code op) 8 (op-coded op).0, lt-ltb a v h.1, lt-ltb b v h.2, lt-ltb t p h.3, (op-coded op).1) refl
row_read v k p place (Fork rel a b t u) h =
    rw (lt-ltb (relation_code rel) 6 (relation-coded rel).0, lt-ltb a v h.0, lt-ltb b v h.1, lt-ltb t p h.2, lt-ltb u p h.3, (relation-coded rel).1) refl

-- an input by its three numbers
abbrev as_input : ℕ → ℕ → ℤ → ℤ → Result Input Refusal
as_input i k lo hi =
    and_then (unless (ltb k 2 && le_z lo hi) (InputRecord i)) (λ _. Ok (record { kind = cond (eqb k 0) Reading Setting; lo = lo; hi = hi }))

as-input : (i : ℕ) (kind : InputKind) (lo hi : ℤ) → le_z lo hi ≡ true → as_input i (kind_code kind) lo hi ≡ Ok (record { kind = kind; lo = lo; hi = hi })
as-input i Reading lo hi e = rw e refl
as-input i Setting lo hi e = rw e refl

le_test : (a b : ℤ) → a ≤ℤ b → le_z a b ≡ true
le_test a b h = go (le_z a b) h.le
  where
    go : (t : Bool) → T t → t ≡ true
    go true k = refl
    go false k = absurd k

-- an input is read from the bytes that it is written in
pub input-read : (i : ℕ) (n : Input) → Proper n → input_of i (input_bytes n) ≡ Ok n
input-read i n h =
    ap₂ (as_input i (kind_code n.kind)) (integer-read n.lo h.lo) (integer-read n.hi h.hi)
    ∙ as-input i n.kind n.lo n.hi (le_test n.lo n.hi h.some)

-- the part that its pair gives
region-is : (bs : List ℕ) (p : Region) (o l : ℕ) → o ≡ p.at → l ≡ length p.bytes → Held bs p
    → ◌≡◌ {A = Region} (record { at = o; bytes = take l (drop o bs) }) p
region-is bs p o l eo el held = rw (eo, el) (λ i. record { at = p.at; bytes = sym held i })

part-laid : (bs : List ℕ) (i : PartName) (before : ℕ) (p : Region) → Given bs i p → before ≤ p.at → end_of p ≤ length bs → Held bs p → part_of bs i before ≡ Ok p
part-laid bs i before p given behind ends held =
    let a : leb before (offset_of bs i) ≡ true = le-leb _ _ (omega (arith, given.0)) in
    let b : leb (offset_of bs i + length_of bs i) (length bs) ≡ true = le-leb _ _ (omega (arith, given.0, given.1)) in
    then-on (unless (leb before (offset_of bs i) && leb (offset_of bs i + length_of bs i) (length bs)) (PartExtent (part_number i))) _ tt _
    (passes _ _ (and_from _ _ a b)) (ap Ok (region-is bs p (offset_of bs i) (length_of bs i) given.0 given.1 held))

between-test : (a b c : ℕ) → a ≤ b → b ≤ c → (leb a b && leb b c) ≡ true
between-test a b c h k = and_from _ _ (le-leb a b h) (le-leb b c k)

head-laid : (bs : List ℕ) (s : Parts) → Headed bs s → Fits s → head_right bs ≡ Ok tt
head-laid bs s h f =
    let t₀ = passes _ (HeadByte 0) (between-test 1 (get_or bs 0 0) 1 (omega (arith, h.version)) (omega (arith, h.version))) in
    let t₁ = passes _ (HeadByte 1) (between-test 1 (get_or bs 1 0) 16 (omega (arith, h.variables, f.some_variable)) (omega (arith, h.variables, f.variables))) in
    let t₂ = passes _ (HeadByte 2) (between-test 0 (get_or bs 2 0) 8 (omega arith) (omega (arith, h.inputs, f.input_count))) in
    let t₃ = passes _ (HeadByte 3) (between-test 0 (get_or bs 3 0) 0 (omega arith) (omega (arith, h.spare))) in
    let g = head_byte bs in
    up_next g 3 (up_next g 2 (up_next g 1 (up_next g 0 refl t₀) t₁) t₂) t₃

sizes-laid : (bs : List ℕ) (s : Parts) → get_or bs 2 0 ≡ s.input_count → Fits s → sizes_right (get_or bs 2 0) s.inputs s.rows ≡ Ok tt
sizes-laid bs s k f =
    let a : eqb (length s.inputs.bytes) (9 * get_or bs 2 0) ≡ true = eq-eqb _ _ (omega (arith, k, f.inputs)) in
    let b : eqb (length s.rows.bytes % 12) 0 ≡ true = eq-eqb _ _ (omega (arith, f.rows)) in
    let c = between-test 12 (length s.rows.bytes) 3072 (omega (arith, f.rows, f.some_place)) (omega (arith, f.rows, f.places)) in
    then-on (unless (eqb (length s.inputs.bytes) (9 * get_or bs 2 0)) (PartSize (part_number Inputs))) _ tt _ (passes _ _ a) (passes _ _ (and_from _ _ b c))

-- the layout that the head gives
layout-read : (bs : List ℕ) (s : Parts) → Headed bs s → InOrder bs s → Fits s → parts_of bs ≡ Ok s
layout-read bs s h o f =
    let end₀ : end_of s.inputs ≤ length bs = omega (arith, o.inputs_first, o.rows_next, o.inside) in
    let end₁ : end_of s.rows ≤ length bs = omega (arith, o.rows_next, o.inside) in
    let places : length s.rows.bytes / 12 ≡ s.places = omega (arith, f.rows) in
    let made : ◌≡◌ {A = Parts} (record {
      variables = get_or bs 1 0;
      input_count = get_or bs 2 0;
      places = length s.rows.bytes / 12;
      inputs = s.inputs;
      rows = s.rows;
      table = s.table;
    }) s =
    λ i. record {
      variables = h.variables i;
      input_count = h.inputs i;
      places = places i;
      inputs = s.inputs;
      rows = s.rows;
      table = s.table;
    } in
    then-on (size_right bs) _ tt _ (passes _ SheetSize (between-test 28 (length bs) 1048576 h.least h.most))
    (then-on (head_right bs) _ tt _ (head-laid bs s h f)
    (then-on (part_of bs Inputs 28) _ s.inputs _ (part-laid bs Inputs 28 s.inputs h.inputs_given o.behind_head end₀ o.inputs_held)
    (then-on (part_of bs Rows (end_of s.inputs)) _ s.rows _ (part-laid bs Rows (end_of s.inputs) s.rows h.rows_given o.inputs_first end₁ o.rows_held)
    (then-on (part_of bs Table (end_of s.rows)) _ s.table _ (part-laid bs Table (end_of s.rows) s.table h.table_given o.rows_next o.inside o.table_held)
    (then-on (sizes_right (get_or bs 2 0) s.inputs s.rows) _ tt _ (sizes-laid bs s h.inputs f) (ap Ok made))))))

pub accepted : (bs : List ℕ) (s : Parts) → WellFormed bs s → sheet_of bs ≡ Ok s
accepted bs s w =
    then-on (parts_of bs) _ s _ (layout-read bs s w.head w.order w.counts)
    (then-on (inputs_right s) _ tt _ (up-all (λ i. passed (input_at s i)) s.input_count input)
    (then-on (rows_right s) _ tt _ (up-all (λ i. passed (row_at s i)) s.places row) refl))
  where
    input : (i : ℕ) → i < s.input_count → passed (input_at s i) ≡ Ok tt
    input i h = let n = w.inputs i h in passed_ok (input_at s i) n.0 (sym (ap (input_of i) n.1 ∙ input-read i n.0 n.2))

    row : (i : ℕ) → i < s.places → passed (row_at s i) ≡ Ok tt
    row i h =
        let r = w.rows i h in
        passed_ok (row_at s i) r.0
        (sym (ap (row_of s.variables s.input_count s.places i) r.1 ∙ row_read s.variables s.input_count s.places i r.0 r.2))

-- what an answer says of the bytes
pub means : (bs : List ℕ) → AllBytes bs → (r : Result Parts Refusal) → r ≡ sheet_of bs → Means bs r
means bs bytes (Ok s) e = formed-of bs s bytes (sym e)
means bs bytes (Err d) e = λ s w. err-is-not-ok (e ∙ accepted bs s w)

-- What a layout that was accepted keeps to. Assumes nothing.
use Rattle.std.proofs.Common.{◌≡◌, ℕ, ◌+◌, ◌*◌, ◌/◌, ◌%◌, ◌≤◌, true, ◌&&◌, eqb, leb, List, length, get_or, take, drop, Ok, sym, refl, subst, arith, length-drop, length-take}
use Rattle.std.proofs.lemmas.Bool.{leb-true, eqb-true, and_parts}
use Rattle.scan.specs.Scan.{unless}
use Rattle.scan.proofs.Scans.{stage, ok_same, up-each, held}
use Rattle.sheet.specs.Format.{Held, InOrder, Headed, Given}
use Rattle.sheet.specs.Parts.{Region, Parts, end_of, size_right, head_byte, head_right, part_of, sizes_right, parts_of, offset_of, length_of}
use Rattle.sheet.specs.Sheets.{Fits}
use Rattle.sheet.specs.declared.parts.PartName.{PartName}
use Rattle.sheet.specs.declared.parts.PartName.TheVariants.{Inputs, Rows, Table}

-- what an accepted layout keeps to
pub record Laid (bs : List ℕ) (s : Parts) : Type 0 where
  pub head : Headed bs s
  pub order : InOrder bs s
  pub counts : Fits s

-- the bytes of an accepted head
pub record HeadBytes (bs : List ℕ) : Type 0 where
  pub version : get_or bs 0 0 ≡ 1
  pub some : 1 ≤ get_or bs 1 0
  pub variables : get_or bs 1 0 ≤ 16
  pub inputs : get_or bs 2 0 ≤ 8
  pub spare : get_or bs 3 0 ≡ 0

two-sided : (a b c : ℕ) → (leb a b && leb b c) ≡ true → (a ≤ b) × (b ≤ c)
two-sided a b c e = let p = and_parts (leb a b) (leb b c) e in (leb-true a b p.0, leb-true b c p.1)

head_bytes : (bs : List ℕ) → head_right bs ≡ Ok tt → HeadBytes bs
head_bytes bs e =
    let at = up-each (head_byte bs) 4 e in
    let b₀ = two-sided 1 (get_or bs 0 0) 1 (held _ _ (at 0 (omega arith))) in
    let b₁ = two-sided 1 (get_or bs 1 0) 16 (held _ _ (at 1 (omega arith))) in
    let b₂ = two-sided 0 (get_or bs 2 0) 8 (held _ _ (at 2 (omega arith))) in
    let b₃ = two-sided 0 (get_or bs 3 0) 0 (held _ _ (at 3 (omega arith))) in
    record { version = omega arith; some = b₁.0; variables = b₁.1; inputs = b₂.1; spare = omega arith }

-- an accepted part is the one that its pair gives, lies behind what precedes it, inside the sheet, and
-- holds what the sheet holds there
pub record Inside (bs : List ℕ) (i : PartName) (before : ℕ) (p : Region) : Type 0 where
  pub given : Given bs i p
  pub behind : before ≤ p.at
  pub ends : end_of p ≤ length bs
  pub held : Held bs p

part-inside : (bs : List ℕ) (i : PartName) (before : ℕ) (p : Region) → part_of bs i before ≡ Ok p → Inside bs i before p
part-inside bs i before p e = stage
    (unless (leb before (offset_of bs i) && leb (offset_of bs i + length_of bs i) (length bs)) _) _ p
    (λ _ ok made.
    let both = and_parts (leb before (offset_of bs i)) (leb (offset_of bs i + length_of bs i) (length bs)) (held _ _ ok) in
    let ends : offset_of bs i + length_of bs i ≤ length bs = leb-true _ _ both.1 in
    let same : length (take (length_of bs i) (drop (offset_of bs i) bs)) ≡ length_of bs i = simp (length-take, length-drop) (omega arith) in
    subst (Inside bs i before) (ok_same made)
    (record { given = (refl, sym same); behind = leb-true _ _ both.0; ends = rw same ends; held = rw same refl }))
    e

-- the lengths of the inputs part and the rows part
pub record Sized (k : ℕ) (i r : List ℕ) : Type 0 where
  pub inputs : length i ≡ k * 9
  pub rows : length r ≡ length r / 12 * 12
  pub some : 1 ≤ length r / 12
  pub most : length r / 12 ≤ 256

sizes-of : (k : ℕ) (i r : Region) → sizes_right k i r ≡ Ok tt → Sized k i.bytes r.bytes
sizes-of k i r e = stage
    (unless (eqb (length i.bytes) (9 * k)) _) _ tt
    (λ _ first second.
    let a : length i.bytes ≡ 9 * k = eqb-true _ _ (held _ _ first) in
    let three = and_parts (eqb (length r.bytes % 12) 0) (leb 12 (length r.bytes) && leb (length r.bytes) 3072) (held _ _ second) in
    let b : length r.bytes % 12 ≡ 0 = eqb-true _ _ three.0 in
    let c : (12 ≤ length r.bytes) × (length r.bytes ≤ 3072) = two-sided 12 (length r.bytes) 3072 three.1 in
    record { inputs = omega arith; rows = omega arith; some = omega arith; most = omega arith })
    e

-- the layout that its parts make up
together : (bs : List ℕ) (inputs rows table : Region) → (28 ≤ length bs) × (length bs ≤ 1048576) → HeadBytes bs
    → Inside bs Inputs 28 inputs → Inside bs Rows (end_of inputs) rows → Inside bs Table (end_of rows) table → Sized (get_or bs 2 0) inputs.bytes rows.bytes
    → Laid bs (record { variables = get_or bs 1 0; input_count = get_or bs 2 0; places = length rows.bytes / 12; inputs = inputs; rows = rows; table = table })
together bs inputs rows table size head first second third sizes = record {
  head = record {
    least = size.0;
    most = size.1;
    version = head.version;
    variables = refl;
    inputs = refl;
    spare = head.spare;
    inputs_given = first.given;
    rows_given = second.given;
    table_given = third.given;
  };
  order = record {
    behind_head = first.behind;
    inputs_first = second.behind;
    rows_next = third.behind;
    inside = third.ends;
    inputs_held = first.held;
    rows_held = second.held;
    table_held = third.held;
  };
  counts = record {
    some_variable = head.some;
    variables = head.variables;
    input_count = head.inputs;
    some_place = sizes.some;
    places = sizes.most;
    inputs = sizes.inputs;
    rows = sizes.rows;
  };
}

pub laid_of : (bs : List ℕ) (s : Parts) → parts_of bs ≡ Ok s → Laid bs s
laid_of bs s e =
    stage (size_right bs) _ s (λ _ size e₁.
    stage (head_right bs) _ s (λ _ head e₂.
    stage (part_of bs Inputs 28) _ s (λ inputs first e₃.
    stage (part_of bs Rows (end_of inputs)) _ s (λ rows second e₄.
    stage (part_of bs Table (end_of rows)) _ s (λ table third e₅.
    stage (sizes_right (get_or bs 2 0) inputs rows) _ s (λ _ sizes e₆.
    subst (Laid bs) (ok_same e₆)
    (together bs inputs rows table (two-sided 28 (length bs) 1048576 (held _ _ size)) (head_bytes bs head)
    (part-inside bs Inputs 28 inputs first) (part-inside bs Rows (end_of inputs) rows second) (part-inside bs Table (end_of rows) table third)
    (sizes-of (get_or bs 2 0) inputs rows sizes)))
    e₅) e₄) e₃) e₂) e₁) e

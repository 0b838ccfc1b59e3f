-- What an accepted sheet is, in the words of the format. Assumes nothing.
use Rattle.std.specs.Prelude.{◌≡◌, ℕ, ◌/◌, ◌%◌, ◌<◌, ◌≤◌, List, [], ◌∷◌, ◌++◌, length, take, drop, ℤ, ◌≤ℤ◌, Ok, Err, Result, slice_index_or}
use Rattle.std.specs.Int.{w32}
use Rattle.std.proofs.Common.{of_z}
use Rattle.scan.specs.Scan.{chunk}
use Rattle.number.specs.Codes.{op_code, relation_code}
use Rattle.number.specs.Exact.{Int32}
pub use Rattle.machine.specs.Kinds.{kind_code}
use Rattle.machine.specs.declared.Input.{Input}
use Rattle.machine.specs.declared.Row.{Row}
use Rattle.machine.specs.declared.Row.TheVariants.{End, Put, Take, Work, Fork}
use Rattle.sheet.specs.Parts.{Region, Parts, end_of, offset_of, length_of}
use Rattle.sheet.specs.Sheets.{Fits}
use Rattle.sheet.specs.declared.parts.PartName.{PartName}
use Rattle.sheet.specs.declared.parts.PartName.TheVariants.{Inputs, Rows, Table}
use Rattle.sheet.specs.declared.refusals.Refusal.{Refusal}

-- an integer in four bytes: its two's complement of 32 bits, the lowest byte first
abbrev pub integer_bytes : ℤ → List ℕ
integer_bytes z = (of_z w32 z % 256) ∷ (of_z w32 z / 256 % 256) ∷ (of_z w32 z / 65536 % 256) ∷ (of_z w32 z / 16777216 % 256) ∷ []

abbrev pub no_integer : List ℕ
no_integer = 0 ∷ 0 ∷ 0 ∷ 0 ∷ []

-- the 12 bytes of a row: kind, x, code or input, a, b, t, u, 0, n
abbrev pub row_bytes : Row → List ℕ
row_bytes End = 0 ∷ 0 ∷ 0 ∷ 0 ∷ 0 ∷ 0 ∷ 0 ∷ 0 ∷ no_integer
row_bytes (Put x n t) = 1 ∷ x ∷ 0 ∷ 0 ∷ 0 ∷ t ∷ 0 ∷ 0 ∷ integer_bytes n
row_bytes (Take x k t) = 2 ∷ x ∷ k ∷ 0 ∷ 0 ∷ t ∷ 0 ∷ 0 ∷ no_integer
row_bytes (Work x op a b t) = 3 ∷ x ∷ op_code op ∷ a ∷ b ∷ t ∷ 0 ∷ 0 ∷ no_integer
row_bytes (Fork rel a b t u) = 4 ∷ 0 ∷ relation_code rel ∷ a ∷ b ∷ t ∷ u ∷ 0 ∷ no_integer

-- the 9 bytes of an input: kind, lo, hi
abbrev pub input_bytes : Input → List ℕ
input_bytes i = kind_code i.kind ∷ (integer_bytes i.lo ++ integer_bytes i.hi)

-- a row names only what a routine with v variables, k inputs and p places has, and puts a 32-bit integer
abbrev pub Names : ℕ → ℕ → ℕ → Row → Type 0
Names v k p End = Unit {0}
Names v k p (Put x n t) = (x < v) × Int32 n × (t < p)
Names v k p (Take x i t) = (x < v) × (i < k) × (t < p)
Names v k p (Work x op a b t) = (x < v) × (a < v) × (b < v) × (t < p)
Names v k p (Fork rel a b t u) = (a < v) × (b < v) × (t < p) × (u < p)

-- the set of an input is not empty, and its ends are 32-bit integers
pub record Proper (n : Input) : Type 0 where
  pub lo : Int32 n.lo
  pub hi : Int32 n.hi
  pub some : n.lo ≤ℤ n.hi

-- a part is what the sheet holds from its place on
abbrev pub Held : List ℕ → Region → Type 0
Held bs r = r.bytes ≡ take (length r.bytes) (drop r.at bs)

-- the parts lie in order behind the head and inside the sheet, and do not overlap
pub record InOrder (bs : List ℕ) (s : Parts) : Type 0 where
  pub behind_head : 28 ≤ s.inputs.at
  pub inputs_first : end_of s.inputs ≤ s.rows.at
  pub rows_next : end_of s.rows ≤ s.table.at
  pub inside : end_of s.table ≤ length bs
  pub inputs_held : Held bs s.inputs
  pub rows_held : Held bs s.rows
  pub table_held : Held bs s.table

-- a pair of the head gives the offset and the length of its part
abbrev pub Given : List ℕ → PartName → Region → Type 0
Given bs i r = (offset_of bs i ≡ r.at) × (length_of bs i ≡ length r.bytes)

-- the head says version 1, how many variables and inputs there are, and where the parts lie
pub record Headed (bs : List ℕ) (s : Parts) : Type 0 where
  pub least : 28 ≤ length bs
  pub most : length bs ≤ 1048576
  pub version : slice_index_or bs 0 0 ≡ 1
  pub variables : slice_index_or bs 1 0 ≡ s.variables
  pub inputs : slice_index_or bs 2 0 ≡ s.input_count
  pub spare : slice_index_or bs 3 0 ≡ 0
  pub inputs_given : Given bs Inputs s.inputs
  pub rows_given : Given bs Rows s.rows
  pub table_given : Given bs Table s.table

-- what acceptance of a sheet means
pub record WellFormed (bs : List ℕ) (s : Parts) : Type 0 where
  pub head : Headed bs s
  pub order : InOrder bs s
  pub counts : Fits s
  -- input i is written in the i-th 9 bytes of the inputs part, and its set is not empty
  pub inputs : (i : ℕ) → i < s.input_count → (n : Input) × (chunk 9 i s.inputs.bytes ≡ input_bytes n) × Proper n
  -- row i is written in the i-th 12 bytes of the rows part, and names only what exists
  pub rows : (i : ℕ) → i < s.places → (r : Row) × (chunk 12 i s.rows.bytes ≡ row_bytes r) × Names s.variables s.input_count s.places r

-- what an answer says of the bytes: read, they are a well-formed sheet with these parts; refused, there
-- are no parts that would make them one
abbrev pub Means : List ℕ → Result Parts Refusal → Type 0
Means bs (Ok s) = WellFormed bs s
Means bs (Err e) = (s : Parts) → WellFormed bs s → ⊥

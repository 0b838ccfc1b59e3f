-- A row of a sheet: 12 bytes. Assumes nothing.
-- They are the kind, x, a code or an input, a, b, t, u, a zero byte, and n in four bytes.
use Rattle.std.specs.Prelude.{ℕ, cond, List, [], ◌∷◌, Ok, Result, ◌==◌, nat_lt, slice_index}
use Rattle.std.specs.Option.{unwrap_or}
use Rattle.scan.specs.Scan.{and_then, Check, unless, up_to, passed, chunk}
use Rattle.number.specs.Codes.{op_coded, relation_coded}
use Rattle.number.specs.declared.Op.TheVariants.{Add}
use Rattle.number.specs.declared.Relation.TheVariants.{Less}
use Rattle.machine.specs.declared.Row.{Row}
use Rattle.machine.specs.declared.Row.TheVariants.{End, Put, Take, Work, Fork}
use Rattle.sheet.specs.Bytes.{integer_at}
use Rattle.sheet.specs.Parts.{Parts}
use Rattle.sheet.specs.declared.refusals.Refusal.{Refusal}
use Rattle.sheet.specs.declared.refusals.Refusal.TheVariants.{RowByte}

-- the five kinds: 0 end, 1 put, 2 take, 3 work, 4 fork
abbrev pub by_kind : {A : Type 0} → ℕ → A → A → A → A → A → A
by_kind kind end put take work fork =
    cond (kind == 0) end (cond (kind == 1) put (cond (kind == 2) take (cond (kind == 3) work fork)))

-- A byte of a row is right where it is below its limit: how many there are of what it names,
-- 1 where the kind does not use it, so that it is 0, and 256 where it is free.
abbrev pub limits : ℕ → ℕ → ℕ → ℕ → List ℕ
limits v k p kind =
    by_kind kind
    (5 ∷ 1 ∷ 1 ∷ 1 ∷ 1 ∷ 1 ∷ 1 ∷ 1 ∷ 1 ∷ 1 ∷ 1 ∷ 1 ∷ [])
    (5 ∷ v ∷ 1 ∷ 1 ∷ 1 ∷ p ∷ 1 ∷ 1 ∷ 256 ∷ 256 ∷ 256 ∷ 256 ∷ [])
    (5 ∷ v ∷ k ∷ 1 ∷ 1 ∷ p ∷ 1 ∷ 1 ∷ 1 ∷ 1 ∷ 1 ∷ 1 ∷ [])
    (5 ∷ v ∷ 8 ∷ v ∷ v ∷ p ∷ 1 ∷ 1 ∷ 1 ∷ 1 ∷ 1 ∷ 1 ∷ [])
    (5 ∷ 1 ∷ 6 ∷ v ∷ v ∷ p ∷ p ∷ 1 ∷ 1 ∷ 1 ∷ 1 ∷ 1 ∷ [])

-- byte j of the row at a place
abbrev pub row_byte : List ℕ → ℕ → List ℕ → ℕ → Check Refusal
row_byte most place bs j = unless (nat_lt (slice_index bs j) (slice_index most j)) (RowByte place j)

-- what the 12 bytes say
abbrev pub row_in : List ℕ → Row
row_in bs =
    by_kind (slice_index bs 0)
    End
    (Put (slice_index bs 1) (integer_at bs 8) (slice_index bs 5))
    (Take (slice_index bs 1) (slice_index bs 2) (slice_index bs 5))
    (Work (slice_index bs 1) (unwrap_or (op_coded (slice_index bs 2)) Add) (slice_index bs 3) (slice_index bs 4) (slice_index bs 5))
    (Fork (unwrap_or (relation_coded (slice_index bs 2)) Less) (slice_index bs 3) (slice_index bs 4) (slice_index bs 5) (slice_index bs 6))

-- the row at a place, of a routine with v variables, k inputs and p places
abbrev pub row_of : ℕ → ℕ → ℕ → ℕ → List ℕ → Result Row Refusal
row_of v k p place bs = and_then (up_to (row_byte (limits v k p (slice_index bs 0)) place bs) 12) (λ _. Ok (row_in bs))

-- the row at a place of a sheet
abbrev pub row_at : Parts → ℕ → Result Row Refusal
row_at s i = row_of s.variables s.input_count s.places i (chunk 12 i s.rows.bytes)

-- every row of a sheet
abbrev pub rows_right : Parts → Check Refusal
rows_right s = up_to (λ i. passed (row_at s i)) s.places

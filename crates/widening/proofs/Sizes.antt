-- How long the pieces of a widened table are. Assumes nothing.
use Rattle.std.proofs.Common.{◌≡◌, ℕ, ◌+◌, ◌*◌, ◌<◌, List, ◌++◌, length, drop, ◌∙◌, ap₂, arith, length-append, length-drop}
use Rattle.scan.specs.Scan.{chunk}
use Rattle.sheet.proofs.Formed.{chunk-length}
use Rattle.domain.specs.Model.{Ops}
use Rattle.domain.specs.Laws.{blanks}
use Rattle.widening.specs.Writes.{cells_with, entry_with, table_with}
use Rattle.widening.proofs.Entries.{blanks-length}
use Rattle.widening.proofs.Joins.{length-pieces}

pub cell-with-sized : {B : Type 0} (q : Ops B) (width variables : ℕ) (cells : List ℕ) → length cells ≡ variables * width → (x : ℕ) → x < variables
    → length (chunk width x cells ++ blanks q) ≡ width + q.width
cell-with-sized q width variables cells e x h =
    length-append (chunk width x cells) (blanks q) ∙ ap₂ ◌+◌ (chunk-length width variables x cells e h) (blanks-length q)

pub cells-with-sized : {B : Type 0} (q : Ops B) (width variables : ℕ) (cells : List ℕ) → length cells ≡ variables * width
    → length (cells_with q width cells variables) ≡ variables * (width + q.width)
cells-with-sized q width variables cells e = length-pieces (λ x. chunk width x cells ++ blanks q) (width + q.width) variables (cell-with-sized q width variables cells e)

pub entry-with-sized : {B : Type 0} (q : Ops B) (width variables : ℕ) (entry : List ℕ) → length entry ≡ 1 + variables * width
    → length (entry_with q width variables entry) ≡ 1 + variables * (width + q.width)
entry-with-sized q width variables entry e =
    let cells : length (drop 1 entry) ≡ variables * width = simp length-drop (omega arith) in
    omega (arith, cells-with-sized q width variables (drop 1 entry) cells)

pub table-with-sized : {B : Type 0} (q : Ops B) (width variables places : ℕ) (table : List ℕ) → length table ≡ places * (1 + variables * width)
    → length (table_with q width variables table places) ≡ places * (1 + variables * (width + q.width))
table-with-sized q width variables places table e =
    length-pieces (λ place. entry_with q width variables (chunk (1 + variables * width) place table)) (1 + variables * (width + q.width)) places
    (λ place h. entry-with-sized q width variables (chunk (1 + variables * width) place table) (chunk-length (1 + variables * width) places place table e h))

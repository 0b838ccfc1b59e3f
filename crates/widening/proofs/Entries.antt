-- What the widened table claims: what the table claims, and nothing in the second domain.
-- Assumes that both domains read cells of their width only, and that the second reads its blank cell as "anything".
use Rattle.std.proofs.Common.{◌≡◌, ℕ, ◌+◌, ◌*◌, ◌<◌, ◌≤◌, true, cond, eqb, ltb, List, [], ◌++◌, length, get_or, drop, is_some, Some, None, Ok, Option, unwrap_or, sym, refl, ap, ◌∙◌, subst, ap₂, ⊎_elim, arith, length-append, length-drop}
use Rattle.std.proofs.lemmas.List.FromFn.{length-map-range_with_len}
use Rattle.std.proofs.lemmas.List.{take_at, drop_at}
use Rattle.std.proofs.lemmas.Bool.{cases_lt, or_from, ne_eqb, eq-eqb, not_from_true, cond-false}
use Rattle.scan.specs.Scan.{and_then, unless, up_to, chunk}
use Rattle.sheet.specs.Parts.{Parts}
use Rattle.sheet.specs.declared.refusals.Refusal.TheVariants.{EntryFlag, CellUnreadable}
use Rattle.sheet.proofs.Formed.{chunk-length}
use Rattle.domain.specs.Model.{Ops}
use Rattle.domain.specs.Laws.{Reading, blanks}
use Rattle.layers.specs.Pairs.{both_of, pair_width, pair_reads, pair_ops}
use Rattle.layers.specs.PairLaws.{Wide, pair-reading}
use Rattle.rules.specs.Faults.{fixed}
use Rattle.rules.specs.Tables.{Table, entry_at, flag_at, cell_at, table_of, claims_of, entry_right, entries_right}
use Rattle.widening.specs.Widened.{widened_cell, widened_entry, widened_table, widened_parts}
use Rattle.widening.proofs.Joins.{length-pieces, chunk-pieces, chunk-past}
use Rattle.widening.proofs.Lifts.{lifted, up-on, then-kept, test-kept, where-present}

pub blanks-length : {B : Type 0} (q : Ops B) → length (blanks q) ≡ q.width
blanks-length q = length-map-range_with_len q.blank 0 q.width

-- a value of each, where the second is known
both-value : {A B : Type 0} (r : Option A) (a : A) (b : B) → unwrap_or (both_of r (Some b)) (record { first = a; second = b }) ≡ record { first = unwrap_or r a; second = b }
both-value (Some v) a b = refl
both-value None a b = refl

both_some : {A B : Type 0} (r : Option A) (b : B) → is_some r ≡ true → is_some (both_of r (Some b)) ≡ true
both_some (Some v) b e = refl
both_some None b e = e

-- a table that is as long as its entries
module _ (t : Table) (whole : length t.bytes ≡ t.places * (1 + t.variables * t.width)) where
  entry-sized : (place : ℕ) → place < t.places → length (entry_at t place) ≡ 1 + t.variables * t.width
  entry-sized place h = chunk-length (1 + t.variables * t.width) t.places place t.bytes whole h

  cells-sized : (place : ℕ) → place < t.places → length (drop 1 (entry_at t place)) ≡ t.variables * t.width
  cells-sized place h = simp length-drop (omega (arith, entry-sized place h))

  cell-sized : (place x : ℕ) → place < t.places → x < t.variables → length (cell_at t place x) ≡ t.width
  cell-sized place x h k = chunk-length t.width t.variables x (drop 1 (entry_at t place)) (cells-sized place h) k

  -- past its places there is no entry, and past its variables no cell
  no-entry : (place : ℕ) → t.places ≤ place → entry_at t place ≡ []
  no-entry place h = chunk-past (1 + t.variables * t.width) t.places place t.bytes whole h

  no_cells : (place x : ℕ) → t.places ≤ place → cell_at t place x ≡ []
  no_cells place x h = ap (λ e. chunk t.width x (drop 1 e)) (no-entry place h) ∙ chunk-past t.width 0 x [] (omega arith) (omega arith)

  no_cell : (place x : ℕ) → place < t.places → t.variables ≤ x → cell_at t place x ≡ []
  no_cell place x h k = chunk-past t.width t.variables x (drop 1 (entry_at t place)) (cells-sized place h) k

module _ {A B : Type 0} (p : Ops A) (q : Ops B) (lp : Reading p) (lq : Reading q) (wide : Wide p.width q.width) where
  -- a cell of the first domain and a blank one of the second
  reads_both : (cell : List ℕ) → length cell ≡ p.width → pair_reads p q (cell ++ blanks q) ≡ both_of (p.reads cell) (Some q.anything)
  reads_both cell sized =
      let long : length (cell ++ blanks q) ≡ pair_width p.width q.width = length-append cell (blanks q) ∙ ap₂ ◌+◌ sized (blanks-length q) ∙ sym wide.sum in
      cond-false _ _ _ (or_from _ _ (ne_eqb (pair_width p.width q.width) 0 (λ e. wide.first (omega (arith, wide.sum)))) (not_from_true _ (eq-eqb _ _ long)))
      ∙ ap₂ both_of (ap p.reads (take_at cell (blanks q) p.width sized)) (ap q.reads (drop_at cell (blanks q) p.width sized) ∙ lq.blank_reads wide.second)

  -- no cell is none of either
  reads_none : pair_reads p q [] ≡ both_of (p.reads []) (Some q.anything)
  reads_none =
      (pair-reading lp lq).other_length [] (λ e. wide.first (omega (arith, wide.sum)))
      ∙ sym (ap (λ r. both_of r (Some q.anything)) (lp.other_length [] (λ e. wide.first (sym e))))

  module _ (s : Parts) (whole : length s.table.bytes ≡ s.places * (1 + s.variables * p.width)) where
    wide-cell-sized : (place x : ℕ) → place < s.places → x < s.variables → length (widened_cell q (table_of p s) place x) ≡ pair_width p.width q.width
    wide-cell-sized place x h k = length-append (cell_at (table_of p s) place x) (blanks q) ∙ ap₂ ◌+◌ (cell-sized (table_of p s) whole place x h k) (blanks-length q) ∙ sym wide.sum

    wide-entry-sized : (place : ℕ) → place < s.places → length (widened_entry q (table_of p s) place) ≡ 1 + s.variables * pair_width p.width q.width
    wide-entry-sized place h =
        let cells = length-pieces (widened_cell q (table_of p s) place) (pair_width p.width q.width) s.variables (λ x k. wide-cell-sized place x h k) in
        omega (arith, cells)

    pub wide-table-sized : length (widened_table q (table_of p s)) ≡ s.places * (1 + s.variables * pair_width p.width q.width)
    wide-table-sized = length-pieces (widened_entry q (table_of p s)) (1 + s.variables * pair_width p.width q.width) s.places wide-entry-sized

    entry-is : (place : ℕ) → place < s.places → entry_at (table_of (pair_ops p q) (widened_parts p q s)) place ≡ widened_entry q (table_of p s) place
    entry-is place h = chunk-pieces (widened_entry q (table_of p s)) (1 + s.variables * pair_width p.width q.width) s.places wide-entry-sized place h

    cell-is : (place x : ℕ) → place < s.places → x < s.variables → cell_at (table_of (pair_ops p q) (widened_parts p q s)) place x ≡ widened_cell q (table_of p s) place x
    cell-is place x h k =
        ap (λ e. chunk (pair_width p.width q.width) x (drop 1 e)) (entry-is place h)
        ∙ chunk-pieces (widened_cell q (table_of p s) place) (pair_width p.width q.width) s.variables (λ y i. wide-cell-sized place y h i) x k

    -- every flag is as it was
    flag_is : (place : ℕ) → flag_at (table_of (pair_ops p q) (widened_parts p q s)) place ≡ flag_at (table_of p s) place
    flag_is place = ⊎_elim
        (λ (h : place < s.places). ap (λ e. get_or e 0 0) (entry-is place h))
        (λ (h : s.places ≤ place).
        ap (λ e. get_or e 0 0) (no-entry (table_of (pair_ops p q) (widened_parts p q s)) wide-table-sized place h ∙ sym (no-entry (table_of p s) whole place h)))
        (cases_lt place s.places)

    -- every cell reads as what it read as, and anything
    both-gone : (place x : ℕ) → cell_at (table_of (pair_ops p q) (widened_parts p q s)) place x ≡ [] → cell_at (table_of p s) place x ≡ []
        → pair_reads p q (cell_at (table_of (pair_ops p q) (widened_parts p q s)) place x) ≡ both_of (p.reads (cell_at (table_of p s) place x)) (Some q.anything)
    both-gone place x e f = ap (pair_reads p q) e ∙ reads_none ∙ sym (ap (λ c. both_of (p.reads c) (Some q.anything)) f)

    reads-are : (place x : ℕ) → pair_reads p q (cell_at (table_of (pair_ops p q) (widened_parts p q s)) place x) ≡ both_of (p.reads (cell_at (table_of p s) place x)) (Some q.anything)
    reads-are place x = ⊎_elim
        (λ (h : place < s.places). ⊎_elim
        (λ (k : x < s.variables). ap (pair_reads p q) (cell-is place x h k) ∙ reads_both (cell_at (table_of p s) place x) (cell-sized (table_of p s) whole place x h k))
        (λ (k : s.variables ≤ x).
        both-gone place x (no_cell (table_of (pair_ops p q) (widened_parts p q s)) wide-table-sized place x h k) (no_cell (table_of p s) whole place x h k))
        (cases_lt x s.variables))
        (λ (h : s.places ≤ place).
        both-gone place x (no_cells (table_of (pair_ops p q) (widened_parts p q s)) wide-table-sized place x h) (no_cells (table_of p s) whole place x h))
        (cases_lt place s.places)

    -- what the widened table claims
    pub claims-are : claims_of (pair_ops p q) (table_of (pair_ops p q) (widened_parts p q s)) ≡ lifted q.anything (claims_of p (table_of p s))
    claims-are = λ i. record {
      present = λ place. eqb (flag_is place i) 1;
      cell = λ place x.
          (ap (λ r. unwrap_or r (pair_ops p q).anything) (reads-are place x) ∙ both-value (p.reads (cell_at (table_of p s) place x)) p.anything q.anything) i;
    }

    entry_kept : (place : ℕ) → entry_right p (table_of p s) place ≡ Ok tt → entry_right (pair_ops p q) (table_of (pair_ops p q) (widened_parts p q s)) place ≡ Ok tt
    entry_kept place e =
        subst (λ f. and_then (unless (ltb f 2) (fixed (EntryFlag place)))
        (λ _. cond (eqb f 1)
        (up_to (λ x. unless (is_some (pair_reads p q (cell_at (table_of (pair_ops p q) (widened_parts p q s)) place x))) (fixed (CellUnreadable place x))) s.variables)
        (Ok tt)) ≡ Ok tt)
        (sym (flag_is place))
        (then-kept _ _ _ _ (λ k. k)
        (where-present (eqb (flag_at (table_of p s) place) 1) _ _
        (up-on _ _ s.variables
        (λ x h. test-kept _ _ _ _ (λ k. ap is_some (reads-are place x) ∙ both_some (p.reads (cell_at (table_of p s) place x)) q.anything k))))
        e)

    -- every entry can be read
    pub entries-kept : entries_right p (table_of p s) ≡ Ok tt → entries_right (pair_ops p q) (table_of (pair_ops p q) (widened_parts p q s)) ≡ Ok tt
    entries-kept = up-on _ _ s.places (λ place h. entry_kept place)

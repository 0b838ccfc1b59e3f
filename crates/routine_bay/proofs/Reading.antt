-- A record at the front of a list, and what is behind it. Assumes nothing.
use Rattle.std.proofs.Common.{◌≡◌, ℕ, ◌+◌, ◌<◌, ◌≤◌, Bool, cond, List, length, get_or, take, drop, Some, None, slice_index, w32, to_z, sym, ap, ap₂, ◌∙◌, arith}
use Rattle.std.proofs.lemmas.Bool.{le-leb}
use Rattle.std.proofs.lemmas.List.{get_or-take}
use Rattle.std.specs.List.{IsSplitAt}
use Rattle.sheet.specs.Bytes.{word_at}
use Rattle.routine_bay.specs.Records.{Kind, Offer, Record, kind_of, record_in, size_by, unless_cut, of_kind, front, sheet_behind, rest_behind}

abbrev made : Kind → ℕ → ℕ → ℕ → Record
made k d n v = record { kind = k; domain = d; number = n; value = to_z w32 v }

-- the first 12 bytes of a list, and what is left behind them
module _ (bs first tail : List ℕ) (is : first ≡ take 12 bs) (left : tail ≡ drop 12 bs) (long : length tail + 12 ≡ length bs) where
  byte : (i : ℕ) → i < 12 → get_or first i 0 ≡ get_or bs i 0
  byte i h = ap (λ (xs : List ℕ). get_or xs i 0) is ∙ get_or-take 12 bs i 0 h

  word : (i : ℕ) → i + 3 < 12 → word_at first i ≡ word_at bs i
  word i h =
      let a = byte i (omega (arith, h)) in
      let b = byte (i + 1) (omega (arith, h)) in
      let c = byte (i + 2) (omega (arith, h)) in
      let d = byte (i + 3) (omega (arith, h)) in
      omega (arith, a, b, c, d)

  same : (kind : Kind) → record_in bs kind ≡ record_in first kind
  same kind =
      sym (ap (λ (x : ℕ). made kind x (word_at first 4) (word_at first 8)) (byte 1 (omega arith))
      ∙ ap₂ (λ (n v : ℕ). made kind (slice_index bs 1) n v) (word 4 (omega arith)) (word 8 (omega arith)))

  pub front-at : (kind : Kind) → kind_of (slice_index first 0) ≡ Some kind → size_by kind (word_at first 4) ≤ length tail
      → front bs ≡ Some (record_in first kind)
  front-at kind named whole =
      ap (λ (b : Bool). cond b (of_kind bs (kind_of (slice_index bs 0))) None) (le-leb 12 (length bs) (omega (arith, long)))
      ∙ ap (of_kind bs) (sym (ap kind_of (byte 0 (omega arith))) ∙ named)
      ∙ ap (unless_cut bs) (same kind)
      ∙ ap (λ (b : Bool). cond b (Some (record_in first kind)) None) (le-leb (12 + size_by kind (word_at first 4)) (length bs) (omega (arith, whole, long)))

  -- an offer's sheet and what is left behind it
  pub offered-at : (sheet rest : List ℕ) (n : ℕ) → n ≡ word_at first 4 → IsSplitAt tail n sheet rest
      → (word_at first 4 ≤ length tail) × (sheet ≡ sheet_behind (record_in first Offer) bs) × (rest ≡ rest_behind (record_in first Offer) bs)
  offered-at sheet rest n size split =
      let (fits, front, back, _, _) = split in (
        omega (arith, size, fits),
        front ∙ ap₂ (λ (k : ℕ) (xs : List ℕ). take k xs) size left,
        back ∙ ap₂ (λ (k : ℕ) (xs : List ℕ). drop k xs) size left,
      )

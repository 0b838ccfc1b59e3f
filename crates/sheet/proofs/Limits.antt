-- The bytes of a row beside their limits. Assumes nothing.
use Rattle.std.proofs.Common.{◌≡◌, ℕ, ◌<◌, ◌≤◌, List, length, Ok, Err, None, Some, Option, MatchOption, sym, subst, arith}
use Rattle.std.specs.List.{zip, AllWithin, HoldsAt}
use Rattle.std.proofs.lemmas.Bool.{lt-ltb, le-ltb}
use Rattle.std.proofs.lemmas.Slice.Zip.{get_or-zip, length-zip}
use Rattle.scan.specs.Scan.{up_to}
use Rattle.scan.proofs.Scans.{up-all, up-stops, passes, refuses}
use Rattle.sheet.specs.Rows.{row_byte}
use Rattle.sheet.specs.declared.refusals.Refusal.TheVariants.{RowByte}

module _ (most bs : List ℕ) (place : ℕ) (limits : length most ≡ 12) (bytes : length bs ≡ 12) where
  below : (i : ℕ) → i ≤ 12 → AllWithin (λ p. p.0 < p.1) (zip bs most) 0 i → up_to (row_byte most place bs) i ≡ Ok tt
  below i h all = up-all (row_byte most place bs) i (λ j k.
      passes _ _ (lt-ltb _ _ (subst (λ (p : ℕ × ℕ). p.0 < p.1) (get_or-zip bs most j (0, 0) (omega arith) (omega arith)) (all j (0, 0) (omega arith) k))))

  -- the first byte that is not below its limit is the one that the scan names
  pub first-wrong : (r : Option ℕ)
      → MatchOption r (AllWithin (λ p. p.0 < p.1) (zip bs most) 0 (length (zip bs most)))
      (λ i. (i < length (zip bs most)) × HoldsAt (λ p. p.1 ≤ p.0) (zip bs most) i × AllWithin (λ p. p.0 < p.1) (zip bs most) 0 i)
      → MatchOption r (Ok tt ≡ up_to (row_byte most place bs) 12) (λ i. Err (RowByte place i) ≡ up_to (row_byte most place bs) 12)
  first-wrong None h = sym (below 12 (omega arith) (λ k d a b. h k d a (omega (arith, length-zip bs most))))
  first-wrong (Some i) h =
      let within : i < 12 = omega (arith, length-zip bs most, h.0) in
      let here = subst (λ (p : ℕ × ℕ). p.1 ≤ p.0) (get_or-zip bs most i (0, 0) (omega arith) (omega arith)) (h.1 (0, 0)) in
      up-stops (row_byte most place bs) i 12 _ (below i (omega arith) h.2) (refuses _ _ (le-ltb _ _ here)) within

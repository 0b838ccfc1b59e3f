-- An accepted row or input is written in its bytes, and names only what exists. Assumes nothing.
use Rattle.std.proofs.Common.{◌≡◌, ℕ, zero, suc, ◌<◌, Bool, true, false, cond, ◌&&◌, T, eqb, ltb, List, ◌∷◌, ◌++◌, length, get_or, Ok, unwrap_or, sym, refl, ap, ◌∙◌, subst, ap₂, arith, lit<}
use lib.Signed.{le_z, le_z_yes}
use Rattle.std.proofs.lemmas.Bool.{ltb-true, and_parts}
use Rattle.scan.specs.Scan.{up_to, unless}
use Rattle.scan.proofs.Scans.{stage, ok_same, up-each, held}
use Rattle.number.specs.Codes.{op_coded, relation_coded, op_code, relation_code}
use Rattle.number.specs.declared.Op.TheVariants.{Add}
use Rattle.number.specs.declared.Relation.TheVariants.{Less}
use Rattle.machine.specs.declared.Input.{Input}
use Rattle.machine.specs.declared.InputKind.TheVariants.{Reading, Setting}
use Rattle.machine.specs.declared.Row.{Row}
use Rattle.machine.specs.declared.Row.TheVariants.{End, Put, Take, Work, Fork}
use Rattle.sheet.specs.Bytes.{AllBytes, integer_at}
use Rattle.sheet.specs.Format.{integer_bytes, row_bytes, input_bytes, kind_code, Names, Proper}
use Rattle.sheet.specs.Inputs.{input_in, input_of}
use Rattle.sheet.specs.Rows.{by_kind, limits, row_byte, row_of}
use Rattle.sheet.proofs.Spelled.{spelled, integer-written, integer-fits}

-- a code below 8 is that of its operation, and one below 6 that of its relation
op-code : (c : ℕ) → c < 8 → op_code (unwrap_or (op_coded c) Add) ≡ c
op-code zero h = refl
op-code (suc zero) h = refl
op-code (suc (suc zero)) h = refl
op-code (suc (suc (suc zero))) h = refl
op-code (suc (suc (suc (suc zero)))) h = refl
op-code (suc (suc (suc (suc (suc zero))))) h = refl
op-code (suc (suc (suc (suc (suc (suc zero)))))) h = refl
op-code (suc (suc (suc (suc (suc (suc (suc zero))))))) h = refl
op-code (suc (suc (suc (suc (suc (suc (suc (suc c)))))))) h = absurd (omega arith)

relation-code : (c : ℕ) → c < 6 → relation_code (unwrap_or (relation_coded c) Less) ≡ c
relation-code zero h = refl
relation-code (suc zero) h = refl
relation-code (suc (suc zero)) h = refl
relation-code (suc (suc (suc zero))) h = refl
relation-code (suc (suc (suc (suc zero)))) h = refl
relation-code (suc (suc (suc (suc (suc zero))))) h = refl
relation-code (suc (suc (suc (suc (suc (suc c)))))) h = absurd (omega arith)

-- one case for each kind
each-kind : (P : ℕ → Type 0) → P 0 → P 1 → P 2 → P 3 → P 4 → (n : ℕ) → n < 5 → P n
each-kind P p₀ p₁ p₂ p₃ p₄ zero h = p₀
each-kind P p₀ p₁ p₂ p₃ p₄ (suc zero) h = p₁
each-kind P p₀ p₁ p₂ p₃ p₄ (suc (suc zero)) h = p₂
each-kind P p₀ p₁ p₂ p₃ p₄ (suc (suc (suc zero))) h = p₃
each-kind P p₀ p₁ p₂ p₃ p₄ (suc (suc (suc (suc zero)))) h = p₄
each-kind P p₀ p₁ p₂ p₃ p₄ (suc (suc (suc (suc (suc n))))) h = absurd (omega arith)

-- whatever the kind, the first limit is 5
five : (b : Bool) (xs ys : List ℕ) → get_or xs 0 0 ≡ 5 → get_or ys 0 0 ≡ 5 → get_or (cond b xs ys) 0 0 ≡ 5
five true xs ys p q = p
five false xs ys p q = q

kind-limit : (v k p n : ℕ) → get_or (limits v k p n) 0 0 ≡ 5
kind-limit v k p n =
    five (eqb n 0) _ _ refl (five (eqb n 1) _ _ refl (five (eqb n 2) _ _ refl (five (eqb n 3) _ _ refl refl)))

-- a row is written in these bytes, and names only what exists
abbrev Reads : ℕ → ℕ → ℕ → List ℕ → Row → Type 0
Reads v k p bs r = (bs ≡ row_bytes r) × Names v k p r

module _ (v k p : ℕ) (bs : List ℕ) (long : length bs ≡ 12) (bytes : AllBytes bs) where
  -- every byte is below its limit, for a row of this kind
  abbrev Below : ℕ → Type 0
  Below kind = (j : ℕ) → j < 12 → get_or bs j 0 < get_or (limits v k p kind) j 0

  -- the row of this kind
  abbrev as_kind : ℕ → Row
  as_kind kind =
      by_kind kind
      End
      (Put (get_or bs 1 0) (integer_at bs 8) (get_or bs 5 0))
      (Take (get_or bs 1 0) (get_or bs 2 0) (get_or bs 5 0))
      (Work (get_or bs 1 0) (unwrap_or (op_coded (get_or bs 2 0)) Add) (get_or bs 3 0) (get_or bs 4 0) (get_or bs 5 0))
      (Fork (unwrap_or (relation_coded (get_or bs 2 0)) Less) (get_or bs 3 0) (get_or bs 4 0) (get_or bs 5 0) (get_or bs 6 0))

  abbrev Case : ℕ → Type 0
  Case kind = get_or bs 0 0 ≡ kind → Below kind → Reads v k p bs (as_kind kind)

  -- a byte below 1 is 0
  none-at : (kind j : ℕ) → j < 12 → Below kind → get_or (limits v k p kind) j 0 ≡ 1 → get_or bs j 0 ≡ 0
  none-at kind j h below one = let b : get_or bs j 0 < get_or (limits v k p kind) j 0 = below j h in omega arith

  end-case : Case 0
  end-case e below =
      let z = λ (j : ℕ) (h : j < 12) (one : get_or (limits v k p 0) j 0 ≡ 1). none-at 0 j h below one in
      let e1 = z 1 (lit< tt) refl in
      let e2 = z 2 (lit< tt) refl in
      let e3 = z 3 (lit< tt) refl in
      let e4 = z 4 (lit< tt) refl in
      let e5 = z 5 (lit< tt) refl in
      let e6 = z 6 (lit< tt) refl in
      let e7 = z 7 (lit< tt) refl in
      let e8 = z 8 (lit< tt) refl in
      let e9 = z 9 (lit< tt) refl in
      let e10 = z 10 (lit< tt) refl in
      let e11 = z 11 (lit< tt) refl in
      (spelled bs 12 long ∙ rw (e, e1, e2, e3, e4, e5, e6, e7, e8, e9, e10, e11) refl, tt)

  put-case : Case 1
  put-case e below =
      let z = λ (j : ℕ) (h : j < 12) (one : get_or (limits v k p 1) j 0 ≡ 1). none-at 1 j h below one in
      let e2 = z 2 (lit< tt) refl in
      let e3 = z 3 (lit< tt) refl in
      let e4 = z 4 (lit< tt) refl in
      let e6 = z 6 (lit< tt) refl in
      let e7 = z 7 (lit< tt) refl in
      let n = integer-written (get_or bs 8 0) (get_or bs 9 0) (get_or bs 10 0) (get_or bs 11 0) (bytes 8) (bytes 9) (bytes 10) (bytes 11) in
      (spelled bs 12 long ∙ rw (e, e2, e3, e4, e6, e7, n) refl, (below 1 (lit< tt), integer-fits (get_or bs 8 0) (get_or bs 9 0) (get_or bs 10 0) (get_or bs 11 0) (bytes 8) (bytes 9) (bytes 10) (bytes 11), below 5 (lit< tt)))

  take-case : Case 2
  take-case e below =
      let z = λ (j : ℕ) (h : j < 12) (one : get_or (limits v k p 2) j 0 ≡ 1). none-at 2 j h below one in
      let e3 = z 3 (lit< tt) refl in
      let e4 = z 4 (lit< tt) refl in
      let e6 = z 6 (lit< tt) refl in
      let e7 = z 7 (lit< tt) refl in
      let e8 = z 8 (lit< tt) refl in
      let e9 = z 9 (lit< tt) refl in
      let e10 = z 10 (lit< tt) refl in
      let e11 = z 11 (lit< tt) refl in
      (spelled bs 12 long ∙ rw (e, e3, e4, e6, e7, e8, e9, e10, e11) refl, (below 1 (lit< tt), below 2 (lit< tt), below 5 (lit< tt)))

  work-case : Case 3
  work-case e below =
      let z = λ (j : ℕ) (h : j < 12) (one : get_or (limits v k p 3) j 0 ≡ 1). none-at 3 j h below one in
      let e6 = z 6 (lit< tt) refl in
      let e7 = z 7 (lit< tt) refl in
      let e8 = z 8 (lit< tt) refl in
      let e9 = z 9 (lit< tt) refl in
      let e10 = z 10 (lit< tt) refl in
      let e11 = z 11 (lit< tt) refl in
      let c = op-code (get_or bs 2 0) (below 2 (lit< tt)) in
      (spelled bs 12 long ∙ rw (e, e6, e7, e8, e9, e10, e11, c) refl, (below 1 (lit< tt), below 3 (lit< tt), below 4 (lit< tt), below 5 (lit< tt)))

  fork-case : Case 4
  fork-case e below =
      let z = λ (j : ℕ) (h : j < 12) (one : get_or (limits v k p 4) j 0 ≡ 1). none-at 4 j h below one in
      let e1 = z 1 (lit< tt) refl in
      let e7 = z 7 (lit< tt) refl in
      let e8 = z 8 (lit< tt) refl in
      let e9 = z 9 (lit< tt) refl in
      let e10 = z 10 (lit< tt) refl in
      let e11 = z 11 (lit< tt) refl in
      let c = relation-code (get_or bs 2 0) (below 2 (lit< tt)) in
      (spelled bs 12 long ∙ rw (e, e1, e7, e8, e9, e10, e11, c) refl, (below 3 (lit< tt), below 4 (lit< tt), below 5 (lit< tt), below 6 (lit< tt)))

  kind-below : get_or bs 0 0 < get_or (limits v k p (get_or bs 0 0)) 0 0 → get_or bs 0 0 < 5
  kind-below h = rw (kind-limit v k p (get_or bs 0 0)) at h

  pub row_written : (place : ℕ) (r : Row) → row_of v k p place bs ≡ Ok r → Reads v k p bs r
  row_written place r e = stage
      (up_to (row_byte (limits v k p (get_or bs 0 0)) place bs) 12) _ r
      (λ _ right made.
      let below : Below (get_or bs 0 0) = λ j h. ltb-true _ _ (held _ _ (up-each (row_byte (limits v k p (get_or bs 0 0)) place bs) 12 right j h)) in
      subst (Reads v k p bs) (ok_same made)
      (each-kind Case end-case put-case take-case work-case fork-case (get_or bs 0 0) (kind-below (below 0 (lit< tt))) refl below))
      e

-- the 9 bytes of an accepted input
pub input-written : (i : ℕ) (bs : List ℕ) → length bs ≡ 9 → AllBytes bs → (n : Input) → input_of i bs ≡ Ok n
    → (bs ≡ input_bytes n) × Proper n
input-written i bs long bytes n e = stage
    (unless (ltb (get_or bs 0 0) 2 && le_z (integer_at bs 1) (integer_at bs 5)) _) _ n
    (λ _ right made.
    let both = and_parts (ltb (get_or bs 0 0) 2) (le_z (integer_at bs 1) (integer_at bs 5)) (held _ _ right) in
    let lo = integer-written (get_or bs 1 0) (get_or bs 2 0) (get_or bs 3 0) (get_or bs 4 0) (bytes 1) (bytes 2) (bytes 3) (bytes 4) in
    let hi = integer-written (get_or bs 5 0) (get_or bs 6 0) (get_or bs 7 0) (get_or bs 8 0) (bytes 5) (bytes 6) (bytes 7) (bytes 8) in
    let kind = ap (λ c. c ∷ (integer_bytes (integer_at bs 1) ++ integer_bytes (integer_at bs 5))) (kind-code (get_or bs 0 0) (ltb-true _ _ both.0)) in
    let written : bs ≡ input_bytes (input_in bs) = spelled bs 9 long ∙ sym (kind ∙ ap₂ (λ xs ys. get_or bs 0 0 ∷ (xs ++ ys)) lo hi) in
    let proper : Proper (input_in bs) = record {
      lo = integer-fits (get_or bs 1 0) (get_or bs 2 0) (get_or bs 3 0) (get_or bs 4 0) (bytes 1) (bytes 2) (bytes 3) (bytes 4);
      hi = integer-fits (get_or bs 5 0) (get_or bs 6 0) (get_or bs 7 0) (get_or bs 8 0) (bytes 5) (bytes 6) (bytes 7) (bytes 8);
      some = le_z_yes (subst T (sym both.1) tt);
    } in
    subst (λ (m : Input). (bs ≡ input_bytes m) × Proper m) (ok_same made) (written, proper))
    e
  where
    kind-code : (c : ℕ) → c < 2 → kind_code (cond (eqb c 0) Reading Setting) ≡ c
    kind-code zero h = refl
    kind-code (suc zero) h = refl
    kind-code (suc (suc c)) h = absurd (omega arith)

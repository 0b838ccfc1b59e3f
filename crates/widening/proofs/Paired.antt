-- What is taken in one domain is taken in its pair with any other. Assumes the reading laws of both, and of the second
-- that its "anything" covers every value.
use Rattle.std.proofs.Common.{◌≡◌, ℕ, ◌+◌, ◌*◌, true, not, eqb, ◌≢◌, List, length, Ok, Err, Result, sym, ap, subst, arith}
use Rattle.std.proofs.lemmas.Bool.{eqb-true, eq-eqb, ne_eqb, not_from_false}
use Rattle.scan.specs.Scan.{and_then, unless}
use Rattle.scan.proofs.Scans.{stage, then-on, held, passes, ok_same, err-is-not-ok}
use Rattle.sheet.specs.Bytes.{AllBytes}
use Rattle.sheet.specs.Format.{WellFormed}
use Rattle.sheet.specs.Parts.{Parts}
use Rattle.sheet.specs.Sheets.{sheet_of}
use Rattle.sheet.specs.declared.refusals.Refusal.{Refusal}
use Rattle.sheet.specs.declared.refusals.Refusal.TheVariants.{NoWidth}
use Rattle.sheet.proofs.Accepted.{accepted}
use Rattle.sheet.proofs.Formed.{formed-of}
use Rattle.domain.specs.Model.{Ops}
use Rattle.domain.specs.Laws.{Reading}
use Rattle.domain.specs.Carrier.{Dom, Lawful}
use Rattle.layers.specs.Pairs.{pair_width, pair_ops}
use Rattle.layers.specs.PairLaws.{Wide, wide}
use Rattle.rules.specs.Checks.{start_right, places_right}
use Rattle.rules.specs.Faults.{fixed, faulty}
use Rattle.rules.specs.Tables.{routine_of, table_of, claims_of, table_fits, entries_right, table_right, verdict_of}
use Rattle.widening.specs.Widened.{widened_table, widened_parts, sheet_bytes, widened_in, widened}
use Rattle.widening.specs.Pairing.{Pairing, PairingOf}
use Rattle.widening.proofs.Moved.{small-table, moved-formed}
use Rattle.widening.proofs.Lifts.{lifted, start-kept, places-kept}
use Rattle.widening.proofs.Entries.{wide-table-sized, claims-are, entries-kept}

faulty-ok : {A : Type 0} (r : Result A Refusal) (x : A) → faulty r ≡ Ok x → r ≡ Ok x
faulty-ok (Ok y) x e = ap Ok (ok_same e)
faulty-ok (Err f) x e = absurd (err-is-not-ok e)

-- a table that fits is as long as its entries
fits_whole : {A : Type 0} (p : Ops A) (s : Parts) → table_fits p s ≡ Ok tt → length s.table.bytes ≡ s.places * (1 + s.variables * p.width)
fits_whole p s e = stage (unless (not (eqb p.width 0)) (fixed NoWidth)) _ tt (λ _ _ f. eqb-true _ _ (held _ _ f)) e

module _ {A B : Type 0} (p : Ops A) (q : Ops B) (lp : Reading p) (lq : Reading q) (any : (b : B) → q.covers q.anything b ≡ true) (w : Wide p.width q.width) (cells : pair_width p.width q.width ≢ 0) where
  -- the table of the widened sheet holds for its routine
  table_kept : (s : Parts) → table_right p s ≡ Ok tt → table_right (pair_ops p q) (widened_parts p q s) ≡ Ok tt
  table_kept s e =
      stage (table_fits p s) _ tt (λ _ fits e₁.
      let whole = fits_whole p s fits in
      let claims = claims-are p q lp lq w s whole in
      let sized : table_fits (pair_ops p q) (widened_parts p q s) ≡ Ok tt =
      then-on (unless (not (eqb (pair_width p.width q.width) 0)) (fixed NoWidth)) _ tt _
      (passes _ _ (not_from_false _ (ne_eqb _ 0 cells)))
      (passes _ _ (eq-eqb _ _ (wide-table-sized p q lp lq w s whole))) in
      stage (entries_right p (table_of p s)) _ tt (λ _ entries e₂.
      stage (start_right p (routine_of s) (claims_of p (table_of p s))) _ tt (λ _ start places.
      then-on (table_fits (pair_ops p q) (widened_parts p q s)) _ tt _ sized
      (then-on (entries_right (pair_ops p q) (table_of (pair_ops p q) (widened_parts p q s))) _ tt _ (entries-kept p q lp lq w s whole entries)
      (subst (λ c. and_then (start_right (pair_ops p q) (routine_of s) c) (λ _. places_right (pair_ops p q) (routine_of s) c s.places) ≡ Ok tt) (sym claims)
      (then-on (start_right (pair_ops p q) (routine_of s) (lifted q.anything (claims_of p (table_of p s)))) _ tt _
      (start-kept p q any (routine_of s) (claims_of p (table_of p s)) start)
      (places-kept p q any (routine_of s) (claims_of p (table_of p s)) s.places places)))))
      e₂) e₁) e

  -- the widened sheet is read as its parts
  widened-read : (bs : List ℕ) (s : Parts) → WellFormed bs s → table_right p s ≡ Ok tt → sheet_of (sheet_bytes (widened_parts p q s)) ≡ Ok (widened_parts p q s)
  widened-read bs s formed e =
      stage (table_fits p s) _ tt (λ _ fits _.
      let sized = wide-table-sized p q lp lq w s (fits_whole p s fits) in
      let most = small-table s.places s.variables (pair_width p.width q.width) formed.counts.places formed.counts.variables (omega (arith, w.sum, w.small)) in
      accepted _ _ (moved-formed bs s (widened_table q (table_of p s)) formed (omega arith))) e

  taken : (bs : List ℕ) (n : ℕ) → AllBytes bs → verdict_of p bs ≡ Ok n → verdict_of (pair_ops p q) (widened p q bs) ≡ Ok n
  taken bs n bytes e =
      stage (faulty (sheet_of bs)) _ n (λ s found e₁.
      stage (table_right p s) _ n (λ _ right done.
      let read = faulty-ok (sheet_of bs) s found in
      subst (λ ws. verdict_of (pair_ops p q) ws ≡ Ok n) (sym (ap (widened_in p q) read))
      (then-on (faulty (sheet_of (sheet_bytes (widened_parts p q s)))) _ (widened_parts p q s) _
      (ap faulty (widened-read bs s (formed-of bs s bytes read) right))
      (then-on (table_right (pair_ops p q) (widened_parts p q s)) _ tt _ (table_kept s right) done))) e₁) e

pub pairs : {A B : Type 0} (p : Ops A) (q : Ops B) → Reading p → Reading q → ((b : B) → q.covers q.anything b ≡ true) → Pairing p q
pairs p q lp lq any bs n bytes e cells = taken p q lp lq any (wide p.width q.width cells) cells bs n bytes e

-- for any two lawful domains
pub pairing : (a b : Dom) → Lawful a → Lawful b → PairingOf a b
pairing a b la lb = pairs a.ops b.ops la.reading lb.reading lb.order.anything_covers

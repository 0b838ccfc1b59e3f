-- The states that a run reaches, and what its steps keep. Assumes nothing.
use Rattle.std.proofs.Common.{◌≡◌, ℕ, zero, suc, false, List, [], ◌∷◌, length, set, replicate, ℤ, pos, refl, ◌∙◌, length-set}
use lib.Signed.{le_z}
use Rattle.std.proofs.lemmas.Bool.{and_parts, both_ways}
use Rattle.number.specs.Exact.{Int32}
use Rattle.number.proofs.Order.{fits-from-test, le-from-test, le_trans}
use Rattle.machine.specs.Inputs.{EndsFit}
use Rattle.machine.specs.Runs.{Spot, start, AllInt32, Goes, assigned, held, failed, Step, Reaches, stays, onward}
use Rattle.machine.specs.Steps.{SetsFit}
use Rattle.machine.specs.declared.Input.{Input}
use Rattle.machine.specs.declared.Row.{Row}

-- ---- integers of 32 bits

pub set_keeps : (xs : List ℤ) (x : ℕ) (n : ℤ) → AllInt32 xs → Int32 n → AllInt32 (set xs x n)
set_keeps [] x n all h i = all i
set_keeps (y ∷ ys) zero n all h zero = h
set_keeps (y ∷ ys) zero n all h (suc i) = all (suc i)
set_keeps (y ∷ ys) (suc x) n all h zero = all zero
set_keeps (y ∷ ys) (suc x) n all h (suc i) = set_keeps ys x n (λ j. all (suc j)) h i

zeros-fit : (k : ℕ) → AllInt32 (replicate k (pos 0))
zeros-fit zero i = fits-from-test refl
zeros-fit (suc k) zero = fits-from-test refl
zeros-fit (suc k) (suc i) = zeros-fit k i

pub start_fits : AllInt32 start.locals
start_fits = zeros-fit 16

pub start-length : length start.locals ≡ 16
start-length = refl

-- an input whose ends are of 32 bits gives only integers of 32 bits
pub sets-fit : (inputs : List Input) → EndsFit inputs → SetsFit inputs
sets-fit [] h k z e = absurd (both_ways false refl e)
sets-fit (i ∷ is) h zero z e =
    let p = and_parts (le_z i.lo z) (le_z z i.hi) e in
    record { low = le_trans h.0.0.low (le-from-test p.0); high = le_trans (le-from-test p.1) h.0.1.high }
sets-fit (i ∷ is) h (suc k) z e = sets-fit is h.1 k z e

-- ---- what one step keeps

pub goes-fits : {inputs : List Input} {row : Row} {s s' : Spot} → Goes inputs row s s' → AllInt32 s.locals → AllInt32 s'.locals
goes-fits {s = s} (assigned {x = x} {n = n} p ev i) all = set_keeps s.locals x n all i
goes-fits (held p ev ne) all = all
goes-fits (failed p ev) all = all

pub goes-length : {inputs : List Input} {row : Row} {s s' : Spot} → Goes inputs row s s' → length s'.locals ≡ length s.locals
goes-length {s = s} (assigned {x = x} {n = n} p ev i) = length-set s.locals x n
goes-length (held p ev ne) = refl
goes-length (failed p ev) = refl

-- ---- what a run reaches

module _ (inputs : List Input) (rows : List Row) where
  pub reaches-trans : {a b c : Spot} → Reaches inputs rows a b → Reaches inputs rows b c → Reaches inputs rows a c
  reaches-trans r stays = r
  reaches-trans r (onward q step) = onward (reaches-trans r q) step

  -- a step, and then what is reached from there
  pub reaches-first : {s m t : Spot} → Step inputs rows s m → Reaches inputs rows m t → Reaches inputs rows s t
  reaches-first step r = reaches-trans (onward stays step) r

  pub reaches-fits : {s t : Spot} → Reaches inputs rows s t → AllInt32 s.locals → AllInt32 t.locals
  reaches-fits stays all = all
  reaches-fits (onward r step) all = goes-fits step (reaches-fits r all)

  pub reaches-length : {s t : Spot} → Reaches inputs rows s t → length t.locals ≡ length s.locals
  reaches-length stays = refl
  reaches-length (onward r step) = goes-length step ∙ reaches-length r

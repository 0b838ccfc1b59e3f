-- A kind is read from its code. Assumes nothing.
use Rattle.std.proofs.Common.{◌≡◌, ℕ, zero, suc, cond, nat_eq, nat_lt, Some, Ok, Err, Result, sym, refl, ap, arith}
use Rattle.std.proofs.lemmas.Bool.{le-ltb}
use Rattle.std.specs.Option.{ok_or}
use Rattle.number.specs.Means.{Reads}
use Rattle.number.specs.declared.codes.UnknownCode.{UnknownCode}
use Rattle.number.proofs.Meaning.{Back, decodes, reads}
use Rattle.machine.specs.Kinds.{kind_code, kind_coded}
use Rattle.machine.specs.declared.InputKind.{InputKind}
use Rattle.machine.specs.declared.InputKind.TheVariants.{Reading, Setting}

forth : (x : InputKind) → kind_coded (kind_code x) ≡ Some x
forth Reading = refl
forth Setting = refl

past : (n : ℕ) (x : InputKind) → kind_code x ≡ suc (suc n) → ⊥
past n Reading e = omega arith
past n Setting e = omega arith

back : (code : ℕ) → Back kind_code code (kind_coded code)
back zero = refl
back (suc zero) = refl
back (suc (suc n)) = past n

pub kind_reads : (code : ℕ) (r : Result InputKind UnknownCode) → r ≡ ok_or (kind_coded code) (record { 0 = code }) → Reads kind_code kind_coded code r
kind_reads = reads kind_code kind_coded (decodes kind_code kind_coded forth back)

-- the kind by two tests of its code
pub kind_by_tests : (code : ℕ) (e : UnknownCode) → ok_or (kind_coded code) e ≡ cond (nat_lt code 2) (Ok (cond (nat_eq code 0) Reading Setting)) (Err e)
kind_by_tests zero e = refl
kind_by_tests (suc zero) e = refl
kind_by_tests (suc (suc n)) e = sym (ap (λ t. cond t (Ok (cond (nat_eq (suc (suc n)) 0) Reading Setting)) (Err e)) (le-ltb (suc (suc n)) 2 (omega arith)))

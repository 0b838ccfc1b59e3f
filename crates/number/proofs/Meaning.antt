-- The rules of the operations and relations hold of their definitions. Assumes nothing.
use Rattle.std.proofs.Common.{◌≡◌, ℕ, zero, suc, ◌/◌, Bool, true, false, not, ◌&&◌, ℤ, pos, negsuc, neg_ℤ, nat_abs, ◌≤ℤ◌, ◌<ℤ◌, Some, None, Ok, Err, Decides, Option, Result, sym, refl, ap, ◌∙◌, subst, inl, inr, ⊎_elim, arith}
use lib.Signed.{quot_z}
use Rattle.std.specs.Option.{ok_or}
use Rattle.std.specs.Result.{result_ok}
use Rattle.std.proofs.lemmas.Int.{ints}
use Rattle.std.proofs.lemmas.Bool.{cases_Bool, both_ways}
use Rattle.std.proofs.lemmas.Bool.Decides.{Decides-not, same_from_decides}
use Rattle.number.specs.declared.Op.{Op}
use Rattle.number.specs.declared.Op.TheVariants.{Add, Sub, Mul, Div, IsLess, IsAtMost, IsEqual, IsUnequal}
use Rattle.number.specs.declared.Relation.{Relation}
use Rattle.number.specs.declared.Relation.TheVariants.{Less, AtMost, Equal, Unequal, Greater, AtLeast}
use Rattle.number.specs.declared.codes.UnknownCode.{UnknownCode}
use Rattle.number.specs.declared.Trap.{Trap}
use Rattle.number.specs.declared.Trap.TheVariants.{Zero, Range}
use Rattle.number.specs.Codes.{op_coded, relation_coded, op_code, relation_code}
use Rattle.number.specs.Exact.{Int32, fits32, eq_z, holds, mirrored, opposite, exact, zero_trap, or_else, worked}
use Rattle.number.specs.Means.{Related, Mirrors, Opposes, Decodes, Reads, DividesByZero, Answers, TowardZero}
use Rattle.number.proofs.Order.{decides-le, decides-lt, decides_eq, decides-fits, le_of_lt, lt_not_le, fits-from-test, test-from-fits, eq-from-test, test-from-eq}

-- ---- relations

pub decides-holds : (rel : Relation) (x y : ℤ) → Decides (holds rel x y) (Related rel x y)
decides-holds Less x y = decides-lt x y
decides-holds AtMost x y = decides-le x y
decides-holds Equal x y = decides_eq x y
decides-holds Unequal x y = Decides-not (eq_z x y) (decides_eq x y)
decides-holds Greater x y = decides-lt y x
decides-holds AtLeast x y = decides-le y x

pub mirrors : (rel : Relation) → Mirrors rel (mirrored rel)
mirrors Less x y = (λ h. h, λ h. h)
mirrors AtMost x y = (λ h. h, λ h. h)
mirrors Equal x y = (sym, sym)
mirrors Unequal x y = (λ h e. h (sym e), λ h e. h (sym e))
mirrors Greater x y = (λ h. h, λ h. h)
mirrors AtLeast x y = (λ h. h, λ h. h)

not-le-lt : (x y : ℤ) → (x ≤ℤ y → ⊥) → y <ℤ x
not-le-lt x y n = elim (Rattle.number.proofs.Order.le-or-lt x y) [ inl h ↦ absurd (n h) | inr h ↦ h ]

not-lt-le : (x y : ℤ) → (x <ℤ y → ⊥) → y ≤ℤ x
not-lt-le x y n = elim (Rattle.number.proofs.Order.le-or-lt y x) [ inl h ↦ h | inr h ↦ absurd (n h) ]

not-not-eq : (x y : ℤ) → ((x ≡ y → ⊥) → ⊥) → x ≡ y
not-not-eq x y n = ⊎_elim
    (λ e. eq-from-test e)
    (λ e. absurd (n (λ p. both_ways (eq_z x y) e (test-from-eq p))))
    (cases_Bool (eq_z x y))

pub opposes : (rel : Relation) → Opposes rel (opposite rel)
opposes Less x y = (λ h k. lt_not_le k h, not-lt-le x y)
opposes AtMost x y = (λ h k. lt_not_le h k, not-le-lt x y)
opposes Equal x y = (λ h. h, λ h. h)
opposes Unequal x y = (λ e n. n e, not-not-eq x y)
opposes Greater x y = (λ h k. lt_not_le k h, not-lt-le y x)
opposes AtLeast x y = (λ h k. lt_not_le h k, not-le-lt y x)

-- the same, of the tests
pub holds-mirrored : (rel : Relation) (x y : ℤ) → holds rel x y ≡ holds (mirrored rel) y x
holds-mirrored rel x y =
    let d = decides-holds rel x y in
    let e = decides-holds (mirrored rel) y x in
    let m = mirrors rel x y in
    same_from_decides (holds rel x y) (holds (mirrored rel) y x) d (λ t. m.1 (e.0 t), λ h. e.1 (m.0 h))

pub holds-opposite : (rel : Relation) (x y : ℤ) → holds (opposite rel) x y ≡ not (holds rel x y)
holds-opposite rel x y =
    let d = Decides-not (holds rel x y) (decides-holds rel x y) in
    let e = decides-holds (opposite rel) x y in
    let m = opposes rel x y in
    same_from_decides (holds (opposite rel) x y) (not (holds rel x y)) e (λ t. m.1 (d.0 t), λ h. d.1 (m.0 h))

-- ---- codes

abbrev pub Back : {A : Type 0} → (A → ℕ) → ℕ → Option A → Type 0
Back code_of code (Some x) = code_of x ≡ code
Back code_of code None = (x : _) → code_of x ≡ code → ⊥

pub decodes : {A : Type 0} (code_of : A → ℕ) (read : ℕ → Option A) → ((x : A) → read (code_of x) ≡ Some x) → ((code : ℕ) → Back code_of code (read code)) → (code : ℕ) → Decodes code_of code (read code)
decodes {A} code_of read forth back code =
    record {
      only = λ x. (λ e. subst (Back code_of code) e (back code), λ e. subst (λ n. read n ≡ Some x) e (forth x));
      none = (λ e. subst (Back code_of code) e (back code), λ n. nothing (read code) (back code) n);
    }
  where
    nothing : (r : Option A) → Back code_of code r → ((x : A) → code_of x ≡ code → ⊥) → r ≡ None
    nothing (Some x) e n = absurd (n x e)
    nothing None e n = refl

ok-of : {A : Type 0} (o : Option A) (e : UnknownCode) → result_ok (ok_or o e) ≡ o
ok-of (Some x) e = refl
ok-of None e = refl

-- the same of a result
pub reads : {A : Type 0} (code_of : A → ℕ) (coded : ℕ → Option A) → ((code : ℕ) → Decodes code_of code (coded code)) → (code : ℕ) (r : Result A UnknownCode) → r ≡ ok_or (coded code) (record { 0 = code }) → Reads code_of coded code r
reads code_of coded d code r e =
    record { value = e; means = subst (Decodes code_of code) (sym (ap result_ok e ∙ ok-of (coded code) (record { 0 = code }))) (d code) }

op-forth : (x : Op) → op_coded (op_code x) ≡ Some x
op-forth Add = refl
op-forth Sub = refl
op-forth Mul = refl
op-forth Div = refl
op-forth IsLess = refl
op-forth IsAtMost = refl
op-forth IsEqual = refl
op-forth IsUnequal = refl

op-past : (n : ℕ) (x : Op) → op_code x ≡ suc (suc (suc (suc (suc (suc (suc (suc n))))))) → ⊥
op-past n Add e = omega arith
op-past n Sub e = omega arith
op-past n Mul e = omega arith
op-past n Div e = omega arith
op-past n IsLess e = omega arith
op-past n IsAtMost e = omega arith
op-past n IsEqual e = omega arith
op-past n IsUnequal e = omega arith

op-back : (code : ℕ) → Back op_code code (op_coded code)
op-back zero = refl
op-back (suc zero) = refl
op-back (suc (suc zero)) = refl
op-back (suc (suc (suc zero))) = refl
op-back (suc (suc (suc (suc zero)))) = refl
op-back (suc (suc (suc (suc (suc zero))))) = refl
op-back (suc (suc (suc (suc (suc (suc zero)))))) = refl
op-back (suc (suc (suc (suc (suc (suc (suc zero))))))) = refl
op-back (suc (suc (suc (suc (suc (suc (suc (suc n)))))))) = op-past n

pub op-decodes : (code : ℕ) → Decodes op_code code (op_coded code)
op-decodes = decodes op_code op_coded op-forth op-back

pub op_reads : (code : ℕ) (r : Result Op UnknownCode) → r ≡ ok_or (op_coded code) (record { 0 = code }) → Reads op_code op_coded code r
op_reads = reads op_code op_coded op-decodes

relation-forth : (x : Relation) → relation_coded (relation_code x) ≡ Some x
relation-forth Less = refl
relation-forth AtMost = refl
relation-forth Equal = refl
relation-forth Unequal = refl
relation-forth Greater = refl
relation-forth AtLeast = refl

relation-past : (n : ℕ) (x : Relation) → relation_code x ≡ suc (suc (suc (suc (suc (suc n))))) → ⊥
relation-past n Less e = omega arith
relation-past n AtMost e = omega arith
relation-past n Equal e = omega arith
relation-past n Unequal e = omega arith
relation-past n Greater e = omega arith
relation-past n AtLeast e = omega arith

relation-back : (code : ℕ) → Back relation_code code (relation_coded code)
relation-back zero = refl
relation-back (suc zero) = refl
relation-back (suc (suc zero)) = refl
relation-back (suc (suc (suc zero))) = refl
relation-back (suc (suc (suc (suc zero)))) = refl
relation-back (suc (suc (suc (suc (suc zero))))) = refl
relation-back (suc (suc (suc (suc (suc (suc n)))))) = relation-past n

pub relation-decodes : (code : ℕ) → Decodes relation_code code (relation_coded code)
relation-decodes = decodes relation_code relation_coded relation-forth relation-back

pub relation_reads : (code : ℕ) (r : Result Relation UnknownCode) → r ≡ ok_or (relation_coded code) (record { 0 = code }) → Reads relation_code relation_coded code r
relation_reads = reads relation_code relation_coded relation-decodes

-- ---- what working answers

abbrev IsDiv : Op → Type 0
IsDiv Add = ⊥
IsDiv Sub = ⊥
IsDiv Mul = ⊥
IsDiv Div = Unit {0}
IsDiv IsLess = ⊥
IsDiv IsAtMost = ⊥
IsDiv IsEqual = ⊥
IsDiv IsUnequal = ⊥

is-div : (op : Op) → op ≡ Div → IsDiv op
is-div op e = subst IsDiv (sym e) tt

-- the test for a zero trap
pub decides-zero : (op : Op) (x y : ℤ) → Decides (zero_trap op x y) (DividesByZero op y)
decides-zero Add x y = (λ t. absurd (both_ways false refl t), λ h. absurd (is-div Add h.0))
decides-zero Sub x y = (λ t. absurd (both_ways false refl t), λ h. absurd (is-div Sub h.0))
decides-zero Mul x y = (λ t. absurd (both_ways false refl t), λ h. absurd (is-div Mul h.0))
decides-zero Div x y = (λ t. (refl, eq-from-test t), λ h. test-from-eq h.1)
decides-zero IsLess x y = (λ t. absurd (both_ways false refl t), λ h. absurd (is-div IsLess h.0))
decides-zero IsAtMost x y = (λ t. absurd (both_ways false refl t), λ h. absurd (is-div IsAtMost h.0))
decides-zero IsEqual x y = (λ t. absurd (both_ways false refl t), λ h. absurd (is-div IsEqual h.0))
decides-zero IsUnequal x y = (λ t. absurd (both_ways false refl t), λ h. absurd (is-div IsUnequal h.0))

two-traps : ◌≡◌ {A = Result ℤ Trap} (Err Zero) (Err Range) → ⊥
two-traps e = let n : ◌≡◌ {A = ℕ} 0 1 = cc in omega arith

no_number : (t : Trap) (z : ℤ) → ◌≡◌ {A = Result ℤ Trap} (Err t) (Ok z) → ⊥
no_number t z e = let n : ◌≡◌ {A = ℕ} 0 1 = cc in omega arith

the_number : (w z : ℤ) → ◌≡◌ {A = Result ℤ Trap} (Ok w) (Ok z) → w ≡ z
the_number w z e = cc

-- an answer of the three, by the two tests
module _ (op : Op) (x y : ℤ) where
  answers_by : (z f : Bool) → Decides z (DividesByZero op y) → Decides f (Int32 (exact op x y)) → Answers op x y (or_else z Zero (or_else (not z && not f) Range (Ok (exact op x y))))
  answers_by true f dz df = record {
    zero = (λ _. dz.0 refl, λ _. refl);
    range = (λ e. absurd (two-traps e), λ h. absurd (h.0 (dz.0 refl)));
    done = λ z. (λ e. absurd (no_number Zero z e), λ h. absurd (h.0 (dz.0 refl)));
  }
  answers_by false true dz df = record {
    zero = (λ e. absurd (no_number Zero (exact op x y) (sym e)), λ h. absurd (both_ways false refl (dz.1 h)));
    range = (λ e. absurd (no_number Range (exact op x y) (sym e)), λ h. absurd (h.1 (df.0 refl)));
    done = λ z. (λ e. let w = the_number (exact op x y) z e in (λ h. both_ways false refl (dz.1 h), subst Int32 w (df.0 refl), sym w), λ h. ap Ok (sym h.2));
  }
  answers_by false false dz df = record {
    zero = (λ e. absurd (two-traps (sym e)), λ h. absurd (both_ways false refl (dz.1 h)));
    range = (λ _. (λ h. both_ways false refl (dz.1 h), λ h. both_ways false refl (df.1 h)), λ _. refl);
    done = λ z. (λ e. absurd (no_number Range z e), λ h. absurd (both_ways false refl (df.1 (subst Int32 h.2 h.1))));
  }

  pub answers : Answers op x y (worked op x y)
  answers = answers_by (zero_trap op x y) (fits32 (exact op x y)) (decides-zero op x y) (decides-fits (exact op x y))

-- ---- quotients

turned : (n : ℕ) → nat_abs (neg_ℤ (pos n)) ≡ n
turned zero = refl
turned (suc n) = refl

false-is-not-true : false ≡ true → ⊥
false-is-not-true e = both_ways false refl e

pub toward_zero : (x y : ℤ) → TowardZero x y (quot_z x y)
toward_zero (pos a) (pos b) = record { size = refl; alike = λ _. omega (arith, ints); unlike = λ n. absurd (n refl) }
toward_zero (pos a) (negsuc b) = record { size = turned (a / suc b); alike = λ e. absurd (false-is-not-true (sym e)); unlike = λ _. omega (arith, ints) }
toward_zero (negsuc a) (pos b) = record { size = turned (suc a / b); alike = λ e. absurd (false-is-not-true e); unlike = λ _. omega (arith, ints) }
toward_zero (negsuc a) (negsuc b) = record { size = refl; alike = λ _. omega (arith, ints); unlike = λ n. absurd (n refl) }

pub quotient_as : (x y r : ℤ) → r ≡ quot_z x y → record { value : r ≡ quot_z x y; means : TowardZero x y r }
quotient_as x y r e = record { value = e; means = subst (TowardZero x y) (sym e) (toward_zero x y) }

-- What the expressions of rows evaluate to. Assumes nothing.
use Rattle.std.proofs.Common.{◌≡◌, ℕ, zero, suc, Bool, true, false, List, [], ◌∷◌, ℤ, pos, sym, refl, subst₂, arith}
use Rattle.std.proofs.lemmas.Bool.{false≢true}
use Rattle.number.specs.Exact.{holds, truth, exact, zero_trap}
use Rattle.number.specs.declared.Op.{Op}
use Rattle.number.specs.declared.Relation.{Relation}
use Rattle.number.specs.declared.Relation.TheVariants.{Less, AtMost, Equal, Unequal, Greater, AtLeast}
use Rattle.machine.specs.Imp.{among, var, apply, look_up, Eval, pick, look, work, DividesByZero, here, left, right, condition}
use Rattle.machine.specs.Inputs.{allows, may_give}
use Rattle.machine.specs.declared.Input.{Input}
use Rattle.rules.specs.Ways.{input_on}

-- a set evaluates to its elements alone, and a variable to its value alone
pub picked : {locals : List ℤ} {set : ℤ → Bool} {n : ℤ} → Eval locals (among set) n → set n ≡ true
picked (pick h) = h

pub looked : {locals : List ℤ} {x : ℕ} {n : ℤ} → Eval locals (var x) n → look_up locals x ≡ n
looked (look h) = h

-- an operation on two variables gives its result on their values, and only where it does not divide by 0
pub record Works (op : Op) (m n r : ℤ) : Type 0 where
  pub divides : zero_trap op m n ≡ false
  pub gives : exact op m n ≡ r

pub worked : {locals : List ℤ} {op : Op} {a b : ℕ} {r : ℤ} → Eval locals (apply op (var a) (var b)) r → Works op (look_up locals a) (look_up locals b) r
worked {locals} {op} {a} {b} {r} (work e f z g) =
    subst₂ (λ (m n : ℤ). Works op m n r) (sym (looked e)) (sym (looked f)) (record { divides = z; gives = g })

-- it divides by 0 only if the value of its second variable is 0
pub divided : {locals : List ℤ} {op : Op} {a b : ℕ} → DividesByZero locals (apply op (var a) (var b)) → zero_trap op (look_up locals a) (look_up locals b) ≡ true
divided {locals} {op} {a} {b} (here e f z) =
    subst₂ (λ (m n : ℤ). zero_trap op m n ≡ true) (sym (looked e)) (sym (looked f)) z
divided (left d) = elim d [ ]
divided (right d) = elim d [ ]

-- the condition of a fork evaluates to 1 or 0, as its relation holds or not
pub tested : {locals : List ℤ} (rel : Relation) (a b : ℕ) {n : ℤ} → Eval locals (condition rel a b) n → truth (holds rel (look_up locals a) (look_up locals b)) ≡ n
tested Less a b e = (worked e).gives
tested AtMost a b e = (worked e).gives
tested Equal a b e = (worked e).gives
tested Unequal a b e = (worked e).gives
tested Greater a b e = (worked e).gives
tested AtLeast a b e = (worked e).gives

pub not-zero : (b : Bool) (n : ℤ) → truth b ≡ n → (n ≡ pos 0 → ⊥) → b ≡ true
not-zero true n e h = refl
not-zero false n e h = absurd (h (sym e))

pub is_zero : (b : Bool) → truth b ≡ pos 0 → b ≡ false
is_zero true e = let z : ◌≡◌ {A = ℕ} 1 0 = cc in absurd (omega arith)
is_zero false e = refl

-- what an input may give lies in its set
pub in-set : (inputs : List Input) (k : ℕ) (n : ℤ) → may_give inputs k n ≡ true → allows (input_on inputs k) n ≡ true
in-set [] k n h = absurd (false≢true h)
in-set (i ∷ is) zero n h = h
in-set (i ∷ is) (suc k) n h = in-set is k n h

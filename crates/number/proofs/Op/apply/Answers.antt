use Rattle.std.proofs.Common.{◌≡◌, ℤ, Result, sym, subst, rules}
use Rattle.number.specs.declared.Op.{Op}
use Rattle.number.specs.declared.Trap.{Trap}
use Rattle.number.specs.Exact.{worked}
use Rattle.number.specs.Means.{Answers as Answered}
use Rattle.number.proofs.Meaning.{answers}
use Rattle.number.proofs.Op.apply.Goals as goal

worked-as : (op : Op) (x y : ℤ) (r : Result ℤ Trap) → r ≡ worked op x y → record { value : r ≡ worked op x y; means : Answered op x y r }
worked-as op x y r e = record { value = e; means = subst (Answered op x y) (sym e) (answers op x y) }

pub returns-in-Add : goal.returns-in-Add
returns-in-Add c = worked-as c.args.self c.args.a c.args.b c.fitted.result (search rules)

pub returns-in-Sub : goal.returns-in-Sub
returns-in-Sub c = worked-as c.args.self c.args.a c.args.b c.fitted-in-Sub.result (search rules)

pub returns-in-Mul : goal.returns-in-Mul
returns-in-Mul c = worked-as c.args.self c.args.a c.args.b c.fitted-in-Mul.result (search rules)

pub returns-in-Div-3 : goal.returns-in-Div-3
returns-in-Div-3 c = worked-as c.args.self c.args.a c.args.b _ (search rules)

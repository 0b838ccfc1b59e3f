use Rattle.std.proofs.lemmas.Grind.{common_steps}
use Rattle.std.proofs.Common.{◌≡◌, vec_items, ap, ◌∙◌, arith}
use Rattle.sheet.specs.Sheets.{sheet_of}
use Rattle.widening.specs.Widened.{sheet_bytes}
use Rattle.writing.specs.Laid.{laid_out}
use Rattle.writing.proofs.Laid.{laid-read}
use Rattle.writing.proofs.sheets.sheet_bytes.Goals as goal

pub returns-clause-read : goal.returns-clause-read
returns-clause-read c s =
    let v = c.args.variables in
    let is = c.args.inputs.now in
    let rs = c.args.rows.now in
    let table = c.args.table.now in
    let all : vec_items c.extend_from_slice-4.new.self ≡ sheet_bytes (laid_out v is rs table) = grind (arith, common_steps) in
    ap sheet_of all ∙ laid-read v is rs table s (omega arith) (omega arith) (omega arith) (omega arith)

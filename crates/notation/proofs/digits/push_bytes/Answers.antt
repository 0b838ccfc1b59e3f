use Rattle.std.proofs.Common.{◌≡◌, ◌+◌, ◌++◌, sym, ap, ◌∙◌, length, take, arith}
use Rattle.std.proofs.Math.Seq.{take-append_seam}
use Rattle.std.proofs.lemmas.List.{length-append}
use Rattle.hex.proofs.HexLemmas.{decode_of-ok}
use Rattle.notation.proofs.digits.push_bytes.Goals as goal

pub returns-in_ok-extend_from_slice-in-None : goal.returns-in_ok-extend_from_slice-in-None
returns-in_ok-extend_from_slice-in-None c =
    let old = c.args.out.now.items in
    let bytes = c.in_ok-decode-in-None.field-0.items in
    let word = decode_of-ok c.args.digits.now _ c.in_ok-decode-in-None.ensures.ok in
    let sized : length bytes ≡ c.args.count = omega (arith, word.2, c.if-digits-count.false) in
    let is : c.extend_from_slice-in-None.new.self.items ≡ old ++ bytes = c.in_ok-extend_from_slice-in-None.ensures.items ∙ ap (λ bs. old ++ bs) c.deref.ensures.value in
    (ap (take (length old)) is ∙ take-append_seam old bytes, λ e. ap length is ∙ length-append old bytes ∙ ap (λ n. length old + n) sized)

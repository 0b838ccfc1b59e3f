use Rattle.std.proofs.Common.{◌-◌, length, drop, sym, ap, ◌∙◌}
use Rattle.scan.proofs.Words.{same-by-words}
use Rattle.scan.proofs.same_bytes.Goals as goal

pub returns-then-same_words : goal.returns-then-same_words
returns-then-same_words c =
    let a = c.args.a.now in
    let b = c.args.b.now in
    let words = sym c.as_chunks.ensures.front ∙ c.same_words.ensures.0 c.if-same_words.true ∙ c.as_chunks-in-Some-Some.ensures.front in
    let a_last = c.in-Some-Some.ensures.cases.1.same in
    let b_last = c.in-Some-Some.ensures'.cases.1.same in (
      (λ t. same-by-words a b c.if-a-b.false words (sym a_last ∙ c.same_word.ensures.0 t ∙ b_last)),
      (λ e. c.same_word.ensures.1 (a_last ∙ ap (λ xs. drop (length xs - 8) xs) e ∙ sym b_last)),
    )

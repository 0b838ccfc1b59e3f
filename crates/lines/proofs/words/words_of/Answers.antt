use Rattle.std.proofs.Common.{◌≡◌, true, nat_eq, get_or, vec_len, sym, ◌∙◌, arith, ne_eqb}
use Rattle.std.proofs.lemmas.Bool.{both_ways}
use Rattle.std.proofs.lemmas.Str.Pattern.{starts_char}
use Rattle.std.specs.Cmp.Lexicographic.{bytes_decides}
use Rattle.lines.proofs.Seen.{begins-from_item, comment-alone, comment-first, no-comment, seen-all, seen-comment, seen-next, seen-pushed}
use Rattle.lines.proofs.words.words_of.Goals as goal
use Rattle.lines.proofs.words.words_of.Goals.{then-eq-via-then-eq, then-eq-via-else-eq+then-starts_with, then-is_empty, else-is_empty}

pub returns-then-eq : goal.returns-then-eq
returns-then-eq c =
    let word = c.in-Some.word.now in
    let stops = seen-comment _ _ _ _ c.loop-word.invariant word _ (begins-from_item _ word _ c.in-Some.ensures.steps) in
    elim c.then-eq.branch [
      | then-eq-via-then-eq w ↦ stops (comment-alone _ word ((bytes_decides word _).0 (sym c.eq.ensures ∙ w.if-eq.true)))
      | then-eq-via-else-eq+then-starts_with w ↦ elim w.if-is_empty.branch [
        | then-is_empty v ↦ stops (comment-first _ word (sym w.is_empty.ensures ∙ v.if-is_empty.true) ((starts_char 35 word _ v.starts_with.ensures.cases (omega arith) (omega arith)).0 (sym v.value-is ∙ w.if-starts_with.true)))
        | else-is_empty v ↦ absurd (both_ways _ (v.value-is ∙ v.if-is_empty.false) w.if-starts_with.true)
      ]
    ]

pub loop-word-preserved : goal.loop-word-preserved
loop-word-preserved c =
    let word = c.in-Some.word.now in
    let goes = λ (start : nat_eq (vec_len c.loop-word.words) 0 ≡ true → ¬ (get_or word 0 0 ≡ 35)). seen-next _ _ _ _ c.loop-word.invariant word _ (begins-from_item _ word _ c.in-Some.ensures.steps) (no-comment _ word (λ e. both_ways _ c.if-eq.false (c.eq.ensures ∙ (bytes_decides word _).1 e)) start) in
    let count = vec_len c.push.new.self in
    let adds = seen-pushed _ _ _ c.in-Some.word (nat_eq count 0) _ c.in_ok-push.ensures.items (ne_eqb count 0 (λ e. omega (arith, c.in_ok-push.ensures.len))) in
    elim c.if-is_empty.branch [
      | then-is_empty v ↦ adds (goes (λ _ e. both_ways _ (sym v.value-is ∙ c.if-starts_with.false) ((starts_char 35 word _ v.starts_with.ensures.cases (omega arith) (omega arith)).1 e)))
      | else-is_empty v ↦ adds (goes (λ f. absurd (both_ways _ v.if-is_empty.false (c.is_empty.ensures ∙ f))))
    ]

pub returns : goal.returns
returns c = seen-all _ _ _ _ c.loop-word.invariant c.in-None.ensures.steps.1

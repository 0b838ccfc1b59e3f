use Rattle.std.proofs.Common.{map, nat_eq, vec_len}
use Rattle.std.specs.Str.Iter.{split_whitespace_rest}
use Rattle.lines.proofs.Seen.{Seen}
use Rattle.lines.proofs.words.words_of.Given as goal

abbrev pub invariant-loop-word : goal.invariant-loop-word
invariant-loop-word l = Seen l.line (map (λ w. w.now) l.words.items) (nat_eq (vec_len l.words) 0) (split_whitespace_rest l.word-iterator)

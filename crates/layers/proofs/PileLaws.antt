-- Every pile of lawful domains is lawful. Assumes nothing but their laws.
use Rattle.std.proofs.Common.{ℕ}
use Rattle.domain.specs.Carrier.{Dom, Lawful}
use Rattle.layers.specs.Piles.{Pile, leaf, pair, nonzero, pair_dom, nonzero_dom, dom_of}
use Rattle.layers.specs.PairLaws.{pair-order, pair-reading, pair-working, pair-narrowing}
use Rattle.layers.specs.NonzeroLaws.{nonzero-order, nonzero-reading, nonzero-working, nonzero-narrowing}

pub pair-lawful : {a b : Dom} → Lawful a → Lawful b → Lawful (pair_dom a b)
pair-lawful l m = record { order = pair-order l.order m.order; reading = pair-reading l.reading m.reading; working = pair-working l.working m.working; narrowing = pair-narrowing l.narrowing m.narrowing }

pub nonzero-lawful : {a : Dom} → Lawful a → Lawful (nonzero_dom a)
nonzero-lawful l = record { order = nonzero-order l.order; reading = nonzero-reading l.reading; working = nonzero-working l.working; narrowing = nonzero-narrowing l.order l.narrowing }

pub pile-lawful : (doms : ℕ → Dom) → ((i : ℕ) → Lawful (doms i)) → (p : Pile) → Lawful (dom_of doms p)
pile-lawful doms l (leaf i) = l i
pile-lawful doms l (pair a b) = pair-lawful (pile-lawful doms l a) (pile-lawful doms l b)
pile-lawful doms l (nonzero a) = nonzero-lawful (pile-lawful doms l a)

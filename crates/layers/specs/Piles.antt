-- Piles: domains by number, and the layers over them to any height. Assumes nothing.
use Rattle.std.specs.Prelude.{ℕ}
use Rattle.domain.specs.Carrier.{Dom}
use Rattle.layers.specs.declared.pair.Pair.{Pair}
use Rattle.layers.specs.declared.nonzero.Nonzero.{Nonzero}
use Rattle.layers.specs.Pairs.{both, pair_ops}
use Rattle.layers.specs.Marks.{unless0, nonzero_ops}

-- a pile is one of the domains, a pair of two piles, or nonzero over a pile
pub data Pile : Type 0 where
  leaf : ℕ → Pile
  pair : Pile → Pile → Pile
  nonzero : Pile → Pile

abbrev pub pair_dom : Dom → Dom → Dom
pair_dom a b = record { carrier = Pair a.carrier b.carrier; describes = both a.describes b.describes; ops = pair_ops a.ops b.ops }

abbrev pub nonzero_dom : Dom → Dom
nonzero_dom a = record { carrier = Nonzero a.carrier; describes = unless0 a.describes; ops = nonzero_ops a.ops }

-- the domain that a pile is, over the domains by number
abbrev pub dom_of : (ℕ → Dom) → Pile → Dom
dom_of doms (leaf i) = doms i
dom_of doms (pair a b) = pair_dom (dom_of doms a) (dom_of doms b)
dom_of doms (nonzero a) = nonzero_dom (dom_of doms a)

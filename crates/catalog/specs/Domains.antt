-- The domains that ship: the names that people write, the numbers, how wide the cells are, and what each is, as a pile over
-- spans and strides. Assumes nothing.
use Rattle.std.specs.Prelude.{◌≡◌, ℕ, ◌≢◌, List, [], ◌∷◌, Some, None, Option, Result, MatchResult, codes}
use Rattle.number.specs.Codes.{nth}
use Rattle.domain.specs.Carrier.{Dom}
use Rattle.layers.specs.Piles.{Pile, leaf, pair, nonzero, dom_of}
use Rattle.catalog.specs.Shipped.{shipped}
use Rattle.catalog.specs.declared.names.DomainName.{DomainName}
use Rattle.catalog.specs.declared.names.DomainName.TheVariants.{Spans, Strides, NonzeroSpans, NonzeroStrides, SpansStrides, StridesSpans, NonzeroSpansStrides, NonzeroPair, SpansNonzeroStrides, Spans8, Spans9}
use Rattle.catalog.specs.declared.names.UnknownName.{UnknownName}
use Rattle.catalog.specs.declared.names.UnknownNumber.{UnknownNumber}

abbrev pub name_of : DomainName → List ℕ
name_of Spans = codes "spans"
name_of Strides = codes "strides"
name_of NonzeroSpans = codes "nonzero(spans)"
name_of NonzeroStrides = codes "nonzero(strides)"
name_of SpansStrides = codes "pair(spans,strides)"
name_of StridesSpans = codes "pair(strides,spans)"
name_of NonzeroSpansStrides = codes "pair(nonzero(spans),strides)"
name_of NonzeroPair = codes "nonzero(pair(spans,strides))"
name_of SpansNonzeroStrides = codes "pair(spans,nonzero(strides))"
name_of Spans8 = codes "spans8"
name_of Spans9 = codes "spans9"

-- what a text reads as: the domain whose name it is, or nothing exactly where it is no domain's name
abbrev pub Named : List ℕ → Result DomainName UnknownName → Type 0
Named name r = MatchResult r (λ d. name ≡ name_of d) (λ _. (d : DomainName) → name ≢ name_of d)

-- how many bytes a cell has; nine spans would need 72, which is too many
abbrev pub width_of : DomainName → ℕ
width_of Spans = 8
width_of Strides = 6
width_of NonzeroSpans = 9
width_of NonzeroStrides = 7
width_of SpansStrides = 14
width_of StridesSpans = 14
width_of NonzeroSpansStrides = 15
width_of NonzeroPair = 15
width_of SpansNonzeroStrides = 15
width_of Spans8 = 64
width_of Spans9 = 0

abbrev pub spans : Pile
spans = leaf 0

abbrev pub strides : Pile
strides = leaf 1

abbrev pub spans4 : Pile
spans4 = pair (pair spans spans) (pair spans spans)

abbrev pub spans8 : Pile
spans8 = pair spans4 spans4

-- the domain that a name stands for
abbrev pub pile_of : DomainName → Pile
pile_of Spans = spans
pile_of Strides = strides
pile_of NonzeroSpans = nonzero spans
pile_of NonzeroStrides = nonzero strides
pile_of SpansStrides = pair spans strides
pile_of StridesSpans = pair strides spans
pile_of NonzeroSpansStrides = pair (nonzero spans) strides
pile_of NonzeroPair = nonzero (pair spans strides)
pile_of SpansNonzeroStrides = pair spans (nonzero strides)
pile_of Spans8 = spans8
pile_of Spans9 = pair spans8 spans

abbrev pub dom : DomainName → Dom
dom d = dom_of shipped (pile_of d)

-- the names by number, from 0
abbrev pub names : List DomainName
names =
    Spans ∷ Strides ∷ NonzeroSpans ∷ NonzeroStrides ∷ SpansStrides ∷ StridesSpans ∷ NonzeroSpansStrides ∷ NonzeroPair
    ∷ SpansNonzeroStrides ∷ Spans8 ∷ Spans9 ∷ []

-- the domain that a number names, if it names one
abbrev pub named : ℕ → Option DomainName
named n = nth names n

-- the same as what a number reads as
abbrev pub Numbered : ℕ → Result DomainName UnknownNumber → Type 0
Numbered n r = MatchResult r (λ d. named n ≡ Some d) (λ _. named n ≡ None)

-- The ways of a fork, by what narrowing changes. Assumes nothing.
use Rattle.std.proofs.Common.{◌≡◌, ℕ, Bool, true, false, cond, eqb, Some, None, Option, Result, refl, ap, ◌∙◌, subst}
use Rattle.number.specs.Exact.{mirrored}
use Rattle.number.specs.declared.Relation.{Relation}
use Rattle.sheet.specs.declared.refusals.Refusal.{Refusal}
use Rattle.domain.specs.Model.{Ops}
use Rattle.rules.specs.Checks.{Routine, lands}
use Rattle.rules.specs.Claims.{Claims}
use Rattle.rules.specs.Faults.{Meets}
use Rattle.rules.specs.Ways.{Way, pass, go, fork_way, meeting}
use Rattle.checker.specs.Changes.{after}
use Rattle.checker.specs.Scans.{both_narrowed, narrowed_to}
use Rattle.checker.specs.declared.changes.Change.{Change}
use Rattle.checker.specs.declared.changes.Change.TheVariants.{Nothing}

abbrev as_way : {V : Type 0} → ℕ → (ℕ → V) → Option (Change V) → Way V
as_way t cells None = pass
as_way t cells (Some change) = go t (after cells change)

way_by : {V : Type 0} (o : Ops V) (t : ℕ) (cells : ℕ → V) (a b : ℕ) (same : Bool) (v w : Option V)
    → as_way t cells (cond same (Some Nothing) (both_narrowed a b v w)) ≡ cond same (go t cells) (meeting o t cells a b v w)
way_by o t cells a b true v w = refl
way_by o t cells a b false None w = refl
way_by o t cells a b false (Some v) None = refl
way_by o t cells a b false (Some v) (Some w) = refl

module _ {V : Type 0} (o : Ops V) (r : Routine) (claims : Claims V) (place w : ℕ) (rel : Relation) (a b t : ℕ) (res : Result (Unit {0}) Refusal) where
  fork-way : as_way t (claims.cell place) (narrowed_to o (claims.cell place) rel a b) ≡ fork_way o (claims.cell place) rel a b t
  fork-way = way_by o t (claims.cell place) a b (eqb a b) (o.narrows (claims.cell place a) rel (claims.cell place b)) (o.narrows (claims.cell place b) (mirrored rel) (claims.cell place a))

  pub fork-goes : (change : Change V) → Some change ≡ narrowed_to o (claims.cell place) rel a b
      → Meets res (lands o r claims place w (go t (after (claims.cell place) change)))
      → Meets res (lands o r claims place w (fork_way o (claims.cell place) rel a b t))
  fork-goes change e h = subst (λ (x : Way V). Meets res (lands o r claims place w x)) (ap (as_way t (claims.cell place)) e ∙ fork-way) h

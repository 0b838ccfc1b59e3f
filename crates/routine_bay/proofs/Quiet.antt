-- Answers that are no trap. Assumes nothing.
use Rattle.std.proofs.Common.{◌≡◌, ℕ, IfOk, Ok, Err, Result, refl}
use Rattle.machine.specs.declared.states.Outcome.{Outcome}
use Rattle.machine.specs.declared.states.Outcome.TheVariants.{At, Ended, Trapped}
use Rattle.sheet.specs.declared.refusals.Refusal.{Refusal}
use Rattle.bay.specs.Stands.{traps_in}
use Rattle.bay.specs.Views.{offered, finished, stepped, told, NoTrap}
use Rattle.bay.specs.declared.Shown.{Shown}

pub offered-quiet : (r : Result ℕ Refusal) → traps_in (offered r) ≡ 0
offered-quiet (Ok n) = refl
offered-quiet (Err e) = refl

pub finished-quiet : (r : Result (Unit {0}) Refusal) → traps_in (finished r) ≡ 0
finished-quiet (Ok x) = refl
finished-quiet (Err e) = refl

pub told-quiet : (r : Result Shown Refusal) → traps_in (told r) ≡ 0
told-quiet (Ok s) = refl
told-quiet (Err e) = refl

came-quiet : (o : Outcome) → NoTrap o → traps_in (stepped (Ok o)) ≡ 0
came-quiet (At p) h = refl
came-quiet Ended h = refl
came-quiet (Trapped t p) h = absurd h

pub stepped-quiet : (r : Result Outcome Refusal) → IfOk r NoTrap → traps_in (stepped r) ≡ 0
stepped-quiet (Ok o) h = came-quiet o h
stepped-quiet (Err e) h = refl

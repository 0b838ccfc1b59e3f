-- What is said of a domain is said of each name that stands for it. Assumes nothing.
use Rattle.std.proofs.Common.{◌≡◌, ℕ, List, IfOk, Ok, Err, Result, refl}
use Rattle.sheet.specs.declared.refusals.Refusal.{Refusal}
use Rattle.rules.specs.Safety.{SafeSheet}
use Rattle.bay.specs.Views.{offered}
use Rattle.routine_bay.specs.Fields.{packed_report, verdict_report}
use Rattle.catalog.specs.Domains.{dom}
use Rattle.routine_bay.specs.Named.{SafeIf}
use Rattle.routine_bay.specs.Plays.{word_of}
use Rattle.catalog.specs.declared.names.DomainName.{DomainName}

-- an offer's answer is told by the same word as the verdict
pub offered-word : (r : Result ℕ Refusal) → packed_report (verdict_report r) ≡ word_of (offered r)
offered-word (Ok n) = refl
offered-word (Err e) = refl

pub safe-of : (e : DomainName) (bs : List ℕ) (r : Result ℕ Refusal) → IfOk r (λ _. SafeSheet (dom e) bs) → SafeIf e bs r
safe-of e bs (Ok n) p = p
safe-of e bs (Err f) p = tt

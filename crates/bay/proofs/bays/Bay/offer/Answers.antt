use Rattle.std.proofs.Common.{◌≡◌, Err, refl, rules}
use Rattle.sheet.specs.Views.{seen}
use Rattle.sheet.proofs.Accepted.{accepted}
use Rattle.domain.specs.Carrier.{as_dom}
use Rattle.rules.specs.Tables.{verdict_of}
use Rattle.bay.specs.Views.{view}
use Rattle.bay.specs.declared.Mode.TheVariants.{Running}
use Rattle.bay.proofs.Offers.{starts-settled, starts-safe, taken-rule, refused-rule}
use Rattle.bay.proofs.bays.Bay.offer.Goals as goal

pub hold-requires : goal.hold-requires
hold-requires g c =
    let s = seen c.in_ok-sheet.sheet in
    let bs = c.args.bytes.now in
    record {
      settled = starts-settled bs s c.in_ok-sheet.ensures.formed;
      safe = starts-safe (as_dom _ g.D.Domain.describes g.D.Domain.ops) s c.in_ok-sheet.ensures.safe;
    }

pub returns-in_err-sheet-clause-rule : goal.returns-in_err-sheet-clause-rule
returns-in_err-sheet-clause-rule g c =
    let v = view c.args.self.now in
    let r = c.in_err-sheet.field-0.0 in
    let rests : v.mode ≡ Running → ⊥ = search rules in
    let is : c.from_residual.result ≡ Err r = search rules in
    refused-rule v v (verdict_of g.D.Domain.ops) c.args.bytes.now rests r _ is c.in_err-sheet.ensures.value refl

pub returns-clause-rule : goal.returns-clause-rule
returns-clause-rule g c =
    let s = seen c.in_ok-sheet.sheet in
    let bs = c.args.bytes.now in
    let rests : (view c.args.self.now).mode ≡ Running → ⊥ = search rules in
    taken-rule (view c.args.self.now) (view c.hold.new.self) (verdict_of g.D.Domain.ops) bs rests
    c.in_ok-sheet.sheet.places s c.in_ok-sheet.ensures.value (accepted bs s c.in_ok-sheet.ensures.formed) c.hold.ensures

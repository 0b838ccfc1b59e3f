-- A morning with the dawn sheet: it is offered in spans, started and stepped to its end. Assumes nothing.
use Rattle.std.specs.Prelude.{◌≡◌, pos}
use Rattle.machine.specs.Imp.{look_up}
use Rattle.sheet.specs.Bytes.{AllBytes}
use Rattle.layers.specs.Piles.{leaf}
use Rattle.bay.specs.Calls.{Happens, taken, done, moved, ended}
use Rattle.bay.specs.Model.{View, nothing}
use Rattle.bay.specs.Stands
use Rattle.bay.specs.Stands.{Succession, call_of, offer_in}
use Rattle.bay.specs.declared.Mode.TheVariants.{Held}
use Rattle.catalog.specs.Shipped.{shipped}
use Rattle.dawn.specs.Sheet.{dawn}

-- Each call of the morning with its answer, on a bay that held nothing at first. 120 volts are read and no current,
-- so that the fork goes to the end and nothing is divided.
pub record Morning : Type 0 where
  pub bytes : AllBytes dawn
  pub held : View
  pub offered : Happens nothing (call_of shipped (offer_in (leaf 0) dawn bytes)) (taken 5) held
  pub begun : View
  pub started : Happens held (call_of shipped Stands.start) done begun
  pub with_volts : View
  pub volts : Happens begun (call_of shipped (Stands.step (pos 120))) (moved 1) with_volts
  pub with_amperes : View
  pub amperes : Happens with_volts (call_of shipped (Stands.step (pos 0))) (moved 2) with_amperes
  pub at_end : View
  pub forked : Happens with_amperes (call_of shipped (Stands.step (pos 0))) (moved 4) at_end
  pub over : View
  pub finished : Happens at_end (call_of shipped (Stands.step (pos 0))) ended over
  -- they are a succession of calls, and no trap was answered
  pub calls : Succession shipped over 0
  -- the bay then holds the routine, at its end, with what was read
  pub rests : over.mode ≡ Held
  pub last : over.state.place ≡ 4
  pub read_volts : look_up over.state.locals 0 ≡ pos 120
  pub read_amperes : look_up over.state.locals 1 ≡ pos 0

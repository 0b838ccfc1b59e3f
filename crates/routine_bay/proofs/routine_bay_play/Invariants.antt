use Rattle.std.proofs.Common.{◌≡◌, take, drop}
use Rattle.bay.specs.Views.{view}
use Rattle.routine_bay.specs.Plays.{Played}
use Rattle.routine_bay.proofs.routine_bay_play.Given as goal

-- so many calls have been played, and the words behind them are as they were
abbrev pub invariant-loop-count : goal.invariant-loop-count
invariant-loop-count l =
    Played l.calls (view l.bay) l.rest (take l.count l.answers)
    × (drop l.count l.answers ≡ drop l.count l.initial.answers)

-- A transport buffer whose packets come one by one, and whether it is empty once in each second.
use Rattle.std.specs.Prelude.{◌≡◌, ℕ, ◌≤◌, List, ◌++◌, IfSome}
use Rattle.tstd_model.specs.PacketBytes.{arrives, byte_subticks}
use Rattle.tstd_model.specs.declared.decoder_input.Arrival.{Arrival}
use Rattle.stream_audit.specs.declared.busy_watch.BusyWatch.{BusyWatch}
use Rattle.stream_audit.specs.BusyWalk.{busy_by, busy_behind}

-- These packets have come into a buffer that a byte takes so many subticks to leave. Where it has been empty once in each second up to now, and bytes leave no faster than
-- they come, a second that isn't so is found by the busy time of now, whatever still comes.
pub record HasEmptied (slot subticks : ℕ) (given : List Arrival) (watch : BusyWatch) : Type 0 where
  pub step_is : watch.step ≡ byte_subticks slot
  pub subticks_are : watch.subticks ≡ subticks
  pub rest : watch.step ≤ watch.subticks →
      IfSome watch.time (λ time. (later : List Arrival) → busy_by subticks 0 0 (arrives slot (given ++ later)) ≡ busy_behind time (arrives slot later))

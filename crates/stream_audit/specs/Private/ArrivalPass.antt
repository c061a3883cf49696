-- A list of what the packets of a PID bring, as they pass; no public clause cites this.
use Rattle.std.specs.Prelude.{◌≡◌, false, List, ◌++◌, All}
use Rattle.tstd_model.specs.PacketBytes.{HasHeaderWithin}
use Rattle.ts_demux.specs.declared.pid_places.Place.{Place}
use Rattle.stream_audit.specs.declared.arrival_pass.ArrivalWalk.{ArrivalWalk}
use Rattle.stream_audit.specs.PesBytes.{brought_by_all}

-- These packets have come: unless memory was wanted, what they bring is listed, and what later ones bring is of the bytes behind theirs.
pub record HasListed (start : ArrivalWalk) (places : List Place) (walk : ArrivalWalk) : Type 0 where
  pub rest : walk.wanting ≡ false → (later : List Place) → start.arrivals ++ brought_by_all (places ++ later) start.parts ≡ walk.arrivals ++ brought_by_all later walk.parts
  pub headers : All HasHeaderWithin start.arrivals → All HasHeaderWithin walk.arrivals

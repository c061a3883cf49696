-- A pass over the packets of a PID, as far as it has come; no public clause cites this.
use Rattle.std.specs.Prelude.{ℕ, List, [], ◌∷◌}
use Rattle.ts_demux.specs.declared.pid_places.Place.{Place}
use Rattle.ts_demux.specs.declared.pid_places.PlaceReader.{PlaceReader}
use Rattle.ts_demux.specs.PidPlaces.{IsBeforePlace, places_before}
use Rattle.ts_demux.specs.Private.StreamWalk.{AreSoundBefore}

-- a reader stands before the n-th packet of a file, no packet before is refused, and those of the PID have been taken
pub record StandsBefore (file : List ℕ) (pid n : ℕ) (reader : PlaceReader) (Taken : List Place → Type 0) : Type 0 where
  pub stands : IsBeforePlace file n reader
  pub sound : AreSoundBefore file (pid ∷ []) n
  pub taken : Taken (places_before file pid n)

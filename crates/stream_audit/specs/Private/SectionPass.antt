-- A pass over the packets of PID 0 and of a map's PID, as far as it has come; no public clause cites this.
use Rattle.std.specs.Prelude.{◌≡◌, ℕ, List, [], ◌∷◌, map}
use Rattle.tstd_model.specs.declared.decoder_input.Arrival.{Arrival}
use Rattle.ts_demux.specs.Private.StreamWalk.{AreSoundBefore}
use Rattle.ts_demux.specs.Tables.{pat_pid}
use Rattle.stream_audit.specs.declared.sections.SectionPlaces.{SectionPlaces}
use Rattle.stream_audit.specs.Private.Sections.{StandBefore}
use Rattle.stream_audit.specs.Streams.{section_arrival, system_before}

-- readers stand before the n-th packet of a file, no packet before is refused for either PID, and those of the PIDs are listed
pub record ListsBefore (file : List ℕ) (map_pid n : ℕ) (readers : SectionPlaces) (arrivals : List Arrival) : Type 0 where
  pub stand : StandBefore file map_pid n readers
  pub pat_sound : AreSoundBefore file (pat_pid ∷ []) n
  pub map_sound : AreSoundBefore file (map_pid ∷ []) n
  pub arrivals_are : arrivals ≡ map section_arrival (system_before file map_pid n)

-- The packets of PID 0 and of a map's PID, one further; no public clause cites these.
use Rattle.std.specs.Prelude.{◌≡◌, ◌⊎◌, ℕ, ◌||◌, List, [], ◌∷◌, map, Option, Result, Ok, Err, if◌then◌else◌}
use Rattle.std.specs.Option.{option_to_list}
use Rattle.ts_packets.specs.TransportStream.{is_of_pid}
use Rattle.ts_demux.specs.declared.demux_fault.DemuxFault.{DemuxFault}
use Rattle.ts_demux.specs.declared.pid_places.Place.{Place}
use Rattle.ts_demux.specs.Demux.{IsStreamFault}
use Rattle.ts_demux.specs.PidPlaces.{IsBeforePlace}
use Rattle.ts_demux.specs.Tables.{pat_pid}
use Rattle.stream_audit.specs.declared.sections.SectionPlaces.{SectionPlaces}
use Rattle.stream_audit.specs.Streams.{place_of}

-- two readers have taken the packets of their PIDs before the n-th one of a file
pub record StandBefore (file : List ℕ) (map_pid n : ℕ) (readers : SectionPlaces) : Type 0 where
  pub pat_pid_is : readers.pat.pid ≡ pat_pid
  pub map_pid_is : readers.map.pid ≡ map_pid
  pub pat : IsBeforePlace file n readers.pat
  pub map : IsBeforePlace file n readers.map

-- The n-th packet isn't refused for either PID, and is this place where it is of one of them.
pub record AddsSection (file : List ℕ) (map_pid n : ℕ) (found : Option Place) : Type 0 where
  pub found_is : option_to_list found ≡ map (place_of file) (if is_of_pid file pat_pid n || is_of_pid file map_pid n then n ∷ [] else [])
  pub pat_sound : (fault : DemuxFault) → IsStreamFault file (pat_pid ∷ []) n fault → ⊥
  pub map_sound : (fault : DemuxFault) → IsStreamFault file (map_pid ∷ []) n fault → ⊥

-- what comes of the n-th packet, or what refuses it for one of the PIDs
abbrev pub TakesSection : List ℕ → (map_pid n : ℕ) → Result (Option Place) DemuxFault → Type 0
TakesSection file map_pid n (Ok found) = AddsSection file map_pid n found
TakesSection file map_pid n (Err fault) = IsStreamFault file (pat_pid ∷ []) n fault ⊎ IsStreamFault file (map_pid ∷ []) n fault

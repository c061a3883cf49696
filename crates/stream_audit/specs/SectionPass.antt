-- What a pass over the packets of PID 0 and of a map's PID says of the file that a source gives.
use Rattle.std.specs.Prelude.{◌⊎◌, ℕ, ◌<◌, List, [], ◌∷◌, Option}
use Rattle.ts_packets.specs.TransportStream.{piece_count}
use Rattle.ts_demux.specs.declared.demux_fault.DemuxFault.{DemuxFault}
use Rattle.ts_demux.specs.Demux.{IsStreamFault}
use Rattle.ts_demux.specs.Pass.{IsEarly, OnRefused}
use Rattle.ts_demux.specs.Tables.{pat_pid}
use Rattle.stream_audit.specs.declared.places_fault.PlacesFault.{PlacesFault}
use Rattle.stream_audit.specs.declared.places_fault.PlacesFault.TheVariants.{Passing, TooMany}
use Rattle.stream_audit.specs.declared.places_fault.TheConstants.{PACKETS_MOST}

-- The first packet that is refused for PID 0 or for the map's PID; none before it is refused for either.
pub record IsFirstSectionFault (file : List ℕ) (map_pid : ℕ) (fault : DemuxFault) : Type 0 where
  pub packet : ℕ
  pub stands : IsStreamFault file (pat_pid ∷ []) packet fault ⊎ IsStreamFault file (map_pid ∷ []) packet fault
  pub pat_first : (n : ℕ) (other : DemuxFault) → n < packet → IsStreamFault file (pat_pid ∷ []) n other → ⊥
  pub map_first : (n : ℕ) (other : DemuxFault) → n < packet → IsStreamFault file (map_pid ∷ []) n other → ⊥

-- Such a packet, or more packets than are numbered; a fault of the outside has its cause in the counts, or is want of memory.
abbrev pub IsSectionPassRefused : (left left_after : Option (List ℕ)) → (most most_after : ℕ) → (held : List ℕ) → (map_pid : ℕ) → PlacesFault → Type 0
IsSectionPassRefused left left_after most most_after held map_pid (Passing fault) =
    OnRefused fault (λ refusal. IsEarly left left_after most most_after held (λ file. IsFirstSectionFault file map_pid refusal))
IsSectionPassRefused left left_after most most_after held map_pid TooMany = IsEarly left left_after most most_after held (λ file. PACKETS_MOST < piece_count file)

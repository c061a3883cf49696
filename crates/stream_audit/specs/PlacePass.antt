-- What a pass over the packets of a PID says of the file that a source gives.
use Rattle.std.specs.Prelude.{ℕ, ◌<◌, List, [], ◌∷◌, Option}
use Rattle.ts_packets.specs.TransportStream.{piece_count}
use Rattle.ts_demux.specs.Demux.{IsFirstStreamFault}
use Rattle.ts_demux.specs.Pass.{IsEarly, OnRefused}
use Rattle.stream_audit.specs.declared.places_fault.PlacesFault.{PlacesFault}
use Rattle.stream_audit.specs.declared.places_fault.PlacesFault.TheVariants.{Passing, TooMany}
use Rattle.stream_audit.specs.declared.places_fault.TheConstants.{PACKETS_MOST}

-- The first packet that is refused for the PID, or more packets than are numbered; a fault of the outside has its cause in the counts.
abbrev pub IsPassRefused : (left left_after : Option (List ℕ)) → (most most_after : ℕ) → (held : List ℕ) → (pid : ℕ) → PlacesFault → Type 0
IsPassRefused left left_after most most_after held pid (Passing fault) =
    OnRefused fault (λ refusal. IsEarly left left_after most most_after held (λ file. IsFirstStreamFault file (pid ∷ []) refusal))
IsPassRefused left left_after most most_after held pid TooMany = IsEarly left left_after most most_after held (λ file. PACKETS_MOST < piece_count file)

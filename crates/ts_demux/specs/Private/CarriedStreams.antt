-- How the streams that are carried are chosen one by one.
use Rattle.std.specs.Prelude.{◌≡◌, ℕ, ◌<◌, ◌⊎◌, List, ◌++◌, length, map, slice_index_or, Some, None}
use Rattle.std.specs.List.{remove}
use Rattle.psi_tables.specs.declared.program_map.ProgramMap.{ProgramMap}
use Rattle.psi_tables.specs.declared.stream.Stream.{Stream}
use Rattle.ts_demux.specs.declared.carried_streams.CarriedStreams.{CarriedStreams}
use Rattle.ts_demux.specs.declared.demux_fault.DemuxFault.{DemuxFault}
use Rattle.ts_demux.specs.declared.demux_fault.DemuxFault.TheVariants.{NoVideo, OutOfMemory}
use Rattle.ts_demux.specs.Streams.{video_of, without_video, audios_of, others_of}
use Rattle.ts_demux.specs.Demux.{IsCarriedMap}

-- these are the carried streams of a map
abbrev pub IsCarried : List ℕ → ProgramMap → CarriedStreams → Type 0
IsCarried drop whole carried = IsCarriedMap drop whole carried.map carried.others

-- memory was wanted, or there is no video
abbrev pub IsCarryFault : ProgramMap → DemuxFault → Type 0
IsCarryFault whole fault = (fault ≡ OutOfMemory) ⊎ ((fault ≡ NoVideo 0) × (video_of whole.streams.items ≡ None))

-- the PIDs of streams
abbrev pub pids_in : List Stream → List ℕ
pids_in streams = map (λ stream. stream.pid) streams

-- the carried ones of some streams come behind those that are carried, and the others' PIDs are given
pub record CarriesAudios (drop : List ℕ) (carried streams after : List Stream) (others : List ℕ) : Type 0 where
  pub carried_are : after ≡ carried ++ audios_of drop (pids_in carried) streams
  pub others_are : others ≡ others_of drop (pids_in carried) streams

-- the first video stream stands there, and the others are what is left without it
pub record IsVideoAt (streams : List Stream) (at : ℕ) : Type 0 where
  pub within : at < length streams
  pub video : (d : Stream) → video_of streams ≡ Some (slice_index_or streams at d)
  pub others : without_video streams ≡ remove streams at

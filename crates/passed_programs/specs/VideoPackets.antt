-- What is read of a video by its PES packets, and what refuses it.
use Rattle.std.specs.Prelude.{◌≡◌, List, map, None, true}
use Rattle.bit_lists.specs.Fields.{AreBytes}
use Rattle.ts_demux.specs.declared.demuxed.Demuxed.{Demuxed}
use Rattle.ts_demux.specs.declared.demuxed.PesUnit.{PesUnit}
use Rattle.elementary_streams.specs.Packets.{joined, taken}
use Rattle.program_reader.specs.declared.program_fault.ProgramFault.{ProgramFault}
use Rattle.program_reader.specs.declared.unit_sizes.SizesWanted.{SizesWanted}
use Rattle.program_reader.specs.declared.video_walk.WalkedVideo.{WalkedVideo}
use Rattle.program_reader.specs.KeptUnits.{kept_at}
use Rattle.program_reader.specs.Programs.{IsDemuxedRefused, video_bytes}
use Rattle.program_reader.specs.Sizes.{AreUnitSizes}
use Rattle.program_reader.specs.VideoWalk.{IsVideoWalked}

-- what is read of a video that has these PES packets, whose bytes are bytes
pub record ReadsVideo (wanted : SizesWanted) (packets : List PesUnit) (video : WalkedVideo) : Type 0 where
  pub walked : (demuxed : Demuxed) → demuxed.video ≡ packets → IsVideoWalked demuxed video
  pub sized : wanted.are_wanted ≡ true → (demuxed : Demuxed) → demuxed.video ≡ packets
      → AreUnitSizes (video_bytes demuxed) wanted.coarser.now None (map kept_at video.units.items) video.sizes.items
  pub bytes : AreBytes (joined (taken true packets))

-- what refuses such a video
abbrev pub RefusesVideo : List PesUnit → ProgramFault → Type 0
RefusesVideo packets fault = (demuxed : Demuxed) → demuxed.video ≡ packets → IsDemuxedRefused demuxed fault

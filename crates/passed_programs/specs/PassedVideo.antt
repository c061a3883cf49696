-- The video of a file that was read while the file passed out of a source, and what refuses it.
use Rattle.std.specs.Prelude.{◌≡◌, ◌⊎◌, ℕ, ◌<◌, ◌≤◌, List, length, map, Option, None, true}
use Rattle.bit_lists.specs.Fields.{AreBytes}
use Rattle.ts_demux.specs.declared.demuxed.Demuxed.{Demuxed}
use Rattle.ts_demux.specs.declared.demuxed.PesUnit.{PesUnit}
use Rattle.ts_demux.specs.declared.pass_fault.PassFault.TheVariants as passes
use Rattle.ts_demux.specs.Demux.{AreStreamsSound, IsFirstStreamFault}
use Rattle.ts_demux.specs.Faults.{IsMemory}
use Rattle.ts_demux.specs.Pass.{IsEarly, IsWhole}
use Rattle.elementary_streams.specs.Packets.{joined, taken}
use Rattle.program_reader.specs.declared.limits.TheConstants.{FILE_BYTES_MOST, PES_PACKETS_MOST}
use Rattle.program_reader.specs.declared.program_fault.ProgramFault.{ProgramFault}
use Rattle.program_reader.specs.declared.program_fault.ProgramFault.TheVariants.{OutOfMemory, Refused}
use Rattle.program_reader.specs.declared.program_fault.SourceKind.TheVariants as kinds
use Rattle.program_reader.specs.declared.unit_sizes.SizesWanted.{SizesWanted}
use Rattle.program_reader.specs.declared.video_walk.WalkedVideo.{WalkedVideo}
use Rattle.program_reader.specs.KeptUnits.{kept_at}
use Rattle.program_reader.specs.Programs.{IsDemuxedRefused, video_bytes}
use Rattle.program_reader.specs.Sizes.{AreUnitSizes}
use Rattle.program_reader.specs.VideoWalk.{IsVideoWalked}
use Rattle.stream_pass.specs.PassedStream.{HasPackets, IsSoundStream}
use Rattle.passed_programs.specs.declared.read_fault.ReadFault.{ReadFault}
use Rattle.passed_programs.specs.declared.read_fault.ReadFault.TheVariants as faults

-- The first of these PIDs has these PES packets in a file.
abbrev pub HasVideo : (file pids : List ℕ) → List PesUnit → Type 0
HasVideo file pids packets = HasPackets file pids 0 packets

-- No transport packet of a file on these PIDs is refused, and the first of them has these PES packets, no more than a program may have of a stream; nor is the
-- file longer than a program's may be.
abbrev pub IsSoundVideo : (file pids : List ℕ) → List PesUnit → Type 0
IsSoundVideo file pids packets = IsSoundStream file pids 0 packets

-- The video is that of everything that may be taken out of the file, which has these PES packets as its video, with the sizes of its units' versions where they
-- are wanted; and its bytes are bytes.
pub record IsVideoRead (file pids : List ℕ) (wanted : SizesWanted) (video : WalkedVideo) : Type 0 where
  pub packets : List PesUnit
  pub sound_video : IsSoundVideo file pids packets
  pub walked : (demuxed : Demuxed) → demuxed.video ≡ packets → IsVideoWalked demuxed video
  pub sized : wanted.are_wanted ≡ true → (demuxed : Demuxed) → demuxed.video ≡ packets
      → AreUnitSizes (video_bytes demuxed) wanted.coarser.now None (map kept_at video.units.items) video.sizes.items
  pub bytes : AreBytes (joined (taken true packets))

-- What refuses it, in this order: the length of the file; how many PES packets it has; and then these PES packets and their units. Want of memory may come at
-- any time.
pub data IsVideoRefused (file pids : List ℕ) (fault : ProgramFault) : Type 0 where
  long : FILE_BYTES_MOST < length file → fault ≡ Refused kinds.ProgramLimit 0 → IsVideoRefused file pids fault
  many_packets : (packets : List PesUnit) → AreStreamsSound file pids → HasVideo file pids packets → length file ≤ FILE_BYTES_MOST → PES_PACKETS_MOST < length packets
      → fault ≡ Refused kinds.ProgramLimit 0 → IsVideoRefused file pids fault
  taken_out : (packets : List PesUnit) → IsSoundVideo file pids packets → ((demuxed : Demuxed) → demuxed.video ≡ packets → IsDemuxedRefused demuxed fault)
      → IsVideoRefused file pids fault

-- What is said of a refusal: of the first transport packet that is refused, as far as the file was read; of the video, when all of it was. A fault of the
-- outside has its cause in the counts, and want of memory may come at any time.
abbrev pub IsReadRefused : (left left_after : Option (List ℕ)) → (most most_after : ℕ) → (held pids : List ℕ) → ReadFault → Type 0
IsReadRefused left left_after most most_after held pids (faults.Passing (passes.Outside fault)) = Unit {0}
IsReadRefused left left_after most most_after held pids (faults.Passing (passes.Refused fault)) =
    IsMemory fault ⊎ IsEarly left left_after most most_after held (λ file. IsFirstStreamFault file pids fault)
IsReadRefused left left_after most most_after held pids (faults.Refused fault) =
    (fault ≡ OutOfMemory) ⊎ IsWhole left left_after most most_after held (λ file. IsVideoRefused file pids fault)

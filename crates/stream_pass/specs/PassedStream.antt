-- A stream of a file that was read while the file passed out of a source, and what refuses it.
use Rattle.std.specs.Prelude.{◌≡◌, ◌⊎◌, ℕ, ◌<◌, ◌≤◌, List, length, slice_get, Option, Some}
use Rattle.ts_packets.specs.TransportStream.{piece_count}
use Rattle.ts_demux.specs.declared.demuxed.PesUnit.{PesUnit}
use Rattle.ts_demux.specs.declared.pass_fault.PassFault.{PassFault}
use Rattle.ts_demux.specs.declared.pass_fault.PassFault.TheVariants as passes
use Rattle.ts_demux.specs.Demux.{AreStreamsSound, IsFirstStreamFault}
use Rattle.ts_demux.specs.Faults.{IsMemory}
use Rattle.ts_demux.specs.Pass.{IsEarly, IsWhole}
use Rattle.pes_passing.specs.PassingPackets.{packets_before}
use Rattle.stream_pass.specs.declared.limits.TheConstants.{FILE_BYTES_MOST, PES_PACKETS_MOST}
use Rattle.stream_pass.specs.declared.read_fault.ReadFault.{ReadFault}
use Rattle.stream_pass.specs.declared.read_fault.ReadFault.TheVariants as faults

-- ---- the stream of a file

-- The one of a number among these PIDs has these PES packets in a file.
pub record HasPackets (file pids : List ℕ) (index : ℕ) (packets : List PesUnit) : Type 0 where
  pub pid : ℕ
  pub pid_is : slice_get pids index ≡ Some pid
  pub packets_are : packets ≡ packets_before file pid (piece_count file)

-- No transport packet of a file on these PIDs is refused, and the one of a number among them has these PES packets, no more than a program may have of a stream;
-- nor is the file longer than a program's may be.
pub record IsSoundStream (file pids : List ℕ) (index : ℕ) (packets : List PesUnit) : Type 0 where
  pub sound : AreStreamsSound file pids
  pub has : HasPackets file pids index packets
  pub short : length file ≤ FILE_BYTES_MOST
  pub few : length packets ≤ PES_PACKETS_MOST

-- ---- what is answered

-- What is answered of it is what is said of these PES packets.
pub record IsOfStream {A : Type 0} (file pids : List ℕ) (index : ℕ) (says : List PesUnit → A → Type 0) (answer : A) : Type 0 where
  pub packets : List PesUnit
  pub sound_stream : IsSoundStream file pids index packets
  pub said : says packets answer

-- A limit is passed: the file is too long; or else the stream has too many PES packets.
pub data IsOverLimit (file pids : List ℕ) (index : ℕ) : Type 0 where
  long : FILE_BYTES_MOST < length file → IsOverLimit file pids index
  many_packets : (packets : List PesUnit) → AreStreamsSound file pids → HasPackets file pids index packets → length file ≤ FILE_BYTES_MOST → PES_PACKETS_MOST < length packets
      → IsOverLimit file pids index

-- What is said of a refusal: of the first transport packet that is refused, as far as the file was read; of a limit and of the stream, when all of it was. A fault
-- of the outside has its cause in the counts, and want of memory may come at any time.
abbrev pub IsReadRefused : {F : Type 0} → (left left_after : Option (List ℕ)) → (most most_after : ℕ) → (held pids : List ℕ) → (index : ℕ)
    → (refuses : List PesUnit → F → Type 0) → ReadFault PassFault F → Type 0
IsReadRefused left left_after most most_after held pids index refuses (faults.Passing (passes.Outside fault)) = Unit {0}
IsReadRefused left left_after most most_after held pids index refuses (faults.Passing (passes.Refused fault)) =
    IsMemory fault ⊎ IsEarly left left_after most most_after held (λ file. IsFirstStreamFault file pids fault)
IsReadRefused left left_after most most_after held pids index refuses faults.Limit = IsWhole left left_after most most_after held (λ file. IsOverLimit file pids index)
IsReadRefused left left_after most most_after held pids index refuses (faults.Refused fault) =
    IsWhole left left_after most most_after held (λ file. IsOfStream file pids index refuses fault)
IsReadRefused left left_after most most_after held pids index refuses faults.OutOfMemory = Unit {0}

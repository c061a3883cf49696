-- A stream of a program stream that was read while the file passed out of a source, and what refuses it.
use Rattle.std.specs.Prelude.{◌≡◌, ◌⊎◌, ℕ, ◌<◌, ◌≤◌, List, [], length, Option}
use Rattle.ts_demux.specs.declared.demuxed.PesUnit.{PesUnit}
use Rattle.ts_demux.specs.Pass.{HoldsOfFile, IsWhole}
use Rattle.program_stream.specs.declared.element_fault.ElementFault.{ElementFault}
use Rattle.program_stream.specs.declared.element_fault.ElementFault.TheVariants as elements
use Rattle.program_stream.specs.declared.split_fault.SplitFault.{SplitFault}
use Rattle.program_stream.specs.Elements.{Element}
use Rattle.program_stream.specs.PassingElements.{AreRefused, IsShortFile}
use Rattle.program_stream.specs.Split.{HasElements}
use Rattle.program_stream.specs.Streams.{packets_of}
use Rattle.stream_pass.specs.declared.limits.TheConstants.{FILE_BYTES_MOST, PES_PACKETS_MOST}
use Rattle.stream_pass.specs.declared.read_fault.ReadFault.{ReadFault}
use Rattle.stream_pass.specs.declared.read_fault.ReadFault.TheVariants as faults

-- ---- the stream of a file

-- No element of a file is refused, and these are the PES packets of an id.
pub record HasIdPackets (file : List ℕ) (id : ℕ) (packets : List PesUnit) : Type 0 where
  pub elements : List Element
  pub cut : ℕ
  pub elements_are : HasElements file elements cut
  pub packets_are : packets ≡ packets_of elements id

-- They are no more than a program may have of a stream; nor is the file longer than a program's may be.
pub record IsSoundId (file : List ℕ) (id : ℕ) (packets : List PesUnit) : Type 0 where
  pub has : HasIdPackets file id packets
  pub short : length file ≤ FILE_BYTES_MOST
  pub few : length packets ≤ PES_PACKETS_MOST

-- ---- what is answered

-- What is answered of it is what is said of these PES packets.
pub record IsOfId {A : Type 0} (file : List ℕ) (id : ℕ) (says : List PesUnit → A → Type 0) (answer : A) : Type 0 where
  pub packets : List PesUnit
  pub sound_stream : IsSoundId file id packets
  pub said : says packets answer

-- A limit is passed: the file is too long; or else the stream has too many PES packets.
pub data IsOverIdLimit (file : List ℕ) (id : ℕ) : Type 0 where
  long : FILE_BYTES_MOST < length file → IsOverIdLimit file id
  many_packets : (packets : List PesUnit) → HasIdPackets file id packets → length file ≤ FILE_BYTES_MOST → PES_PACKETS_MOST < length packets → IsOverIdLimit file id

-- a file is short, or else this is the first refusal among its elements
abbrev pub AreElementsRefused : List ℕ → SplitFault → Type 0
AreElementsRefused file fault = IsShortFile file fault ⊎ AreRefused file fault

-- What is said of a refusal: of the elements, as far as the file was read; of a limit and of the stream, when all of it was. A fault of the outside has its cause
-- in the counts, and want of memory may come at any time.
abbrev pub IsIdRefused : {F : Type 0} → (left left_after : Option (List ℕ)) → (most most_after id : ℕ) → (refuses : List PesUnit → F → Type 0) → ReadFault ElementFault F → Type 0
IsIdRefused left left_after most most_after id refuses (faults.Passing (elements.Outside fault)) = Unit {0}
IsIdRefused left left_after most most_after id refuses (faults.Passing (elements.Refused fault)) = HoldsOfFile left left_after most most_after [] (λ file. AreElementsRefused file fault)
IsIdRefused left left_after most most_after id refuses faults.Limit = IsWhole left left_after most most_after [] (λ file. IsOverIdLimit file id)
IsIdRefused left left_after most most_after id refuses (faults.Refused fault) = IsWhole left left_after most most_after [] (λ file. IsOfId file id refuses fault)
IsIdRefused left left_after most most_after id refuses faults.OutOfMemory = Unit {0}

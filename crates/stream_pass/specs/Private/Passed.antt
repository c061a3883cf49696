-- A stream, as far as its PES packets have passed: what is read of them, or what the first one with a fault is refused for.
use Rattle.std.specs.Prelude.{◌≡◌, ◌⊎◌, ℕ, ◌<◌, ◌≤◌, List, [], ◌∷◌, ◌++◌, length, Option, Some, None}
use Rattle.std.specs.Option.{option_to_list}
use Rattle.shelf_io.specs.Source.{source_bytes_most}
use Rattle.ts_demux.specs.declared.demuxed.PesUnit.{PesUnit}
use Rattle.pes_passing.specs.PassingPackets.{size_of}
use Rattle.stream_pass.specs.declared.limits.TheConstants.{FILE_BYTES_MOST, PES_PACKETS_MOST}
use Rattle.stream_pass.specs.declared.limited_walk.Passed.{Passed}
use Rattle.stream_pass.specs.declared.limited_walk.State.{State}
use Rattle.stream_pass.specs.declared.limited_walk.State.TheVariants as states
use Rattle.stream_pass.specs.declared.read_fault.ReadFault.{ReadFault}
use Rattle.stream_pass.specs.declared.read_fault.ReadFault.TheVariants as faults
use Rattle.stream_pass.specs.StreamWalk.{AreFew}

-- one of some PES packets is the first with a fault, if another one follows it
pub record IsHeld {F : Type 0} (refuses : List PesUnit → F → Type 0) (packets : List PesUnit) (fault : F) : Type 0 where
  pub before : List PesUnit
  pub packet : PesUnit
  pub later : List PesUnit
  pub split : packets ≡ before ++ packet ∷ later
  pub first : (next : PesUnit) (more : List PesUnit) → refuses (before ++ packet ∷ next ∷ more) fault

-- these PES packets are read, or one has a fault
abbrev pub AreReadTo : {W F : Type 0} → (has_read : List PesUnit → W → Type 0) → (refuses : List PesUnit → F → Type 0) → List PesUnit → State W F → Type 0
AreReadTo has_read refuses packets (states.Taken walk) = has_read packets walk
AreReadTo has_read refuses packets (states.Refused fault) = IsHeld refuses packets fault

-- PES packets are counted, and read as long as they are no more than a program may have
pub record AreTaken {W F : Type 0} (has_read : List PesUnit → W → Type 0) (refuses : List PesUnit → F → Type 0) (packets : List PesUnit) (passed : Passed W F) : Type 0 where
  pub count_is : passed.count ≡ length packets
  pub bytes_are : passed.bytes ≡ size_of packets
  pub read : AreFew packets → AreReadTo has_read refuses packets passed.state

-- A PES packet has ended behind others, and is held.
pub record IsNext (ended : List PesUnit) (packet : PesUnit) (held : Option PesUnit) : Type 0 where
  pub held_is : held ≡ Some packet
  pub count_few : length (ended ++ packet ∷ []) ≤ source_bytes_most
  pub bytes_few : size_of (ended ++ packet ∷ []) ≤ source_bytes_most

-- PES packets that have ended, and a last one
abbrev pub all_of : List PesUnit → Option PesUnit → List PesUnit
all_of ended last = ended ++ option_to_list last

-- They are all of a stream, in a file of so many bytes.
pub record IsLast (ended : List PesUnit) (last : Option PesUnit) (bytes : ℕ) : Type 0 where
  pub none : last ≡ None → ended ≡ []
  pub count_few : length ended ≤ source_bytes_most
  pub size : size_of (all_of ended last) ≤ bytes

-- a file of so many bytes with these PES packets of a stream is no more than a program may have
pub record IsWithin (bytes : ℕ) (packets : List PesUnit) : Type 0 where
  pub short : bytes ≤ FILE_BYTES_MOST
  pub few : length packets ≤ PES_PACKETS_MOST

-- it is more
abbrev pub IsOver : (bytes : ℕ) → (packets : List PesUnit) → Type 0
IsOver bytes packets = (FILE_BYTES_MOST < bytes) ⊎ ((bytes ≤ FILE_BYTES_MOST) × (PES_PACKETS_MOST < length packets))

-- what is said of PES packets that are no more
pub record IsOfPackets {A : Type 0} (bytes : ℕ) (packets : List PesUnit) (says : List PesUnit → A → Type 0) (answer : A) : Type 0 where
  pub within : IsWithin bytes packets
  pub said : says packets answer

-- What refuses a stream at the end of a file that has passed: a limit, or its PES packets. Want of memory may come at any time.
abbrev pub IsEndRefused : {P F : Type 0} → (bytes : ℕ) → (packets : List PesUnit) → (refuses : List PesUnit → F → Type 0) → ReadFault P F → Type 0
IsEndRefused bytes packets refuses (faults.Passing fault) = ⊥
IsEndRefused bytes packets refuses faults.Limit = IsOver bytes packets
IsEndRefused bytes packets refuses (faults.Refused fault) = IsOfPackets bytes packets refuses fault
IsEndRefused bytes packets refuses faults.OutOfMemory = Unit {0}

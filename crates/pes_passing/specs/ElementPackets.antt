-- The PES packets of a stream of a program stream that have passed, and the one that is held (ISO/IEC 13818-1, 2.5.3).
use Rattle.std.specs.Prelude.{◌≡◌, ℕ, Bool, true, false, List, [], ◌∷◌, ◌++◌, length, Option, Some}
use Rattle.ts_demux.specs.declared.demuxed.PesUnit.{PesUnit}
use Rattle.ts_demux.specs.Pass.{IsWhole}
use Rattle.program_stream.specs.Elements.{Element}
use Rattle.program_stream.specs.PassingElements.{HasPassed as HavePassed, taken_of as taken_behind}
use Rattle.program_stream.specs.Split.{HasElements}
use Rattle.program_stream.specs.Streams.{packets_of}
use Rattle.pes_passing.specs.declared.element_packets.ElementPackets.{ElementPackets}
use Rattle.pes_passing.specs.PassingPackets.{AreSplit, open_of}

-- ---- the walk

-- the id of the stream whose PES packets are given
abbrev pub id_of : ElementPackets → ℕ
id_of packets = packets.id

-- the PES packet that has ended last, or is open
abbrev pub held_of : ElementPackets → Option PesUnit
held_of packets = packets.pes.held

-- how many bytes were taken from the source
abbrev pub taken_of : ElementPackets → ℕ
taken_of packets = taken_behind packets.elements

-- ---- what has passed of a source

-- Of the PES packets that the stream has in some elements these have ended, and are counted.
pub record AreIn (elements : List Element) (ended : List PesUnit) (packets : ElementPackets) : Type 0 where
  pub split : AreSplit (packets_of elements packets.id) ended (open_of packets.pes)
  pub count_is : packets.pes.count ≡ length ended

-- The elements of a source from its front on have passed, and these PES packets have ended in them.
pub record HasPassed (left left_after : Option (List ℕ)) (most most_after : ℕ) (ended : List PesUnit) (packets : ElementPackets) : Type 0 where
  pub elements : List Element
  pub passed : HavePassed left left_after most most_after elements packets.elements
  pub are_in : AreIn elements ended packets

-- It stands behind the elements of a file, of which none is refused, and all PES packets of the stream are those that have ended, and a last one.
pub record StandsAtEnd (file : List ℕ) (ended : List PesUnit) (packets : ElementPackets) : Type 0 where
  pub elements : List Element
  pub cut : ℕ
  pub elements_are : HasElements file elements cut
  pub split : AreSplit (packets_of elements packets.id) ended (held_of packets)
  pub count_is : packets.pes.count ≡ length ended

-- what comes of a step: one PES packet more has ended, which is held; or the source has, the held one is the last, and all bytes of the file were taken
abbrev pub Goes : (more : Bool) → (left left_after : Option (List ℕ)) → (most most_after : ℕ) → (ended : List PesUnit) → ElementPackets → Type 0
Goes true left left_after most most_after ended packets =
    (packet : PesUnit) × (held_of packets ≡ Some packet) × HasPassed left left_after most most_after (ended ++ packet ∷ []) packets
Goes false left left_after most most_after ended packets =
    IsWhole left left_after most most_after [] (λ file. StandsAtEnd file ended packets × (length file ≡ taken_of packets))

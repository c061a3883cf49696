-- What a walk over the elements of a program stream holds; no public clause cites these.
use Rattle.std.specs.Prelude.{ℕ}
use Rattle.program_stream.specs.declared.passing_elements.PassingElements.{PassingElements}
use Rattle.pes_passing.specs.declared.element_packets.ElementPackets.{ElementPackets}

-- the elements that pass
abbrev pub elements_of : ElementPackets → PassingElements
elements_of packets = packets.elements

-- how many PES packets have ended
abbrev pub count_of : ElementPackets → ℕ
count_of packets = packets.pes.count

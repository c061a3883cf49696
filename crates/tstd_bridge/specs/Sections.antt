-- What a list of rows brings to the decoder of a program's sections: the PAT and the program's PMT.
use Rattle.std.specs.Prelude.{ℕ, ◌+◌, ◌==◌, List, [], ◌∷◌, ◌++◌, replicate, if◌then◌else◌}
use Rattle.stream_constants.specs.declared.packets.TheConstants.{PAYLOAD_BYTES}
use Rattle.slot_rule.specs.declared.row.Row.{Row}
use Rattle.slot_rule.specs.declared.row.Row.TheVariants.{Reserved, Carries, Empty}
use Rattle.slot_rule.specs.declared.sent.Sent.{Sent}
use Rattle.slot_rule.specs.declared.sent.Sent.TheVariants.{Null, Pat, Pmt, Pcr, Video as VideoPiece, Audio as AudioPiece}
use Rattle.tstd_model.specs.declared.decoder_input.Arrival.{Arrival}

-- the section packets of a program in a reserved slot: the PAT, or the program's PMT
abbrev pub sections_sent : (program : ℕ) → Sent → ℕ
sections_sent program Pat = 1
sections_sent program (Pmt p) = if p == program then 1 else 0
sections_sent program Null = 0
sections_sent program (Pcr p) = 0
sections_sent program (VideoPiece stream item piece) = 0
sections_sent program (AudioPiece stream item) = 0

-- the section packets of a program in the row
abbrev pub section_packets : (program : ℕ) → Row → ℕ
section_packets program (Reserved sent) = sections_sent program sent
section_packets program (Carries stream packet) = 0
section_packets program Empty = 0

-- the section packets that the rows bring to a program's decoder, where the first row stands in the slot of this number;
-- a section and the bytes that fill its packet come into the buffers
unfoldable pub sections_from : (slot_no program : ℕ) → List Row → List Arrival
sections_from slot_no program [] = []
sections_from slot_no program (row ∷ rows) =
    replicate (section_packets program row) (record { slot_no = slot_no; header = 0; payload = PAYLOAD_BYTES }) ++ sections_from (slot_no + 1) program rows

-- What the bytes of PES packets are that still come; no public clause cites these.
use Rattle.std.specs.Prelude.{◌≡◌, ℕ, ◌+◌, List, [], ◌∷◌, ◌++◌, map, replicate, Option, Some, None}
use Rattle.std.specs.List.{range_with_len}
use Rattle.tstd_model.specs.declared.decoder_input.PacketPart.{PacketPart}
use Rattle.tstd_model.specs.declared.decoder_input.PacketPart.TheVariants.{Overhead, PesHeader}
use Rattle.ts_demux.specs.declared.demuxed.PesUnit.{PesUnit}
use Rattle.stream_audit.specs.declared.pes_parts.KeptBytes.{KeptBytes}
use Rattle.stream_audit.specs.PesBytes.{KeptSpan, part_at, parts_of_packets}

-- which bytes of an elementary stream are kept, where places count from the next byte on
abbrev pub span_of : KeptBytes → KeptSpan
span_of bytes = record { from = bytes.skipped; to = bytes.skipped + bytes.kept }

-- bytes before the first PES packet, those of the header and behind the header of the packet that is under way, and those of later packets
abbrev pub parts_ahead : (before header payload : ℕ) → KeptBytes → List PesUnit → List PacketPart
parts_ahead before header payload kept later =
    replicate before Overhead ++ (replicate header PesHeader ++ (map (part_at (span_of kept)) (range_with_len 0 payload) ++ parts_of_packets (span_of kept) payload later))

-- a cursor gives the first of what it still gives, or nothing where it gives nothing more
abbrev pub GivesPart : Option PacketPart → List PacketPart → List PacketPart → Type 0
GivesPart (Some part) was now = was ≡ part ∷ now
GivesPart None was now = (was ≡ []) × (now ≡ [])

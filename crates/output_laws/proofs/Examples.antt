-- What slots send on PIDs, at two programs of which the second has one audio stream.
use Rattle.std.proofs.Common.{◌≡◌, ◌==◌, ℕ, false, true, List, [], ◌∷◌, refl}
use Rattle.psi_tables.specs.declared.program_map.ProgramMap.{ProgramMap}
use Rattle.psi_tables.specs.declared.stream.Stream.{Stream}
use Rattle.slot_rule.specs.declared.sent.Sent.{Sent}
use Rattle.slot_rule.specs.declared.sent.Sent.TheVariants.{Null, Pat, Pmt, Pcr, Video, Audio}
use Rattle.mux_writer.specs.declared.layout.Layout.{Layout}
use Rattle.mux_writer.specs.Layout.{stream_pids}
use Rattle.mux_writer.specs.Pieces.{Pieces}
use Rattle.output_laws.specs.SentOn.{payloads_sent_on, slots_between}
use Rattle.mux_writer.proofs.Examples.{stream_of, map_of, layout}

-- a payload names its stream, item and piece, and begins a PES packet where the piece is 0
abbrev pieces : Pieces
pieces stream item piece = record { start = piece == 0; bytes = stream ∷ item ∷ piece ∷ [] }

abbrev rows : List Sent
rows = Pat ∷ Pmt 0 ∷ Pcr 1 ∷ Video 1 0 0 ∷ Video 1 0 1 ∷ Pcr 1 ∷ Audio 2 0 ∷ Null ∷ Video 1 1 0 ∷ Pat ∷ Video 0 0 0 ∷ []

pids : stream_pids layout ≡ 0x101 ∷ 0x111 ∷ 0x112 ∷ []
pids = refl

-- the PCR packets between carry nothing
second_video : payloads_sent_on layout pieces 0x111 rows
    ≡ record { start = true; bytes = 1 ∷ 0 ∷ 0 ∷ [] } ∷ record { start = false; bytes = 1 ∷ 0 ∷ 1 ∷ [] } ∷ record { start = true; bytes = 1 ∷ 1 ∷ 0 ∷ [] } ∷ []
second_video = refl

audio_alone : payloads_sent_on layout pieces 0x112 rows ≡ record { start = true; bytes = 2 ∷ 0 ∷ 0 ∷ [] } ∷ []
audio_alone = refl

-- slots 4 to 7 of the same
part : slots_between rows 4 8 ≡ Video 1 0 1 ∷ Pcr 1 ∷ Audio 2 0 ∷ Null ∷ []
part = refl

video_of_the_part : payloads_sent_on layout pieces 0x111 (slots_between rows 4 8) ≡ record { start = false; bytes = 1 ∷ 0 ∷ 1 ∷ [] } ∷ []
video_of_the_part = refl

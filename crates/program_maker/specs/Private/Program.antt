-- How far a program in the making has come.
use Rattle.std.specs.Prelude.{ℕ, ◌+◌, ◌*◌, ◌/◌, List, [], ◌∷◌}
use Rattle.std.specs.List.{flat_map, range_with_len}
use Rattle.psi_tables.specs.Section.{IsWithCrc}
use Rattle.psi_tables.specs.Pat.{written_pat}
use Rattle.psi_tables.specs.Pmt.{written_pmt}
use Rattle.ts_packets.specs.Packet.{PacketRecord}
use Rattle.program_maker.specs.declared.format.TheConstants.{STREAM_ID, PROGRAM, PAT_PID, PMT_PID, AUDIO_PID}
use Rattle.program_maker.specs.declared.output.Output.{Output}
use Rattle.program_maker.specs.Draws.{draw_each}
use Rattle.program_maker.specs.Streams.{drawn_frame, frame_pes}
use Rattle.program_maker.specs.Packets.{section_packet, pes_packets}
use Rattle.program_maker.specs.Program.{program_map}
use Rattle.program_maker.specs.Private.Output.{IsBehind}

-- PAT and PMT were written
pub record IsBehindTables (out : Output) : Type 0 where
  pub pat : List ℕ
  pub pat_is : IsWithCrc (written_pat STREAM_ID ((PROGRAM, PMT_PID) ∷ [])) pat
  pub pmt : List ℕ
  pub pmt_is : IsWithCrc (written_pmt program_map) pmt
  pub behind : IsBehind (section_packet PAT_PID pat ∷ section_packet PMT_PID pmt ∷ []) out

-- the state behind so many frames
abbrev pub frames_state : ℕ → ℕ → ℕ
frames_state start number = (draw_each (range_with_len 0 number) (λ _. drawn_frame) start).1

-- the packets of so many frames, from this one on
abbrev pub frames_packets : ℕ → ℕ → ℕ → List PacketRecord
frames_packets start first number = flat_map (λ j. pes_packets AUDIO_PID (frame_pes j (drawn_frame (frames_state start j)).0)) (range_with_len first number)

-- the first frame with a PTS not before picture k is decoded: the least j with 2,160 j not below 3,600 k
abbrev pub first_frame : ℕ → ℕ
first_frame k = (5 * k + 2) / 3

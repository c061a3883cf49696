-- A table that is valid in long slots is valid in shorter ones, where its times are within what these may have.
use Rattle.std.proofs.Common.{ℕ, ◌≤◌, All, length, slice_index_or, List, arith}
use Rattle.version_table.specs.declared.limits.TheConstants.{SLOT_LEAST}
use Rattle.version_table.specs.declared.table.AudioPacket.{AudioPacket}
use Rattle.version_table.specs.declared.table.ProgramRow.{ProgramRow}
use Rattle.version_table.specs.declared.table.Table.{Table}
use Rattle.version_table.specs.declared.table.Unit.{Unit as CodedUnit}
use Rattle.version_table.specs.Table.{IsValidAudio, IsValidPacket, IsValidProgram, IsValidTable, IsValidUnit}
use Rattle.rate_fit.specs.Fit.{IsGoneBy, IsWithinSlots, in_slots, end_of_slots}

shorter_unit : (longer slot : ℕ) (unit : CodedUnit) → IsValidUnit longer unit → unit.due ≤ end_of_slots slot → IsValidUnit slot unit
shorter_unit longer slot unit valid due =
    record { due = omega (arith, due); some_version = valid.some_version; few_versions = valid.few_versions; versions = valid.versions }

shorter_packet : (longer slot : ℕ) (packet : AudioPacket) → IsValidPacket longer packet → packet.gone ≤ end_of_slots slot → IsValidPacket slot packet
shorter_packet longer slot packet valid gone =
    record { due = valid.due; gone = omega (arith, gone); some_bytes = valid.some_bytes; bytes = valid.bytes }

shorter_audio : (longer slot : ℕ) (packets : List AudioPacket) → IsValidAudio longer packets
    → All (IsGoneBy (end_of_slots slot)) packets → IsValidAudio slot packets
shorter_audio longer slot packets valid within = record {
  each = λ k d lt. shorter_packet longer slot (slice_index_or packets k d) (valid.each k d lt) (within k d lt).1;
  dues = valid.dues;
  gones = valid.gones;
}

shorter_program : (longer slot : ℕ) (program : ProgramRow) → IsValidProgram longer program → All (λ (unit : CodedUnit). unit.due ≤ end_of_slots slot) program.units
    → All (All (IsGoneBy (end_of_slots slot))) program.audios → IsValidProgram slot program
shorter_program longer slot program valid units audios = record {
  some_vbv = valid.some_vbv;
  vbv = valid.vbv;
  units = λ k d lt. shorter_unit longer slot (slice_index_or program.units k d) (valid.units k d lt) (units k d lt);
  dues = valid.dues;
  few_audios = valid.few_audios;
  audios = λ k d lt. shorter_audio longer slot (slice_index_or program.audios k d) (valid.audios k d lt) (audios k d lt);
}

pub shorter_table : (longer : ℕ) (table : Table) → SLOT_LEAST ≤ table.slot → table.slot ≤ longer → IsValidTable (in_slots longer table) → IsWithinSlots table → IsValidTable table
shorter_table longer table least most valid within = record {
  slot_least = least;
  slot_most = omega (arith, most, valid.slot_most);
  some_nodes = valid.some_nodes;
  nodes = valid.nodes;
  evaluations = valid.evaluations;
  few_programs = valid.few_programs;
  programs = λ k d lt. shorter_program longer table.slot (slice_index_or table.programs k d) (valid.programs k d lt) (within.0 k d lt) (within.1 k d lt);
  units = valid.units;
  audio_packets = valid.audio_packets;
  distortions = valid.distortions;
}

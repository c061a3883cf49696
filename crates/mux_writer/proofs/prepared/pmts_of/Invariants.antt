use Rattle.std.proofs.Common.{◌≡◌, length, map, take}
use Rattle.psi_tables.specs.Sections.{section_payload}
use Rattle.mux_writer.specs.Tables.{pmt_section}
use Rattle.mux_writer.proofs.prepared.pmts_of.Given as goal

abbrev pub invariant-loop-map : goal.invariant-loop-map
invariant-loop-map l = record {
  size : length l.payloads.items ≡ l.map-index;
  payloads : l.payloads.items ≡ map (λ program_map. section_payload (pmt_section program_map)) (take l.map-index l.map-items);
}

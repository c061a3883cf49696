use Rattle.std.proofs.Common.{ap, ◌∙◌}
use Rattle.psi_tables.specs.Pmt.{written_pmt}
use Rattle.psi_tables.specs.Sections.{section_payload}
use Rattle.mux_writer.proofs.Sections.{with_crc-is}
use Rattle.mux_writer.proofs.prepared.pmt_of.Goals as goal

pub returns : goal.returns
returns c = c.payload_of.ensures ∙ ap section_payload (with_crc-is (written_pmt c.args.map.now) c.write_pmt.new.into.items (c.in-Ok.ensures.bytes))

use Rattle.std.proofs.Common.{map, sym, ap, subst, ◌∙◌}
use Rattle.mux_writer.specs.Pieces.{Pieces}
use Rattle.job_report.specs.declared.job.ProgramJob.{ProgramJob}
use Rattle.version_source.specs.Pieces.{pieces_of, stream_items}
use Rattle.version_source.specs.Versions.{ratios_of}
use Rattle.program_table.specs.Table.{program_rows}
use Rattle.job_stream.specs.Stream.{layout_of}
use Rattle.time_laws.specs.Carried.{CarriesTable}
use Rattle.time_laws.proofs.Spelled.{SpellingLaws}
use Rattle.time_laws.proofs.Tables.{times-carried}
use Rattle.time_laws.proofs.laws.stream_carries_its_times.Goals as goal

pub returns : goal.returns
returns c job contents programs table choice slots stream valid are of table_valid fits list in_slots bytes =
    let versions = in_slots.versions in
    let pieces : Pieces = pieces_of (stream_items programs versions choice) in
    let same = c.one_list_of_versions.ensures programs (ratios_of job.programs) of.versions versions of.are_versions in_slots.are_versions in
    let spelling : SpellingLaws = record {
      head = c.head_without_delay_is_read.ensures;
      lawful = c.version_is_lawful_behind.ensures;
      written = c.written_picture_is_read.ensures;
      state = c.spelled_picture_has_state.ensures;
    } in
    let rows = c.slots_are_rows.ensures job contents programs table choice slots versions valid are of table_valid fits list in_slots.are_versions in
    subst (CarriesTable table choice (map (λ (program : ProgramJob). program.number) job.programs)) (sym in_slots.stream_is)
    (times-carried spelling c.one_answer.ensures.taken_out c.audio_packet_wherever_it_stands.ensures job contents programs table choice slots pieces versions valid are of.slot
    (of.rows ∙ ap (program_rows job.programs programs) same) in_slots.are_versions table_valid fits list rows.is_layout.bases
    (c.read_as_written.ensures (layout_of job programs) job.slot pieces slots.rows rows.is_layout rows.few rows.each)
    (c.programs_are_read_back.ensures job contents programs table choice slots versions valid are of table_valid fits list in_slots.are_versions bytes)
    (c.pat_leads_to_the_maps.ensures job contents programs table choice slots versions valid are of table_valid fits list in_slots.are_versions))

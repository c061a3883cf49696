use Rattle.std.proofs.Common.{◌≡◌, ℕ, ◌<◌, List, [], length, refl, sym, ap, ◌∙◌, subst}
use Rattle.std.specs.List.{AllZip, flat_map}
use Rattle.std.proofs.lemmas.List.Elements.{All-nil}
use Rattle.bit_lists.specs.Payload.{Payload}
use Rattle.ts_packets.specs.TransportStream.{piece_count}
use Rattle.version_table.specs.declared.table.ProgramRow.{ProgramRow}
use Rattle.version_table.specs.Choice.{HasVersion}
use Rattle.psi_tables.specs.Pmt.{pids_of}
use Rattle.version_source.specs.Pieces.{pieces_of, stream_items}
use Rattle.version_source.specs.Versions.{ratios_of}
use Rattle.program_table.specs.Table.{program_rows}
use Rattle.mux_writer.specs.declared.layout.Layout.{Layout}
use Rattle.mux_writer.specs.Output.{output_stream}
use Rattle.mux_writer.specs.Pieces.{Pieces}
use Rattle.job_stream.specs.Stream.{layout_of, output_maps}
use Rattle.job_stream.proofs.LayoutLemmas.{maps-count, streams-count}
use Rattle.job_stream.proofs.ReadPrograms.{programs-ready}
use Rattle.job_stream.proofs.RowLemmas.{program_rows-count}
use Rattle.parsing_laws.specs.TakenOut.{BeginWithTables}
use Rattle.parsing_laws.proofs.OutputTables.{as-many}
use Rattle.job_laws.proofs.JobPrograms.{read-back}
use Rattle.job_laws.proofs.SentVideos.{AllCarry, all-carry}
use Rattle.job_laws.proofs.programs.programs_are_read_back.Goals as goal

pub returns : goal.returns
returns c job contents programs table choice slots versions valid programs_are of table_valid fits list are_versions bytes =
    let layout : Layout = layout_of job programs in
    let items : List (List (List Payload)) = stream_items programs versions choice in
    let pieces : Pieces = pieces_of items in
    let are = c.slots_are_rows.ensures job contents programs table choice slots versions valid programs_are of table_valid fits list are_versions in
    let ready = programs-ready c.programs_can_be_sent.ensures.taken_out job programs (contents, programs_are) in
    let same = c.one_list_of_versions.ensures programs (ratios_of job.programs) of.versions versions of.are_versions are_versions in
    let rows : table.programs ≡ program_rows job.programs programs versions = of.rows ∙ ap (program_rows job.programs programs) same in
    let many : length table.programs ≡ length layout.maps.items =
    ap length rows ∙ program_rows-count job.programs programs versions are_versions ∙ sym (maps-count 0 job.programs programs ready.as_many) in
    let begin = subst (λ (n : ℕ). BeginWithTables n slots.rows) many (c.slots_begin_with_tables.ensures table choice slots table_valid list) in
    let count : piece_count (output_stream layout job.slot pieces slots.rows) ≡ length slots.rows =
    as-many c.packets_stand_in_order.ensures.count c.packets_stand_in_order.ensures.packet c.read_as_written.ensures layout job.slot pieces slots.rows are in
    let fit = subst (λ (rows : List ProgramRow). AllZip HasVersion (flat_map (λ (row : ProgramRow). row.units) rows) choice) rows fits in
    let sizes : length items ≡ length (flat_map pids_of (output_maps 0 job.programs programs)) = streams-count 0 job.programs programs versions choice are_versions ready.out in
    let carry : AllCarry (output_stream layout job.slot pieces slots.rows) (length slots.rows) (flat_map pids_of (output_maps 0 job.programs programs)) items =
    all-carry (output_stream layout job.slot pieces slots.rows) (length slots.rows) (flat_map pids_of (output_maps 0 job.programs programs)) items (sym sizes)
    (λ stream within.
    c.streams_carry_their_items.ensures job contents programs table choice slots versions stream valid programs_are of table_valid fits list are_versions within
    (subst (λ (n : ℕ). stream < n) sizes within)) in
    read-back c.programs_can_be_sent.ensures.taken_out c.programs_are_taken_out.ensures c.packets_gathered_again.ensures.gathered c.video_packet_read_as_written.ensures
    c.packets_gathered_again.ensures.pieces c.versions_are_whole_units.ensures.whole c.versions_are_whole_units.ensures.led
    c.units_of_the_video.ensures layout job.slot pieces slots.rows are begin count 0 job.programs programs versions choice [] refl refl (All-nil _) valid.apart valid.programs
    job.slot job.start [] [] contents programs_are are_versions bytes fit carry

use Rattle.std.proofs.Common.{◌≡◌, ℕ, ◌+◌, [], length, refl, sym, ap, ◌∙◌, subst, arith}
use Rattle.std.proofs.lemmas.List.Elements.{All-nil}
use Rattle.version_source.specs.Pieces.{pieces_of, stream_items}
use Rattle.version_source.specs.Versions.{ratios_of}
use Rattle.program_table.specs.Table.{program_rows}
use Rattle.mux_writer.specs.declared.layout.Layout.{Layout}
use Rattle.mux_writer.specs.Layout.{map_pid}
use Rattle.mux_writer.specs.Output.{output_stream}
use Rattle.mux_writer.specs.Pieces.{Pieces}
use Rattle.job_stream.specs.Stream.{layout_of}
use Rattle.job_stream.proofs.LayoutLemmas.{maps-count}
use Rattle.job_stream.proofs.ReadPrograms.{programs-ready}
use Rattle.job_stream.proofs.RowLemmas.{program_rows-count}
use Rattle.parsing_laws.specs.TakenOut.{BeginWithTables, LeadsToMap}
use Rattle.job_laws.proofs.MapPids.{leads-each}
use Rattle.job_laws.proofs.programs.pat_leads_to_the_maps.Goals as goal

pub returns : goal.returns
returns c job contents programs table choice slots versions valid programs_are of table_valid fits list are_versions place number there =
    let layout : Layout = layout_of job programs in
    let pieces : Pieces = pieces_of (stream_items programs versions choice) in
    let are = c.slots_are_rows.ensures job contents programs table choice slots versions valid programs_are of table_valid fits list are_versions in
    let ready = programs-ready c.programs_can_be_sent.ensures.taken_out job programs (contents, programs_are) in
    let same = c.one_list_of_versions.ensures programs (ratios_of job.programs) of.versions versions of.are_versions are_versions in
    let many : length table.programs ≡ length layout.maps.items =
    ap length (of.rows ∙ ap (program_rows job.programs programs) same) ∙ program_rows-count job.programs programs versions are_versions ∙ sym (maps-count 0 job.programs programs ready.as_many) in
    let begin = subst (λ (n : ℕ). BeginWithTables n slots.rows) many (c.slots_begin_with_tables.ensures table choice slots table_valid list) in
    subst (λ (k : ℕ). LeadsToMap (output_stream layout job.slot pieces slots.rows) number (map_pid k)) (let e : 0 + place ≡ place = omega arith in e)
    (leads-each c.maps_are_read.ensures.leads layout job.slot pieces slots.rows are begin 0 job.programs programs [] ready.as_many refl refl (All-nil _) valid.apart valid.programs place number there)

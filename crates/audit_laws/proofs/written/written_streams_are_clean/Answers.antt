use Rattle.std.proofs.Common.{◌≡◌, ℕ, ◌+◌, List, [], map, sym, ap, subst, ◌∙◌, arith}
use Rattle.std.specs.Prelude.{slice_get}
use Rattle.std.specs.List.{AllZip, flat_map}
use Rattle.version_table.specs.declared.table.ProgramRow.{ProgramRow}
use Rattle.version_table.specs.Choice.{HasVersion}
use Rattle.job_report.specs.declared.job.ProgramJob.{ProgramJob}
use Rattle.job_stream.specs.Stream.{layout_of}
use Rattle.job_stream.proofs.ReadPrograms.{AreReady, programs-ready}
use Rattle.version_source.specs.Pieces.{pieces_of, stream_items}
use Rattle.version_source.specs.Versions.{ratios_of}
use Rattle.program_table.specs.Table.{program_rows}
use Rattle.audit_laws.specs.Written.{IsFoundClean}
use Rattle.audit_laws.proofs.Axis.{HasAxis, axis-each}
use Rattle.audit_laws.proofs.Job.{written-clean}
use Rattle.audit_laws.proofs.Parsed.{IsTakenAt, taken-at}
use Rattle.audit_laws.proofs.written.written_streams_are_clean.Goals as goal

pub returns : goal.returns
returns c job contents programs table choice slots stream valid are of table_valid fits list in_slots bytes short place number there =
    let ready : AreReady job.programs programs = programs-ready c.programs_can_be_sent.ensures.taken_out job programs (contents, are) in
    let rows = c.slots_are_rows.ensures job contents programs table choice slots of.versions valid are of table_valid fits list of.are_versions in
    let back = c.programs_are_read_back.ensures job contents programs table choice slots in_slots.versions valid are of table_valid fits list in_slots.are_versions bytes in
    let taken : IsTakenAt stream (0 + place) number =
    subst (λ (file : _). IsTakenAt file (0 + place) number) (sym in_slots.stream_is)
    (taken-at _ 0 job.programs contents programs in_slots.versions choice back place number there) in
    let rows_are : table.programs ≡ program_rows job.programs programs in_slots.versions =
    of.rows
    ∙ ap (program_rows job.programs programs)
    (c.one_list_of_versions.ensures programs (ratios_of job.programs) of.versions in_slots.versions of.are_versions in_slots.are_versions) in
    let fit : AllZip HasVersion (flat_map (λ (row : ProgramRow). row.units) (program_rows job.programs programs in_slots.versions)) choice =
    subst (λ (all : List ProgramRow). AllZip HasVersion (flat_map (λ (row : ProgramRow). row.units) all) choice) rows_are fits in
    subst (λ (slot : ℕ). IsFoundClean stream slot number) of.slot
    (written-clean
    (record {
      one = c.one_answer.ensures.demuxed;
      no_fault = c.counted_payloads_are_carried.ensures.sound;
      zero_is = c.clock_is_read.ensures.zero;
      off_is = c.clock_is_read.ensures.off;
      sections = c.sections_are_clean.ensures;
      video = c.video_is_clean.ensures;
      audio = c.audio_is_clean.ensures;
    })
    job programs table choice slots of
    (record {
      few = valid.few_programs;
      ready = ready;
      made = record {
        valid = table_valid;
        fits = fits;
        versions_are = of.are_versions;
        rows_are = of.rows;
        out = ready.out;
        sendable = ready.sendable;
        slots = list;
        clean = c.schedules_are_clean.ensures table choice list.rows table_valid fits list.schedule;
        when_wanted = c.removals_when_wanted_are_allowed.ensures;
        as_queued = c.pieces_are_as_queued.ensures;
        in_order = c.packets_stand_in_order.ensures;
      };
      named = c.slots_name_the_table.ensures table choice slots table_valid fits list;
    })
    c.one_list_of_versions.ensures stream (map (λ (program : ProgramJob). program.number) job.programs) in_slots
    (c.stream_has_slots.ensures job programs table choice slots stream valid (c.programs_of_contents_are_read.ensures job contents programs are bytes) of table_valid fits list in_slots)
    (λ pid other. c.packets_are_counted.ensures (layout_of job programs) job.slot (pieces_of (stream_items programs of.versions choice)) slots.rows pid rows other)
    (c.stream_carries_its_times.ensures job contents programs table choice slots stream valid are of table_valid fits list in_slots bytes)
    (λ at own row stands found.
    subst (λ (file : _). HasAxis file own row) (sym in_slots.stream_is)
    (axis-each c.one_answer-2.ensures.taken_out c.audio_packet_wherever_it_stands.ensures _ job.slot job.start 0 job.programs programs in_slots.versions choice [] [] contents are
    in_slots.are_versions fit back at own row stands (sym (ap (λ (all : List ProgramRow). slice_get all at) rows_are) ∙ found)))
    place number there (subst (λ (k : ℕ). IsTakenAt stream k number) (let e : 0 + place ≡ place = omega arith in e) taken) short)

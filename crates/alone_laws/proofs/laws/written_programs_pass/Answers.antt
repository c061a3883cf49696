use Rattle.std.proofs.Common.{◌≡◌, ℕ, ◌+◌, ◌*◌, ◌≤◌, List, [], length, map, sym, ap, subst, ◌∙◌, arith}
use Rattle.std.specs.Prelude.{slice_get}
use Rattle.std.specs.List.{AllZip, flat_map}
use Rattle.version_table.specs.declared.table.ProgramRow.{ProgramRow}
use Rattle.version_table.specs.Choice.{HasVersion}
use Rattle.version_table.specs.Table.{IsValidProgram}
use Rattle.slot_rule.specs.declared.slot_list.SlotList.{SlotList}
use Rattle.slot_rule.specs.SlotList.{IsSlotList}
use Rattle.slot_rule.specs.Sent.{choice_from}
use Rattle.slot_rule.proofs.Places.{All-at_place}
use Rattle.job_report.specs.declared.job.ProgramJob.{ProgramJob}
use Rattle.job_programs.specs.Programs.{last_time}
use Rattle.job_stream.specs.Stream.{IsStreamIn, layout_of}
use Rattle.job_stream.proofs.ReadPrograms.{AreReady, programs-ready}
use Rattle.version_source.specs.Pieces.{pieces_of, stream_items}
use Rattle.version_source.specs.Versions.{ratios_of}
use Rattle.program_table.specs.Table.{program_rows}
use Rattle.audit_laws.proofs.Axis.{HasAxis, axis-each}
use Rattle.audit_laws.proofs.Job.{IsWrittenProgram, written-program}
use Rattle.audit_laws.proofs.Parsed.{IsTakenAt, taken-at}
use Rattle.audit_laws.proofs.Program.{ProgramLaws}
use Rattle.alone_laws.specs.PassesAudit.{PassesAudit}
use Rattle.alone_laws.proofs.JobAlone.{comes-each, room-behind, sent-by}
use Rattle.alone_laws.proofs.OneAlone.{AloneLaws, ComesOut, IsSentBy, read-alone}
use Rattle.alone_laws.proofs.Passes.{passes}
use Rattle.alone_laws.proofs.Scheduled.{last_gone}
use Rattle.alone_laws.proofs.laws.written_programs_pass.Goals as goal

pub returns : goal.returns
returns c job contents programs table choice stream valid are of table_valid fits of_stream bytes short place number there =
    let slots : SlotList = of_stream.slots in
    let list : IsSlotList table choice slots = of_stream.are_slots in
    let in_slots : IsStreamIn job programs choice slots stream = of_stream.stream_is in
    let ready : AreReady job.programs programs = programs-ready c.programs_can_be_sent.ensures.taken_out job programs (contents, are) in
    let rows = c.slots_are_rows.ensures job contents programs table choice slots of.versions valid are of table_valid fits list of.are_versions in
    let back = c.programs_are_read_back.ensures job contents programs table choice slots in_slots.versions valid are of table_valid fits list in_slots.are_versions bytes in
    let size : length stream ≡ 188 * slots.slots = c.stream_has_slots.ensures job programs table choice slots stream valid (c.programs_of_contents_are_read.ensures job contents programs are bytes) of table_valid fits list in_slots in
    let taken : IsTakenAt stream (0 + place) number =
    subst (λ (file : _). IsTakenAt file (0 + place) number) (sym in_slots.stream_is)
    (taken-at _ 0 job.programs contents programs in_slots.versions choice back place number there) in
    let rows_are : table.programs ≡ program_rows job.programs programs in_slots.versions =
    of.rows
    ∙ ap (program_rows job.programs programs)
    (c.one_list_of_versions.ensures programs (ratios_of job.programs) of.versions in_slots.versions of.are_versions in_slots.are_versions) in
    let fit : AllZip HasVersion (flat_map (λ (row : ProgramRow). row.units) (program_rows job.programs programs in_slots.versions)) choice =
    subst (λ (all : List ProgramRow). AllZip HasVersion (flat_map (λ (row : ProgramRow). row.units) all) choice) rows_are fits in
    let written : IsWrittenProgram stream table choice place number =
    written-program job programs table choice slots of
    (record {
      few = valid.few_programs;
      ready = ready;
      made = record {
        valid = table_valid;
        fits = fits;
        versions_are = of.are_versions;
        rows_are = of.rows;
        out = ready.out;
        sendable = ready.sendable;
        slots = list;
        clean = c.schedules_are_clean.ensures table choice list.rows table_valid fits list.schedule;
        when_wanted = c.removals_when_wanted_are_allowed.ensures;
        as_queued = c.pieces_are_as_queued.ensures;
        in_order = c.packets_stand_in_order.ensures;
      };
      named = c.slots_name_the_table.ensures table choice slots table_valid fits list;
    })
    c.one_list_of_versions.ensures stream (map (λ (program : ProgramJob). program.number) job.programs) in_slots size
    (λ pid other. c.packets_are_counted.ensures (layout_of job programs) job.slot (pieces_of (stream_items programs of.versions choice)) slots.rows pid rows other)
    (c.stream_carries_its_times.ensures job contents programs table choice slots stream valid are of table_valid fits list in_slots bytes)
    (λ at own row stands found.
    subst (λ (file : _). HasAxis file own row) (sym in_slots.stream_is)
    (axis-each c.one_answer-2.ensures.taken_out c.audio_packet_wherever_it_stands.ensures _ job.slot job.start 0 job.programs programs in_slots.versions choice [] [] contents are
    in_slots.are_versions fit back at own row stands (sym (ap (λ (all : List ProgramRow). slice_get all at) rows_are) ∙ found)))
    place number there (subst (λ (k : ℕ). IsTakenAt stream k number) (let e : 0 + place ≡ place = omega arith in e) taken) short in
    let out : ComesOut stream job.slot job.start number written.row =
    subst (λ (file : _). ComesOut file job.slot job.start number written.row) (sym in_slots.stream_is)
    (comes-each _ job.slot job.start 0 job.programs programs in_slots.versions choice [] [] contents are in_slots.are_versions fit back bytes place number written.row there
    (sym (ap (λ (all : List ProgramRow). slice_get all place) rows_are) ∙ written.found)) in
    let row_valid : IsValidProgram table.slot written.row = All-at_place (IsValidProgram table.slot) table.programs table_valid.programs place written.row written.found in
    let sent : IsSentBy (last_gone table.slot (length list.rows)) written.row (choice_from table.programs place choice) =
    sent-by table choice list.rows place written.row list.schedule row_valid written.found in
    let room : last_gone table.slot (length list.rows) + 13500000 ≤ last_time table.slot =
    subst (λ (n : ℕ). last_gone table.slot n + 13500000 ≤ last_time table.slot) (sym list.one_each)
    (room-behind table.slot slots.slots (length stream) table_valid.slot_least table_valid.slot_most size short) in
    let alone_laws : AloneLaws = record {
      spelling = record {
        head = c.head_without_delay_is_read.ensures;
        lawful = c.version_is_lawful_behind.ensures;
        written = c.written_picture_is_read.ensures;
        state = c.spelled_picture_has_state.ensures;
      };
      whole = c.versions_are_whole_units.ensures.whole;
      taken_out = c.one_answer-2.ensures.taken_out;
      demuxed = c.one_answer.ensures.demuxed;
      wherever = c.audio_packet_wherever_it_stands.ensures;
    } in
    let program_laws : ProgramLaws = record {
      one = c.one_answer.ensures.demuxed;
      no_fault = c.counted_payloads_are_carried.ensures.sound;
      zero_is = c.clock_is_read.ensures.zero;
      off_is = c.clock_is_read.ensures.off;
      sections = c.sections_are_clean.ensures;
      video = c.video_is_clean.ensures;
      audio = c.audio_is_clean.ensures;
    } in
    subst (λ (slot : ℕ). PassesAudit stream slot number) of.slot
    (passes program_laws c.audits_stop_before_streams.ensures stream written.list table.slot place number written.row (choice_from table.programs place choice) written.is
    (read-alone alone_laws stream written.list table.slot job.start number place (last_gone table.slot (length list.rows)) written.row (choice_from table.programs place choice)
    (subst (λ (slot : ℕ). ComesOut stream slot job.start number written.row) (sym of.slot) out) written.is.times sent valid.start room short))

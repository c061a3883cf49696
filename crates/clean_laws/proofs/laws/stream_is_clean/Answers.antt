use Rattle.job_stream.proofs.ReadPrograms.{AreReady, read-ready}
use Rattle.clean_laws.proofs.Stream.{stream-clean}
use Rattle.clean_laws.proofs.laws.stream_is_clean.Goals as goal

pub returns : goal.returns
returns c job programs table choice slots stream valid read of table-valid fits list in_slots =
    let ready : AreReady job.programs programs = read-ready c.programs_can_be_sent.ensures.taken_out job programs read in
    stream-clean job programs table choice slots of
    (record {
      few = valid.few_programs;
      ready = ready;
      made = record {
        valid = table-valid;
        fits = fits;
        versions_are = of.are_versions;
        rows_are = of.rows;
        out = ready.out;
        sendable = ready.sendable;
        slots = list;
        clean = c.schedules_are_clean.ensures table choice list.rows table-valid fits list.schedule;
        when_wanted = c.removals_when_wanted_are_allowed.ensures;
        as_queued = c.pieces_are_as_queued.ensures;
        in_order = c.packets_stand_in_order.ensures;
      };
      named = c.slots_name_the_table.ensures table choice slots table-valid fits list;
    })
    c.one_list_of_versions.ensures stream in_slots (c.stream_has_slots.ensures job programs table choice slots stream valid read of table-valid fits list in_slots)

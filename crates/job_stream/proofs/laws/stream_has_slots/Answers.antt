use Rattle.job_stream.proofs.ReadPrograms.{read-ready}
use Rattle.job_stream.proofs.StreamSize.{stream-size}
use Rattle.job_stream.proofs.laws.stream_has_slots.Goals as goal

pub returns : goal.returns
returns c job programs table choice slots stream valid read of table-valid fits list is =
    stream-size c.one_list_of_versions.ensures job programs table choice slots stream valid.few_programs (read-ready c.programs_can_be_sent.ensures.taken_out job programs read) of fits
    (c.slots_name_the_table.ensures table choice slots table-valid fits list) list is

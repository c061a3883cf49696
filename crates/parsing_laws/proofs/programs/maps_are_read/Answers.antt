use Rattle.parsing_laws.proofs.OutputTables.{maps-are-read}
use Rattle.parsing_laws.proofs.programs.maps_are_read.Goals as goal

pub returns-clause-read : goal.returns-clause-read
returns-clause-read c layout slot pieces rows program program_map are begin numbered =
    (maps-are-read c.packets_stand_in_order.ensures.count c.packets_stand_in_order.ensures.packet c.read_as_written.ensures c.pids_read_as_sent.ensures.sound
    c.tables_read_again_and_again.ensures.pat c.tables_read_again_and_again.ensures.pmt c.pat_read_as_written.ensures.says c.pat_read_as_written.ensures.leads
    c.pmt_read_as_written.ensures.says layout slot pieces rows program program_map are begin numbered).0

pub returns-clause-leads : goal.returns-clause-leads
returns-clause-leads c layout slot pieces rows program program_map are begin numbered =
    (maps-are-read c.packets_stand_in_order.ensures.count c.packets_stand_in_order.ensures.packet c.read_as_written.ensures c.pids_read_as_sent.ensures.sound
    c.tables_read_again_and_again.ensures.pat c.tables_read_again_and_again.ensures.pmt c.pat_read_as_written.ensures.says c.pat_read_as_written.ensures.leads
    c.pmt_read_as_written.ensures.says layout slot pieces rows program program_map are begin numbered).1

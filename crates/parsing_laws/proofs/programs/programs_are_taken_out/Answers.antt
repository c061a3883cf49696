use Rattle.parsing_laws.proofs.OutputTables.{taken-out}
use Rattle.parsing_laws.proofs.programs.programs_are_taken_out.Goals as goal

pub returns : goal.returns
returns c layout slot pieces rows program program_map video audios are begin numbered streams =
    taken-out c.packets_stand_in_order.ensures.count c.packets_stand_in_order.ensures.packet c.read_as_written.ensures c.pids_read_as_sent.ensures.sound
    layout slot pieces rows program program_map video audios are begin numbered streams
    (c.maps_are_read.ensures.read layout slot pieces rows program program_map are begin numbered)

use Rattle.layer_laws.proofs.CountedPackets.{carried-are, sound-are}
use Rattle.layer_laws.proofs.packets.counted_payloads_are_carried.Goals as goal

pub returns-clause-carried : goal.returns-clause-carried
returns-clause-carried c file list pid from to read = carried-are file list pid read from to

pub returns-clause-sound : goal.returns-clause-sound
returns-clause-sound c file list pid from n read = sound-are file list pid read from n

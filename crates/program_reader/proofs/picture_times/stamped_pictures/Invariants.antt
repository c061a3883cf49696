use Rattle.std.proofs.Common.{◌≡◌, take}
use Rattle.program_reader.specs.Private.StampedPictures.{stamps_of}
use Rattle.program_reader.proofs.picture_times.stamped_pictures.Given as goal

abbrev pub invariant-loop-packet : goal.invariant-loop-packet
invariant-loop-packet l = l.stamps.items ≡ stamps_of l.es (take l.packet-index l.packets)

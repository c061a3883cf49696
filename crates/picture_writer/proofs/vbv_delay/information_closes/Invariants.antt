use Rattle.std.proofs.Common.{◌+◌, ◌-◌, ◌*◌, ◌<◌, length, drop}
use Rattle.bit_lists.specs.Fields.{bit_list}
use Rattle.picture_writer.specs.Private.ExtraInformation.{Closes}
use Rattle.picture_writer.proofs.vbv_delay.information_closes.Given as goal

abbrev pub invariant-loop-byte : goal.invariant-loop-byte
invariant-loop-byte l = record {
  few : l.behind < 8;
  to : Closes (drop (8 * l.byte + (7 - l.behind)) (bit_list l.bytes)) → Closes (drop l.fn.from (bit_list l.bytes));
  back : Closes (drop l.fn.from (bit_list l.bytes)) → Closes (drop (8 * l.byte + (7 - l.behind)) (bit_list l.bytes));
}

abbrev pub decreases-loop-byte : goal.decreases-loop-byte
decreases-loop-byte l = length l.bytes - l.byte

use Rattle.std.proofs.Common.{◌≡◌, take}
use Rattle.std.specs.Prelude.{map}
use Rattle.arrayvec.specs.ArrayVec.{array_vec_len}
use Rattle.program_table.specs.Private.Rows.{with_header}
use Rattle.program_table.proofs.unit_row.with_headers.Given as goal

abbrev pub invariant-loop-size : goal.invariant-loop-size
invariant-loop-size l = record {
  len : array_vec_len l.versions ≡ l.size-index;
  items : l.versions.items ≡ map (with_header l.header l.weight) (take l.size-index l.sizes);
}

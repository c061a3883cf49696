use Rattle.std.proofs.Common.{◌≡◌, ◌+◌, ◌≤◌, count_by, drop, take}
use Rattle.tstd_model.specs.PacketBytes.{is_payload}
use Rattle.stream_audit.specs.PesBytes.{is_pes_header}
use Rattle.stream_audit.proofs.pes_parts.PesParts.take_counts.Given as goal

abbrev pub invariant-loop-left : goal.invariant-loop-left
invariant-loop-left l = record {
  header : l.counts.header + count_by is_pes_header (take l.left l.self) ≡ count_by is_pes_header (take l.count l.initial.self);
  payload : l.counts.payload + count_by is_payload (take l.left l.self) ≡ count_by is_payload (take l.count l.initial.self);
  rest : drop l.left l.self ≡ drop l.count l.initial.self;
  within : l.counts.header ≤ l.counts.payload;
  most : l.counts.payload + l.left ≤ l.count;
}

abbrev pub decreases-loop-left : goal.decreases-loop-left
decreases-loop-left l = l.left

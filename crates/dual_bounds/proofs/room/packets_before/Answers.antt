use Rattle.std.proofs.Common.{ltb, ltb-true, ltb-false, arith, rules}
use Rattle.std.proofs.lemmas.List.Sorted.{IsPartitionPoint-from_clause, IsPartitionedBy-ltb}
use Rattle.version_table.specs.declared.table.AudioPacket.{AudioPacket}
use Rattle.dual_bounds.proofs.room.packets_before.Goals as goal

pub returns : goal.returns
returns c =
    let parted = IsPartitionedBy-ltb (λ (p : AudioPacket). p.due) _ c.args.time c.requires in
    let point = IsPartitionPoint-from_clause (λ p. ltb p.due c.args.time) _ _ c.partition_point.ensures.partitioned parted (λ a r q k. search rules) in
    record {
      within = c.partition_point.ensures.bound;
      before = λ k d h. ltb-true _ _ (point.0 k d (omega arith) h);
      not_before = λ k d from within. ltb-false _ _ (point.1 k d from within);
    }

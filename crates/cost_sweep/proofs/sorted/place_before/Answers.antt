use Rattle.std.proofs.Common.{ltb, ltb-true, ltb-false, ℕ, arith, rules}
use Rattle.std.proofs.lemmas.List.Sorted.{IsPartitionPoint-from_clause, IsPartitionedBy-ltb}
use Rattle.cost_sweep.proofs.sorted.place_before.Goals as goal

pub returns : goal.returns
returns c =
    let parted = IsPartitionedBy-ltb (λ (p : ℕ). p) _ c.args.price c.requires in
    let point = IsPartitionPoint-from_clause (λ p. ltb p c.args.price) _ _ c.partition_point.ensures.partitioned parted (λ a r q k. search rules) in
    record {
      within = c.partition_point.ensures.bound;
      less = λ k low. ltb-true _ _ (point.0 k 0 (omega arith) low);
      not_less = λ k from within. ltb-false _ _ (point.1 k 0 from within);
    }

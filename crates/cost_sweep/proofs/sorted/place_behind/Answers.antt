use Rattle.std.proofs.Common.{leb, leb-true, leb-false, ℕ, arith, rules}
use Rattle.std.proofs.lemmas.List.Sorted.{IsPartitionPoint-from_clause, IsPartitionedBy-leb}
use Rattle.cost_sweep.proofs.sorted.place_behind.Goals as goal

pub returns : goal.returns
returns c =
    let parted = IsPartitionedBy-leb (λ (p : ℕ). p) _ c.args.price c.requires in
    let point = IsPartitionPoint-from_clause (λ p. leb p c.args.price) _ _ c.partition_point.ensures.partitioned parted (λ a r q k. search rules) in
    record {
      within = c.partition_point.ensures.bound;
      most = λ k low. leb-true _ _ (point.0 k 0 (omega arith) low);
      more = λ k from within. leb-false _ _ (point.1 k 0 from within);
    }

use Rattle.std.proofs.Common.{leb, leb-true, leb-false, arith, rules}
use Rattle.std.proofs.lemmas.List.Sorted.{IsPartitionPoint-from_clause, IsPartitionedBy-leb}
use Rattle.certificate_checker.specs.declared.order.DueUnit.{DueUnit}
use Rattle.certificate_checker.proofs.OrderCosts.{no_place}
use Rattle.certificate_checker.proofs.tally.places_by.Goals as goal

pub returns : goal.returns
returns c =
    let parted = IsPartitionedBy-leb (λ (at : DueUnit). at.due) _ c.args.time c.requires in
    let point = IsPartitionPoint-from_clause (λ at. leb at.due c.args.time) _ _ c.partition_point.ensures.partitioned parted (λ a r q k. search rules) in
    record {
      within = c.partition_point.ensures.bound;
      by = λ k h. leb-true _ _ (point.0 k no_place (omega arith) h);
      others = λ k from within. leb-false _ _ (point.1 k no_place from within);
    }

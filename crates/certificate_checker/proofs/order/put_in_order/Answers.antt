use Rattle.std.proofs.Common.{List, [], rules, sym, subst, ◌∙◌}
use Rattle.std.proofs.lemmas.List.Sorted.{IsNonDecreasingBy-from_sort_by_key}
use Rattle.slot_rule.proofs.TurnLaws.{refill_all}
use Rattle.certificate_checker.specs.declared.order.DueUnit.{DueUnit}
use Rattle.certificate_checker.specs.Private.Order.{IsDueOrder, IsFilled}
use Rattle.certificate_checker.proofs.DueOrder.{due_order}
use Rattle.certificate_checker.proofs.order.put_in_order.Goals as goal

pub returns-clause-order : goal.returns-clause-order
returns-clause-order c =
    let table = c.args.table.now in
    let listed = c.list_units.new.order in
    let sorted = c.sort_unstable_by_key.new.self in
    let filled : IsFilled table [] c.as_mut_slice.result.now = subst (λ (xs : List DueUnit). IsFilled table [] xs) (sym c.as_mut_slice.ensures.value) c.list_units.ensures.filled in
    subst (λ (xs : List DueUnit). IsDueOrder table xs) (sym (refill_all listed.len listed.items sorted (c.sort_unstable_by_key.ensures.len ∙ c.as_mut_slice.ensures.len)))
    (due_order table c.as_mut_slice.result.now sorted filled c.sort_unstable_by_key.ensures.permutation
    (IsNonDecreasingBy-from_sort_by_key (λ (at : DueUnit). at.due) _ c.sort_unstable_by_key.ensures.sorted (λ a r q k. search rules)))

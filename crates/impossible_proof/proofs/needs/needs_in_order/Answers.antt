use Rattle.std.proofs.Common.{map, ap, rules, ◌∙◌}
use Rattle.std.proofs.lemmas.List.Sorted.{IsNonDecreasingBy-from_sort_by_key}
use Rattle.version_table.proofs.Chosen.{units_before_all}
use Rattle.impossible_proof.specs.declared.needs.UnitNeed.{UnitNeed}
use Rattle.impossible_proof.specs.Private.Needs.{need_of}
use Rattle.impossible_proof.proofs.NeedOf.{in_order}
use Rattle.impossible_proof.proofs.needs.needs_in_order.Goals as goal

pub returns : goal.returns
returns c =
    let table = c.args.table.now in
    let all = units_before_all table c.as_slice-program-items.result.now c.loop-program.program-index c.as_slice-program-items.ensures c.loop-program-test.false in
    in_order table c.loop-program.needs.items c.sort_by_key.new.self.items c.requires (c.loop-program.invariant ∙ ap (map need_of) all) c.sort_by_key.ensures.permutation
    (IsNonDecreasingBy-from_sort_by_key (λ (one : UnitNeed). one.due) _ c.in_ok-sort_by_key.ensures.sorted (λ a r q k. search rules))

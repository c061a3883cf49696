use Rattle.std.proofs.Common.{List, length, refl, rules, sym, ap, subst, ◌∙◌}
use Rattle.std.proofs.lemmas.List.Sorted.{IsNonDecreasingBy-from_sort_by_key}
use Rattle.slot_rule.proofs.TurnLaws.{refill_all}
use Rattle.certificate_checker.specs.declared.prices.Dated.{Dated}
use Rattle.certificate_checker.specs.declared.prices.Passing.{Passing}
use Rattle.certificate_checker.specs.Private.Prices.{HasPassed, KeepsLimits}
use Rattle.certificate_checker.proofs.PriceLaws.{passed_none}
use Rattle.certificate_checker.proofs.prices.Passing.new.Goals as goal

-- lambdas of which none has passed
abbrev fresh : List Dated → Passing
fresh dated = record { dated = record { items = dated }; place = 0; sum = 0 }

pub returns-clause-passed : goal.returns-clause-passed
returns-clause-passed c =
    let sorted = c.sort_unstable_by_key.new.self in
    let limits : KeepsLimits c.as_mut_slice.result.now = subst (λ (xs : List Dated). KeepsLimits xs) (sym c.as_mut_slice.ensures.value) c.requires in
    λ time. subst (λ (xs : List Dated). HasPassed time (fresh xs))
    (sym (refill_all (length c.args.dated.items) c.args.dated.items sorted (c.sort_unstable_by_key.ensures.len ∙ ap (length {A = Dated}) c.as_mut_slice.ensures.value)))
    (passed_none time c.as_mut_slice.result.now (fresh sorted) limits c.sort_unstable_by_key.ensures.permutation
    (IsNonDecreasingBy-from_sort_by_key (λ (one : Dated). one.time) _ c.sort_unstable_by_key.ensures.sorted (λ a r q k. search rules)) refl refl)

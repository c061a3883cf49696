use Rattle.std.proofs.Common.{◌≡◌, List, map, sym, ap, subst, ◌∙◌, arith}
use Rattle.dual_bounds.specs.declared.windows.Window.{Window}
use Rattle.dual_bounds.specs.Values.{from_start}
use Rattle.multiplier_search.specs.Windows.{AreSearched}
use Rattle.multiplier_search.proofs.Steps.{order-searched}
use Rattle.branch_plan.specs.Private.Root.{BeatEachPair}
use Rattle.branch_plan.proofs.Roots.{pairs_beaten}
use Rattle.branch_plan.proofs.root.best_pair.Goals as goal

pub returns-clause-searched : goal.returns-clause-searched
returns-clause-searched c =
    let same : c.windows_of.result.items ≡ map from_start c.in_ok-pair.pair.items = c.windows_of.ensures ∙ ap (map from_start) c.as_slice.ensures.value in
    subst (λ (ws : List Window). AreSearched ws) (sym same) (order-searched c.in_ok-pair.pair.items c.in_ok-pair.ensures.order)

pub returns-clause-pairs : goal.returns-clause-pairs
returns-clause-pairs c =
    let table = c.args.table.now in
    let fixed = c.args.fixed.now in
    let same : c.windows_of.result.items ≡ map from_start c.in_ok-pair.pair.items = c.windows_of.ensures ∙ ap (map from_start) c.as_slice.ensures.value in
    subst (λ (ws : List Window). BeatEachPair table fixed ws) (sym same)
    (pairs_beaten table fixed c.in_ok-first.first.items c.in_ok-pair.pair.items c.in_ok-first.ensures (c.in_ok-pair.ensures.additions (omega arith)))

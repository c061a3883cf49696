use Rattle.std.proofs.Common.{List, sym, subst}
use Rattle.dual_bounds.specs.declared.windows.Window.{Window}
use Rattle.multiplier_search.specs.Private.Turns.{AreNext}
use Rattle.multiplier_search.proofs.Steps.{added-next, added-value, greater-next, same-next}
use Rattle.multiplier_search.proofs.additions.with_added.Goals as goal

pub of_greater_value-requires-clause-second : goal.of_greater_value-requires-clause-second
of_greater_value-requires-clause-second c =
    (added-next c.args.start.now c.inserted-wider.result.items c.place_of-place.result c.args.added.due c.args.added.lambda c.requires.searched c.place_of-place.ensures
    c.requires.added.free c.requires.added.lambda c.inserted-wider.ensures).searched

pub returns-clause-next : goal.returns-clause-next
returns-clause-next c =
    let start = c.args.start.now in
    let same : AreNext start 1 c.copied.result.items = subst (λ (x : List Window). AreNext start 1 x) (sym c.copied.ensures) (same-next start 1 c.requires.searched) in
    greater-next c.args.table.now c.args.fixed.now start 1 c.copied.result.items c.inserted-wider.result.items c.of_greater_value.result.items same
    (added-next start c.inserted-wider.result.items c.place_of-place.result c.args.added.due c.args.added.lambda c.requires.searched c.place_of-place.ensures
    c.requires.added.free c.requires.added.lambda c.inserted-wider.ensures) c.of_greater_value.ensures

pub returns-clause-added : goal.returns-clause-added
returns-clause-added c =
    added-value c.args.table.now c.args.fixed.now c.args.start.now c.inserted-wider.result.items c.of_greater_value.result.items c.place_of-place.result c.args.added.due c.args.added.lambda
    c.inserted-wider.ensures c.of_greater_value.ensures.second

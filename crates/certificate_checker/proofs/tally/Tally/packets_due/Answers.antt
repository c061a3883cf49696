use Rattle.std.proofs.Common.{List, subst, ◌∙◌}
use Rattle.certificate_checker.specs.declared.order.DueUnit.{DueUnit}
use Rattle.certificate_checker.specs.Private.FixedCosts.{SplitsBefore, SplitsBy}
use Rattle.certificate_checker.proofs.FixedCosts.{range_within}
use Rattle.certificate_checker.proofs.tally.Tally.packets_due.Goals as goal

pub returns : goal.returns
returns c =
    let same = c.as_slice-order.ensures.value in
    let before = subst (λ (xs : List DueUnit). SplitsBefore c.args.from xs c.places_before.result) same c.places_before.ensures in
    let by = subst (λ (xs : List DueUnit). SplitsBy c.args.due xs c.places_by.result) same c.places_by.ensures in
    c.between.ensures ∙ (range_within c.args.self.now c.args.from c.args.due c.places_before.result c.places_by.result c.requires.window before by).1

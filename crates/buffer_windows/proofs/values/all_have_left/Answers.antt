use Rattle.std.proofs.Common.{◌<◌, List, None, length, drop, get_or, nat_lt, sym, ap, ◌∙◌, refl, arith}
use Rattle.std.proofs.lemmas.List.{drop_all}
use Rattle.version_table.specs.declared.table.Unit.{Unit as CodedUnit}
use Rattle.dual_bounds.proofs.LeastCosts.{names_length}
use Rattle.buffer_windows.specs.Private.Prices.{all_have_left, owned}
use Rattle.buffer_windows.specs.Values.{versions_left}
use Rattle.buffer_windows.proofs.OwnedCosts.{left_more, left_none}
use Rattle.buffer_windows.proofs.Weights.{own}
use Rattle.buffer_windows.proofs.values.all_have_left.Goals as goal

pub bounds-fixed-i : goal.bounds-fixed-i
bounds-fixed-i c = omega (arith, names_length c.args.units.now c.args.fixed.now c.requires)

pub returns-then-not-has_left : goal.returns-then-not-has_left
returns-then-not-has_left c =
    let within : c.loop-i.i < length c.args.fixed.now = omega (arith, names_length c.args.units.now c.args.fixed.now c.requires) in
    λ program.
    let entry = get_or c.args.fixed.now c.loop-i.i None in
    let unit_is = ap (λ (unit : CodedUnit). nat_lt 0 (length (versions_left (own program c.args.vbv unit) entry))) c.index-units-i.is in
    let no_is = sym unit_is ∙ sym (c.has_left.ensures program) ∙ c.if-not-has_left.true in
    sym (sym (c.loop-i.invariant program) ∙ left_more program c.args.vbv c.args.units.now c.args.fixed.now c.loop-i.i c.index-units-i.result None c.loop-i-test.true within ∙ rw no_is refl)

pub loop-i-preserved : goal.loop-i-preserved
loop-i-preserved c =
    let within : c.loop-i.i < length c.args.fixed.now = omega (arith, names_length c.args.units.now c.args.fixed.now c.requires) in
    λ program.
    let entry = get_or c.args.fixed.now c.loop-i.i None in
    let unit_is = ap (λ (unit : CodedUnit). nat_lt 0 (length (versions_left (own program c.args.vbv unit) entry))) c.index-units-i.is in
    let yes_is = sym unit_is ∙ sym (c.has_left.ensures program) ∙ c.if-not-has_left.false in
    sym (left_more program c.args.vbv c.args.units.now c.args.fixed.now c.loop-i.i c.index-units-i.result None c.loop-i-test.true within ∙ rw yes_is refl) ∙ c.loop-i.invariant program

pub returns : goal.returns
returns c =
    λ program.
    let rest = ap (λ (units : List CodedUnit). all_have_left (owned program c.args.vbv units) (drop c.loop-i.i c.args.fixed.now)) (drop_all c.loop-i.i c.args.units.now c.loop-i-test.false) in
    sym (sym (c.loop-i.invariant program) ∙ rest ∙ left_none (drop c.loop-i.i c.args.fixed.now))

use Rattle.std.proofs.Common.{◌≡◌, ℕ, ◌<◌, List, length, get_or, ap, arith}
use Rattle.version_table.specs.Choice.{HasVersion}
use Rattle.version_table.specs.Table.{units_of}
use Rattle.certificate_checker.proofs.Units.{all_zip_at, all_zip_from, always, never, no_unit}
use Rattle.certificate_checker.proofs.checker.fits.Goals as goal

pub returns-then-from-versions_of : goal.returns-then-from-versions_of
returns-then-from-versions_of c =
    let units = units_of c.args.table.now in
    let choice = c.args.choice.now in
    let u = c.loop-unit.unit in
    let size : length c.as_slice-choice.result.now ≡ length choice = ap length c.as_slice-choice.ensures in
    let within : u < length units = omega (arith, c.requires, c.loop-unit-test.true, size) in
    let same : get_or c.as_slice-choice.result.now u 0 ≡ get_or choice u 0 = ap (λ (xs : List ℕ). get_or xs u 0) c.as_slice-choice.ensures in
    never (λ fits. omega (arith, all_zip_at HasVersion units choice u no_unit 0 fits within, same, c.from.ensures, c.versions_of.ensures, c.if-from-versions_of.true))

pub returns : goal.returns
returns c =
    let units = units_of c.args.table.now in
    let choice = c.args.choice.now in
    always (all_zip_from HasVersion units choice no_unit 0 c.requires (λ u below. c.loop-unit.invariant u
    (omega (arith, below, c.requires, c.loop-unit-test.false, ap length c.as_slice-choice.ensures))))

use Rattle.std.proofs.Common.{rules, ◌≡◌, ◌<◌, false, None, length, get_or, sym, arith}
use Rattle.std.proofs.lemmas.Bool.{iff_false}
use Rattle.version_table.specs.Table.{units_of}
use Rattle.dual_bounds.specs.Fixed.{NamesVersion}
use Rattle.certificate_checker.specs.Faults.{IsSettled}
use Rattle.certificate_checker.proofs.Units.{all_zip_at, all_zip_from, all_zip_size, always, never, no_unit}
use Rattle.certificate_checker.proofs.faults.leaves_one.Goals as goal

pub returns-then-not-is_settled : goal.returns-then-not-is_settled
returns-then-not-is_settled c =
    let units = units_of c.args.table.now in
    let fixed = c.args.fixed.now in
    let u = c.loop-unit.unit in
    let within : u < length units = omega (arith, all_zip_size NamesVersion units fixed c.requires, c.loop-unit-test.true) in
    let unsettled : c.is_settled.result ≡ false = search rules in
    let own = c.is_settled.ensures (get_or units u no_unit) (sym c.versions_of.ensures) in
    never (λ leaves. iff_false own unsettled
    (all_zip_at IsSettled units fixed u no_unit None leaves within))

pub returns : goal.returns
returns c =
    let units = units_of c.args.table.now in
    let fixed = c.args.fixed.now in
    let size : length fixed ≡ length units = all_zip_size NamesVersion units fixed c.requires in
    always (all_zip_from IsSettled units fixed no_unit None size (λ u below.
    c.loop-unit.invariant u (omega (arith, below, size, c.loop-unit-test.false))))

use Rattle.std.proofs.Common.{◌<◌, List, ℕ, length, rules, sym, ap, subst, arith}
use Rattle.version_table.specs.declared.table.Unit.{Unit as CodedUnit}
use Rattle.version_table.specs.Choice.{Fits}
use Rattle.version_table.specs.Table.{units_of}
use Rattle.certificate_checker.specs.Shown.{versions_of}
use Rattle.branch_plan.proofs.Changing.{choice_long, fits_put}
use Rattle.branch_plan.proofs.filled.put_version.Goals as goal

pub unit_at-requires : goal.unit_at-requires
unit_at-requires c =
    let within : c.args.number < length c.args.choice = search rules in
    omega (arith, within, choice_long c.args.table.now c.args.choice c.requires.fits)

pub returns : goal.returns
returns c =
    let table = c.args.table.now in
    let choice = c.args.choice in
    let number = c.args.number in
    let within : number < length choice = search rules in
    let inside : number < length (units_of table) = omega (arith, within, choice_long table choice c.requires.fits) in
    let below : c.args.k < length c.unit_at.result.now.versions.items = search rules in
    let unit = ap (λ (u : CodedUnit). length u.versions.items) c.unit_at.ensures in
    let there : c.args.k < versions_of table number = omega (arith, below, unit) in
    subst (λ (xs : List ℕ). Fits table xs) (sym c.put.ensures) (fits_put table choice number c.args.k c.requires.fits inside there)

use Rattle.std.proofs.Common.{◌≡◌, ℕ, List, Option, None, map, sym, ap, subst, ◌∙◌}
use Rattle.version_table.specs.Table.{units_of}
use Rattle.version_table.specs.declared.table.Unit.{Unit as CodedUnit}
use Rattle.version_table.proofs.Chosen.{units_before_all}
use Rattle.dual_bounds.specs.Fixed.{FixesNone, FixesVersions}
use Rattle.dual_bounds.proofs.FixedNone.{fixes_none, names_none}
use Rattle.dual_bounds.proofs.fixed.nothing_fixed.Goals as goal

pub returns-clause-valid : goal.returns-clause-valid
returns-clause-valid c =
    let all = units_before_all c.args.table.now c.as_slice-program-items.result.now c.loop-program.program-index c.as_slice-program-items.ensures c.loop-program-test.false in
    let whole : c.loop-program.fixed ≡ map (λ unit. None) (units_of c.args.table.now) = c.loop-program.invariant ∙ ap (map (λ (unit : CodedUnit). None)) all in
    subst (λ (fixed : List (Option ℕ)). FixesVersions c.args.table.now fixed) (sym whole) (names_none (units_of c.args.table.now))

pub returns-clause-none : goal.returns-clause-none
returns-clause-none c =
    let all = units_before_all c.args.table.now c.as_slice-program-items.result.now c.loop-program.program-index c.as_slice-program-items.ensures c.loop-program-test.false in
    let whole : c.loop-program.fixed ≡ map (λ unit. None) (units_of c.args.table.now) = c.loop-program.invariant ∙ ap (map (λ (unit : CodedUnit). None)) all in
    subst (λ (fixed : List (Option ℕ)). FixesNone fixed) (sym whole) (fixes_none (units_of c.args.table.now))

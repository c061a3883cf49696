use Rattle.std.proofs.Common.{List, [], ap, refl, sym, ◌∙◌, arith}
use Rattle.std.specs.List.{AllZip}
use Rattle.version_table.proofs.Chosen.{units_from}
use Rattle.dual_bounds.specs.Fixed.{NamesVersion}
use Rattle.version_table.specs.declared.table.ProgramRow.{ProgramRow}
use Rattle.buffer_windows.specs.Charges.{OwnedUnit, owned_from}
use Rattle.buffer_windows.specs.Private.Prices.{all_have_left}
use Rattle.buffer_windows.proofs.OwnedCosts.{each_has_left-is, left_none, owned_in, owned_rest-none}
use Rattle.buffer_windows.proofs.values.each_has_left.Goals as goal

pub loop-program-init : goal.loop-program-init
loop-program-init c =
    let names : AllZip NamesVersion (units_from c.as_slice-program-items.result.now 0) c.args.fixed.now = rw c.as_slice-program-items.ensures c.requires.fixed in
    let rows = ap (λ (rows : List ProgramRow). all_have_left (owned_from 0 rows) c.args.fixed.now) c.as_slice-program-items.ensures in
    record { names = names; left = rows ∙ sym (each_has_left-is c.args.table.now c.args.fixed.now) }

pub split_at-requires : goal.split_at-requires
split_at-requires c =
    omega (
      arith,
      c.len.ensures,
      (owned_in c.args.table.now.slot [] c.as_slice-program-items.result.now c.loop-program.program-index c.program-item.result c.loop-program.rest.now c.loop-program-test.true
          c.program-item.is c.loop-program.invariant.names
          c.program-item.result.units c.len.result _ _ refl c.len.ensures refl refl).enough,
    )

pub all_have_left-requires : goal.all_have_left-requires
all_have_left-requires c =
    (owned_in c.args.table.now.slot [] c.as_slice-program-items.result.now c.loop-program.program-index c.program-item.result c.loop-program.rest.now c.loop-program-test.true
    c.program-item.is c.loop-program.invariant.names
    c.as_slice.result.now c.len.result c.split_at.result.0.now c.split_at.result.1.now c.as_slice.ensures c.len.ensures c.split_at.ensures.front c.split_at.ensures.back).of_units

pub returns-then-not-all_have_left : goal.returns-then-not-all_have_left
returns-then-not-all_have_left c =
    let parts = owned_in c.args.table.now.slot [] c.as_slice-program-items.result.now c.loop-program.program-index c.program-item.result c.loop-program.rest.now c.loop-program-test.true
    c.program-item.is c.loop-program.invariant.names
    c.as_slice.result.now c.len.result c.split_at.result.0.now c.split_at.result.1.now c.as_slice.ensures c.len.ensures c.split_at.ensures.front c.split_at.ensures.back in
    let no_is = sym (c.all_have_left.ensures c.loop-program.program-index) ∙ c.if-not-all_have_left.true in
    sym (sym c.loop-program.invariant.left ∙ parts.left ∙ rw no_is refl)

pub loop-program-preserved : goal.loop-program-preserved
loop-program-preserved c =
    let parts = owned_in c.args.table.now.slot [] c.as_slice-program-items.result.now c.loop-program.program-index c.program-item.result c.loop-program.rest.now c.loop-program-test.true
    c.program-item.is c.loop-program.invariant.names
    c.as_slice.result.now c.len.result c.split_at.result.0.now c.split_at.result.1.now c.as_slice.ensures c.len.ensures c.split_at.ensures.front c.split_at.ensures.back in
    let yes_is = sym (c.all_have_left.ensures c.loop-program.program-index) ∙ c.if-not-all_have_left.false in
    record { names = parts.of_others; left = sym (parts.left ∙ rw yes_is refl) ∙ c.loop-program.invariant.left }

pub returns : goal.returns
returns c =
    let rest = ap (λ (units : List OwnedUnit). all_have_left units c.loop-program.rest.now) (owned_rest-none c.as_slice-program-items.result.now c.loop-program.program-index
    c.loop-program-test.false) in
    sym (sym c.loop-program.invariant.left ∙ rest ∙ left_none c.loop-program.rest.now)

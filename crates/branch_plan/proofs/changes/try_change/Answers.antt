use Rattle.std.proofs.Common.{ℕ, List, length, rules, sym, ap, subst, arith}
use Rattle.std.proofs.lemmas.List.{length-set}
use Rattle.version_table.specs.declared.table.Table.{Table}
use Rattle.version_table.specs.Choice.{Fits, distortion_of_choice}
use Rattle.slot_rule.specs.Schedule.{IsScheduled}
use Rattle.branch_plan.specs.Private.Changes.{changes_left}
use Rattle.branch_plan.proofs.Changing.{choice_long, fits_put, put_back}
use Rattle.branch_plan.proofs.Counting.{fewer_left, less_in_all}
use Rattle.branch_plan.proofs.changes.try_change.Goals as goal

pub bounds-as_slice-place : goal.bounds-as_slice-place
bounds-as_slice-place c = omega (arith, c.requires.place, choice_long c.args.table.now c.args.known.choice c.requires.known.fits, ap length c.as_slice.ensures)

pub put-changed-requires : goal.put-changed-requires
put-changed-requires c = omega (arith, c.requires.place, choice_long c.args.table.now c.args.known.choice c.requires.known.fits)

pub distortion_of-other-requires-clause-fits : goal.distortion_of-other-requires-clause-fits
distortion_of-other-requires-clause-fits c =
    subst (λ (xs : List ℕ). Fits c.args.table.now xs) (sym c.put-changed.ensures)
    (fits_put c.args.table.now c.args.known.choice c.args.place c.args.k c.requires.known.fits c.requires.place c.requires.version)

pub run-requires : goal.run-requires
run-requires c = record {
  fits =
      subst (λ (t : Table). Fits t c.put-changed.result) (sym c.requires.run)
      (subst (λ (xs : List ℕ). Fits c.args.table.now xs) (sym c.put-changed.ensures)
      (fits_put c.args.table.now c.args.known.choice c.args.place c.args.k c.requires.known.fits c.requires.place c.requires.version));
}

pub put-requires : goal.put-requires
put-requires c =
    omega (arith, c.requires.place, choice_long c.args.table.now c.args.known.choice c.requires.known.fits, ap length c.put-changed.ensures, length-set c.args.known.choice c.args.place c.args.k)

pub returns-then-is_none-clause-change : goal.returns-then-is_none-clause-change
returns-then-is_none-clause-change c =
    let table = c.args.table.now in
    let choice = c.args.known.choice in
    let fits : Fits table c.put-changed.result = subst (λ (xs : List ℕ). Fits table xs) (sym c.put-changed.ensures)
    (fits_put table choice c.args.place c.args.k c.requires.known.fits c.requires.place c.requires.version) in
    let less = less_in_all table choice c.args.place c.args.k c.requires.known.fits c.requires.place c.requires.less in
    let fewer = fewer_left table choice c.args.place c.args.k c.requires.known.fits c.requires.place c.requires.version c.requires.less in
    let scheduled : IsScheduled table c.put-changed.result = search rules in (
      record { fits = fits; scheduled = scheduled; distortion = c.distortion_of-other.ensures },
      omega (arith, less, ap (distortion_of_choice table) c.put-changed.ensures, c.distortion_of-other.ensures, c.requires.known.distortion),
      omega (arith, fewer, ap (changes_left table) c.put-changed.ensures),
    )

pub returns-else-is_none-clause-change : goal.returns-else-is_none-clause-change
returns-else-is_none-clause-change c = (
  ap (λ (xs : List ℕ). record { choice = xs; distortion = c.args.known.distortion })
      (put_back c.args.known.choice c.put-changed.result c.put.result c.as_slice.result.now c.args.place c.args.k c.put-changed.ensures c.as_slice.ensures c.put.ensures),
  λ scheduled.
      let changed : IsScheduled c.args.table.now c.put-changed.result = subst (λ (xs : List ℕ). IsScheduled c.args.table.now xs) (sym c.put-changed.ensures) scheduled in
      let none = c.run.ensures.scheduled.1 (subst (λ (t : Table). IsScheduled t c.put-changed.result) (sym c.requires.run) changed) in
      search rules,
)

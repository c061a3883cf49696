-- What is tried of some units, and of all.
use Rattle.std.proofs.Common.{◌≡◌, ℕ, ◌+◌, ◌<◌, ◌≤◌, List, length, get_or, refl, sym, subst, inl, inr, arith}
use Rattle.std.proofs.lemmas.Bool.{cases_lt}
use Rattle.std.proofs.lemmas.Option.{get_or_from_slice_get, slice_get_within}
use Rattle.version_table.specs.declared.table.Unit.{Unit as CodedUnit}
use Rattle.version_table.specs.declared.table.Table.{Table}
use Rattle.version_table.specs.Choice.{version_at}
use Rattle.version_table.specs.Table.{units_of}
use Rattle.slot_rule.specs.Schedule.{IsScheduled}
use Rattle.certificate_checker.specs.Shown.{versions_of}
use Rattle.certificate_checker.proofs.Units.{no_unit}
use Rattle.branch_plan.specs.declared.known.Known.{Known}
use Rattle.branch_plan.specs.declared.changes.Tried.{Tried}
use Rattle.branch_plan.specs.declared.changes.Tried.TheVariants.{Better, Nothing, Spent}
use Rattle.branch_plan.specs.Changes.{GainsByRounds, IsBestAlone}
use Rattle.branch_plan.specs.Plan.{IsNoWorseThanLevels}
use Rattle.branch_plan.specs.Private.Changes.{FailBetween, FailsBelow, GainsOver, IsTriedFrom, changes_before}
use Rattle.branch_plan.proofs.Counting.{before_rises}

-- what was found among some units is found among more, with the runs that were used before
pub found_within : (table : Table) (old : Known) (left rest low a b high : ℕ) (tried : Tried) → rest ≤ left → left + changes_before table low ≤ rest + changes_before table a → b ≤ high
    → ((known : Known) (now : ℕ) → tried ≡ Nothing known now → ⊥) → IsTriedFrom table old rest a b tried → IsTriedFrom table old left low high tried
found_within table old left rest low a b high (Better known place now) less used up some is =
    (is.0, is.1, is.2, omega (arith, is.3, less), is.4, omega (arith, used, is.5, before_rises table b high up))
found_within table old left rest low a b high (Nothing known now) less used up some is = absurd (some known now refl)
found_within table old left rest low a b high (Spent known) less used up some is = (is.0, omega (arith, used, is.1, before_rises table b high up))

-- nothing helps from one unit on, and then this came of those before it
pub tried_round : (table : Table) (old : Known) (left rest from all : ℕ) (tried : Tried) → rest ≤ left → left + changes_before table from ≤ rest + changes_before table all
    → FailBetween table old.choice from all → IsTriedFrom table old rest 0 from tried → IsTriedFrom table old left 0 all tried
tried_round table old left rest from all (Better known place now) less used fail is = (is.0, is.1, is.2, omega (arith, is.3, less), is.4, omega (arith, used, is.5))
tried_round table old left rest from all (Nothing known now) less used fail is = (
  is.0,
  omega (arith, is.1, less),
  omega (arith, used, is.2),
  λ place low high. elim (cases_lt place from) as (λ _. FailsBelow table old.choice place (versions_of table place)) [
    | inl before ↦ is.3 place low before
    | inr behind ↦ fail place behind high
  ],
)
tried_round table old left rest from all (Spent known) less used fail is = (is.0, omega (arith, used, is.1))

-- where no change of any unit is scheduled, none of the choice helps
pub best_alone : (table : Table) (choice : List ℕ) → FailBetween table choice 0 (length (units_of table)) → IsBestAlone table choice
best_alone table choice fail changed (change, scheduled) =
    let units = units_of table in
    let place = change.place in
    let within : place < length units = slice_get_within units place change.unit change.is_unit in
    let unit : get_or units place no_unit ≡ change.unit = get_or_from_slice_get units place change.unit no_unit change.is_unit in
    let there : change.version < versions_of table place = subst (λ (u : CodedUnit). change.version < length u.versions.items) (sym unit) change.exists in
    let less = subst (λ (u : CodedUnit). (version_at u change.version).distortion < (version_at u (get_or choice place 0)).distortion) (sym unit) change.less in
    fail place (omega arith) within change.version there less (subst (λ (xs : List ℕ). IsScheduled table xs) change.is scheduled)

-- what is gained over a choice that is no worse than the smallest and the level choices is gained over these
pub gains : (table : Table) (evaluations : ℕ) (choice : List ℕ) (distortion start : ℕ) → GainsOver table evaluations choice distortion start → IsNoWorseThanLevels table start
    → GainsByRounds table evaluations choice distortion
gains table evaluations choice distortion start over worse changed some helps premise is scheduled =
    omega (arith, over changed some helps, worse premise is scheduled)

use Rattle.std.proofs.Common.{◌≡◌, ◌≤◌, ℕ, length, subst, ◌∙◌, arith}
use Rattle.version_table.specs.Table.{units_of}
use Rattle.branch_plan.specs.declared.known.Known.{Known}
use Rattle.branch_plan.specs.declared.changes.Tried.TheVariants.{Nothing}
use Rattle.branch_plan.specs.Private.Changes.{IsTriedFrom, changes_before}
use Rattle.branch_plan.proofs.Changing.{choice_long}
use Rattle.branch_plan.proofs.Counting.{before_rises}
use Rattle.branch_plan.proofs.Trying.{found_within, tried_round}
use Rattle.branch_plan.proofs.changes.round.Goals as goal

pub first_help-requires-clause-low : goal.first_help-requires-clause-low
first_help-requires-clause-low c = omega (arith, c.requires.from, c.len-units.ensures, choice_long c.args.table.now c.args.known.choice c.requires.known.fits)

pub first_help-requires-clause-high : goal.first_help-requires-clause-high
first_help-requires-clause-high c = omega (arith, c.len-units.ensures, choice_long c.args.table.now c.args.known.choice c.requires.known.fits)

pub returns-in-Nothing-clause-tried : goal.returns-in-Nothing-clause-tried
returns-in-Nothing-clause-tried c =
    let table = c.args.table.now in
    let known = c.args.known in
    let units : c.len-units.result ≡ length (units_of table) = c.len-units.ensures ∙ choice_long table known.choice c.requires.known.fits in
    let behind = subst (λ (n : ℕ). IsTriedFrom table known c.args.left c.args.from n (Nothing c.in-Nothing.known c.in-Nothing.left)) units c.in-Nothing.ensures.tried in
    let before = subst (λ (k : Known). IsTriedFrom table k c.in-Nothing.left 0 c.args.from c.first_help-in-Nothing.result) behind.0 c.first_help-in-Nothing.ensures.tried in
    tried_round table known c.args.left c.in-Nothing.left c.args.from (length (units_of table)) c.first_help-in-Nothing.result behind.1 behind.2 behind.3 before

pub returns-in_default : goal.returns-in_default
returns-in_default c =
    let table = c.args.table.now in
    let known = c.args.known in
    let units : c.len-units.result ≡ length (units_of table) = c.len-units.ensures ∙ choice_long table known.choice c.requires.known.fits in
    let rises : changes_before table 0 ≤ changes_before table c.args.from = before_rises table 0 c.args.from (omega arith) in
    record {
      run = c.first_help.ensures.run;
      tried =
          found_within table known c.args.left c.args.left 0 c.args.from c.len-units.result (length (units_of table)) c.first_help.result (omega arith) (omega (arith, rises)) (omega (arith, units))
          c.in_default.not-Nothing c.first_help.ensures.tried;
    }

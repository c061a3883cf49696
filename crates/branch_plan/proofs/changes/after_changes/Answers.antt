use Rattle.std.proofs.Common.{◌+◌, ◌*◌, ◌<◌, ◌≤◌, sym, ap, subst, arith}
use Rattle.branch_plan.specs.declared.known.Known.{Known}
use Rattle.branch_plan.specs.Changes.{IsBestAlone, change_count}
use Rattle.branch_plan.specs.Private.Changes.{changes_left}
use Rattle.branch_plan.proofs.Counting.{before_all, before_none, by_rounds, first_left, left_at_most, never_spent, one_round}
use Rattle.branch_plan.proofs.Trying.{best_alone}
use Rattle.branch_plan.proofs.changes.after_changes.Goals as goal

pub loop-left-init : goal.loop-left-init
loop-left-init c = record {
  run = c.requires.run;
  known = c.requires.known;
  kept = omega arith;
  from = omega arith;
  gained = omega arith;
  counted =
      first_left c.args.evaluations (changes_left c.args.table.now c.args.known.choice) (change_count c.args.table.now)
      (left_at_most c.args.table.now c.args.known.choice c.requires.known.fits);
}

pub loop-left-preserved : goal.loop-left-preserved
loop-left-preserved c =
    let table = c.args.table.now in
    let M = change_count table in
    let best = c.loop-left.best in
    let better = c.in-Better.known in
    let tried = c.in-Better.ensures.tried in
    let used : c.loop-left.left ≤ c.in-Better.rest + M = omega (arith, tried.5, before_none table, before_all table) in
    record {
      run = c.round.ensures.run;
      known = tried.0;
      kept = omega (arith, tried.1, c.loop-left.invariant.kept);
      from = omega (arith, tried.4);
      gained = one_round c.args.evaluations c.loop-left.left c.in-Better.rest best.distortion better.distortion (c.args.known.distortion * M) M c.loop-left.invariant.gained used tried.1;
      counted =
          one_round c.args.evaluations c.loop-left.left c.in-Better.rest (changes_left table best.choice) (changes_left table better.choice) (M * M) M c.loop-left.invariant.counted used tried.2;
    }

pub returns-in-Nothing-clause-alone : goal.returns-in-Nothing-clause-alone
returns-in-Nothing-clause-alone c =
    let table = c.args.table.now in
    let tried = c.in-Nothing.ensures.tried in
    λ enough. subst (λ (k : Known). IsBestAlone table k.choice) (sym tried.0) (best_alone table c.loop-left.best.choice tried.3)

pub returns-in-Nothing-clause-rounds : goal.returns-in-Nothing-clause-rounds
returns-in-Nothing-clause-rounds c =
    let table = c.args.table.now in
    let tried = c.in-Nothing.ensures.tried in
    let alone : IsBestAlone table c.in-Nothing.known.choice =
    subst (λ (k : Known). IsBestAlone table k.choice) (sym tried.0) (best_alone table c.loop-left.best.choice tried.3) in
    λ changed some helps. absurd (alone changed helps)

pub returns-in-Spent-clause-alone : goal.returns-in-Spent-clause-alone
returns-in-Spent-clause-alone c =
    let table = c.args.table.now in
    let few : c.loop-left.left < change_count table = omega (arith, c.in-Spent.ensures.tried.1, before_none table, before_all table) in
    λ enough. absurd (never_spent c.args.evaluations c.loop-left.left (changes_left table c.loop-left.best.choice) (change_count table) c.loop-left.invariant.counted few enough)

pub returns-in-Spent-clause-rounds : goal.returns-in-Spent-clause-rounds
returns-in-Spent-clause-rounds c =
    let table = c.args.table.now in
    let few : c.loop-left.left < change_count table = omega (arith, c.in-Spent.ensures.tried.1, before_none table, before_all table) in
    let same = ap (λ (k : Known). k.distortion) c.in-Spent.ensures.tried.0 in
    λ changed some helps.
    let fall = by_rounds c.args.evaluations c.loop-left.left c.loop-left.best.distortion c.args.known.distortion (change_count table) some c.loop-left.invariant.gained few in
    omega (arith, fall, same)

pub returns-clause-rounds : goal.returns-clause-rounds
returns-clause-rounds c =
    let table = c.args.table.now in
    λ changed some helps.
    let few : c.loop-left.left < change_count table = omega (arith, some, c.loop-left-test.false) in
    by_rounds c.args.evaluations c.loop-left.left c.loop-left.best.distortion c.args.known.distortion (change_count table) some c.loop-left.invariant.gained few

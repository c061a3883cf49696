use Rattle.std.proofs.Common.{◌+◌, subst, arith}
use Rattle.branch_plan.specs.declared.known.Known.{Known}
use Rattle.branch_plan.specs.Private.Changes.{IsTriedFrom}
use Rattle.branch_plan.proofs.Trying.{found_within}
use Rattle.branch_plan.proofs.changes.first_help.Goals as goal

pub returns-in_default : goal.returns-in_default
returns-in_default c =
    let table = c.args.table.now in
    let place = c.loop-place.place in
    let tried = subst (λ (known : Known). IsTriedFrom table known c.loop-place.rest place (place + 1) c.change_unit.result) c.loop-place.invariant.same c.change_unit.ensures.tried in
    record {
      run = c.change_unit.ensures.run;
      tried =
          found_within table c.args.known c.args.left c.loop-place.rest c.args.low place (place + 1) c.args.high c.change_unit.result c.loop-place.invariant.rest c.loop-place.invariant.used
          (omega (arith, c.loop-place-test.true)) c.in_default.not-Nothing tried;
    }

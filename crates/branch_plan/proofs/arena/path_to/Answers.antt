use Rattle.std.proofs.Common.{◌∙◌, arith}
use Rattle.branch_plan.proofs.Arenas.{all_passed, one_passed}
use Rattle.branch_plan.proofs.arena.path_to.Goals as goal

pub loop-at-preserved : goal.loop-at-preserved
loop-at-preserved c =
    let table = c.args.table.now in
    let links = c.args.links.now in
    let at = c.loop-at.at in
    let back = c.requires.links.back at (omega (arith, c.loop-at-test.true)) c.loop-at.invariant.within in
    record {
      within = omega (arith, back, c.loop-at.invariant.within);
      size = c.fix_where_free.ensures.length ∙ c.loop-at.invariant.size;
      passed = one_passed table links c.loop-at.fixed.items c.fix_where_free.new.fixed.items at c.args.number c.requires.links (omega (arith, c.loop-at-test.true)) c.loop-at.invariant.within
          c.loop-at.invariant.size c.loop-at.invariant.passed c.fix_where_free.ensures.free c.fix_where_free.ensures.fixed;
    }

pub returns : goal.returns
returns c =
    let links = c.args.links.now in
    λ path are. c.from_vec.ensures ∙ all_passed c.args.table.now links c.loop-at.fixed.items c.loop-at.at c.args.number c.requires.links (omega (arith, c.loop-at-test.false)) c.requires.number
    c.loop-at.invariant.size c.loop-at.invariant.passed path are

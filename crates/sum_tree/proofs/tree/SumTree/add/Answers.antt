use Rattle.std.proofs.Common.{◌≡◌, ℕ, suc, ◌+◌, ◌-◌, ◌^◌, List, length, refl, ap, subst, sym, ◌∙◌, arith}
use Rattle.sum_tree.specs.Nodes.{grown, IsSumTree}
use Rattle.sum_tree.specs.Private.Way.{IsGrowing}
use Rattle.sum_tree.proofs.Powers.{level_up, two_le}
use Rattle.sum_tree.proofs.Growing.{above-le, has-grown, keeps-growing, starts-growing, written-back}
use Rattle.sum_tree.proofs.tree.SumTree.add.Goals as goal

pub loop-level-init : goal.loop-level-init
loop-level-init c =
    let old = c.args.self.now in
    let items = old.nodes.items in
    let nodes = c.as_mut_slice-nodes.result.now in
    let same : old.height - 0 ≡ old.height = omega arith in
    let value : nodes ≡ items = c.as_mut_slice-nodes.ensures.value in
    let size : length nodes ≡ length items = ap (length {A = ℕ}) value in
    record {
      size = size;
      within = omega (arith, ap (λ n. 2 ^ n) same, size, c.requires.tree.1.size, c.requires.place);
      growing = λ number tree. subst (λ n. IsGrowing old.height number c.args.place c.args.amount n nodes (length nodes + c.args.place)) (sym same)
          (subst (λ (x : List ℕ). IsGrowing old.height number c.args.place c.args.amount old.height x (length x + c.args.place)) (sym value)
          (starts-growing old.height number items c.args.place c.args.amount c.requires.place tree));
    }

pub add_above-requires-clause-node : goal.add_above-requires-clause-node
add_above-requires-clause-node c =
    let old = c.args.self.now in
    let most = two_le (old.height - c.loop-level._level) old.height (omega arith) in
    omega (arith, most, c.requires.tree.1.size, c.loop-level.invariant.size, c.loop-level.invariant.within)

pub add_above-requires-clause-room : goal.add_above-requires-clause-room
add_above-requires-clause-room c =
    let old = c.args.self.now in
    let number = c.requires.tree.0 in
    let next : old.height - c.loop-level._level ≡ suc (old.height - (c.loop-level._level + 1)) = omega (arith, c.loop-level-test.true) in
    let most = above-le old.height number c.args.place c.args.amount (old.height - (c.loop-level._level + 1)) c.loop-level.nodes c.loop-level.node
    (subst (λ n. IsGrowing old.height number c.args.place c.args.amount n c.loop-level.nodes c.loop-level.node) next (c.loop-level.invariant.growing number c.requires.tree.1)) in
    omega (arith, most, c.requires.tree.2)

pub loop-level-preserved : goal.loop-level-preserved
loop-level-preserved c =
    let old = c.args.self.now in
    let next : old.height - c.loop-level._level ≡ suc (old.height - (c.loop-level._level + 1)) = omega (arith, c.loop-level-test.true) in
    record {
      size = c.add_above.ensures.size ∙ c.loop-level.invariant.size;
      within = omega (arith, level_up old.height c.loop-level._level c.loop-level-test.true, c.loop-level.invariant.within);
      growing = λ number tree.
          keeps-growing old.height number c.args.place c.args.amount (old.height - (c.loop-level._level + 1)) c.loop-level.nodes c.add_above.new.nodes c.loop-level.node c.add_above.ensures.each
          (subst (λ n. IsGrowing old.height number c.args.place c.args.amount n c.loop-level.nodes c.loop-level.node) next (c.loop-level.invariant.growing number tree));
    }

pub returns : goal.returns
returns c =
    let old = c.args.self.now in
    let new = c.loop-level.nodes in
    let last : old.height - c.loop-level._level ≡ 0 = omega arith in
    let size : length old.nodes.items ≡ old.nodes.len = omega (arith, c.as_mut_slice-nodes.ensures.len, ap (length {A = ℕ}) c.as_mut_slice-nodes.ensures.value) in
    let back = written-back old.nodes.len new old.nodes.items c.loop-level.invariant.size (sym size) in
    record {
      height = refl;
      tree = λ number tree. subst (λ (x : List ℕ). IsSumTree old.height (grown number c.args.place c.args.amount) x) (sym back) (record {
        size = c.loop-level.invariant.size ∙ tree.size;
        sums = has-grown old.height number c.args.place c.args.amount (old.height - c.loop-level._level) new c.loop-level.node last (c.loop-level.invariant.growing number tree);
      });
    }

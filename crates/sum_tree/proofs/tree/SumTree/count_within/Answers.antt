use Rattle.std.proofs.Common.{◌≡◌, ℕ, suc, refl, ◌+◌, ◌-◌, ◌*◌, ◌^◌, ◌<◌, ◌≤◌, List, length, get_or, ap, subst, sym, ◌∙◌, arith}
use Rattle.sum_tree.specs.Nodes.{IsSumTree, sum_from}
use Rattle.sum_tree.specs.Private.Way.{IsBeyond}
use Rattle.sum_tree.proofs.Powers.{two_le, two_more}
use Rattle.sum_tree.proofs.Down.{ends-more, ends-within, goes-left, goes-right}
use Rattle.sum_tree.proofs.tree.SumTree.count_within.Goals as goal
use Rattle.sum_tree.proofs.tree.SumTree.count_within.Goals.{else-below-left, then-below-left}

pub bounds-nodes-node : goal.bounds-nodes-node
bounds-nodes-node c =
    let self = c.args.self.now in
    let level = c.loop-level._level in
    let top = two_le (level + 1) self.height (omega (arith, c.loop-level-test.true)) in
    omega (arith, top, two_more level, c.loop-level.invariant.within, c.requires.tree.1.size, ap (length {A = ℕ}) c.as_slice-nodes.ensures.value)

pub loop-level-preserved : goal.loop-level-preserved
loop-level-preserved c =
    let self = c.args.self.now in
    let most = c.args.most in
    let level = c.loop-level._level in
    let node = c.loop-level.node in
    let left = c.loop-level.left in
    let is = c.loop-level.invariant in
    let levels = self.height - (level + 1) in
    let whole : self.height ≡ suc level + (self.height - (level + 1)) = omega (arith, c.loop-level-test.true) in
    let next : self.height - level ≡ suc (self.height - (level + 1)) = omega (arith, c.loop-level-test.true) in
    let beyond : (number : ℕ → ℕ) → IsSumTree self.height number self.nodes.items → IsBeyond number most left (suc levels) level node =
    λ number tree. subst (λ n. IsBeyond number most left n level node) next (is.beyond number tree) in
    let double = two_more level in
    let read : get_or c.as_slice-nodes.result.now node 0 ≡ get_or self.nodes.items node 0 = ap (λ (x : List ℕ). get_or x node 0) c.as_slice-nodes.ensures.value in
    elim c.if-below-left.branch [
      | then-below-left w ↦ record {
        from = omega (arith, double, w.node-is, is.from);
        within = omega (arith, double, w.node-is, is.within);
        beyond = λ number tree. subst (λ n. IsBeyond number most c.if-below-left.left levels (level + 1) n) (sym w.node-is)
            (goes-right self.height number self.nodes.items tree most left levels level node whole is.from is.within (beyond number tree) (level + 1) c.if-below-left.left refl
            (omega (arith, read, w.left-is, w.if-below-left)));
      }
      | else-below-left w ↦ record {
        from = omega (arith, double, w.node-is, is.from);
        within = omega (arith, double, w.node-is, is.within);
        beyond = λ number tree. subst (λ n. IsBeyond number most c.if-below-left.left levels (level + 1) n) (sym w.node-is)
            (subst (λ n. IsBeyond number most n levels (level + 1) (node * 2)) (sym w.left-is)
            (goes-left self.height number self.nodes.items tree most left levels level node whole is.from is.within (beyond number tree) (level + 1) refl
            (omega (arith, read, w.if-below-left))));
      }
    ]

pub returns-clause-within : goal.returns-clause-within
returns-clause-within c = λ number tree.
    let last : c.args.self.now.height - c.loop-level._level ≡ 0 = omega arith in
    let size : length c.as_slice-nodes.result.now ≡ 2 ^ c.loop-level._level =
    ap (length {A = ℕ}) c.as_slice-nodes.ensures.value ∙ tree.size ∙ ap (λ n. 2 ^ n) (omega (arith, c.loop-level-test.false, c.loop-level.auto)) in
    let is = ends-within number c.args.most c.loop-level.left (c.args.self.now.height - c.loop-level._level) c.loop-level._level c.loop-level.node last (c.loop-level.invariant.beyond number tree) in
    subst (λ n. sum_from number 0 (c.loop-level.node - n) ≤ c.args.most) (sym size) is

pub returns-clause-more : goal.returns-clause-more
returns-clause-more c = λ number tree low.
    let last : c.args.self.now.height - c.loop-level._level ≡ 0 = omega arith in
    let at : 2 ^ c.args.self.now.height ≡ 2 ^ c.loop-level._level = ap (λ n. 2 ^ n) (omega (arith, c.loop-level-test.false, c.loop-level.auto)) in
    let size : length c.as_slice-nodes.result.now ≡ 2 ^ c.loop-level._level = ap (length {A = ℕ}) c.as_slice-nodes.ensures.value ∙ tree.size ∙ at in
    let is = ends-more number c.args.most c.loop-level.left (c.args.self.now.height - c.loop-level._level) c.loop-level._level c.loop-level.node last (c.loop-level.invariant.beyond number tree)
    (omega (arith, low, at, size, c.loop-level.invariant.from)) in
    subst (λ n. c.args.most < sum_from number 0 ((c.loop-level.node - n) + 1)) (sym size) is

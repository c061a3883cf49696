use Rattle.std.proofs.Common.{◌≡◌, ℕ, suc, ◌+◌, ◌-◌, ◌/◌, ◌^◌, List, length, ap, subst, sym, ◌∙◌, arith}
use Rattle.sum_tree.specs.Private.Way.{IsSumming, left_of}
use Rattle.sum_tree.proofs.Powers.{level_up, two_le}
use Rattle.sum_tree.proofs.Growing.{ends-summing, keeps-summing, starts-summing, summed-le}
use Rattle.sum_tree.proofs.tree.SumTree.sum_of_first.Goals as goal

pub loop-level-init : goal.loop-level-init
loop-level-init c =
    let self = c.args.self.now in
    let items = self.nodes.items in
    let same : self.height - 0 ≡ self.height = omega arith in
    let size : length c.as_slice-nodes.result.now ≡ length items = ap (length {A = ℕ}) c.as_slice-nodes.ensures.value in
    record {
      within = omega (arith, ap (λ n. 2 ^ n) same, size, c.requires.tree.1.size, c.requires.count);
      summing = λ number tree. subst (λ n. IsSumming number c.args.count 0 n items (length c.as_slice-nodes.result.now + c.args.count)) (sym same)
          (subst (λ n. IsSumming number c.args.count 0 self.height items (n + c.args.count)) (sym size) (starts-summing self.height number items c.args.count c.requires.count tree));
    }

pub left_of-total-requires : goal.left_of-total-requires
left_of-total-requires c =
    let self = c.args.self.now in
    let most = two_le (self.height - c.loop-level._level) self.height (omega arith) in
    omega (arith, most, c.requires.tree.1.size, ap (length {A = ℕ}) c.as_slice-nodes.ensures.value, c.loop-level.invariant.within)

pub overflow_add-total : goal.overflow_add-total
overflow_add-total c =
    let self = c.args.self.now in
    let number = c.requires.tree.0 in
    let levels = self.height - (c.loop-level._level + 1) in
    let next : self.height - c.loop-level._level ≡ suc (self.height - (c.loop-level._level + 1)) = omega (arith, c.loop-level-test.true) in
    let left : c.left_of-total.result ≡ left_of self.nodes.items c.loop-level.node =
    c.left_of-total.ensures ∙ ap (λ (x : List ℕ). left_of x c.loop-level.node) c.as_slice-nodes.ensures.value in
    let summing = keeps-summing number c.args.count c.loop-level.total levels self.nodes.items c.loop-level.node c.left_of-total.result left
    (subst (λ n. IsSumming number c.args.count c.loop-level.total n self.nodes.items c.loop-level.node) next (c.loop-level.invariant.summing number c.requires.tree.1)) in
    omega (
      arith,
      summed-le self.height number c.args.count (c.loop-level.total + c.left_of-total.result) levels self.nodes.items (c.loop-level.node / 2) c.requires.count summing,
      c.requires.tree.2,
    )

pub loop-level-preserved : goal.loop-level-preserved
loop-level-preserved c =
    let self = c.args.self.now in
    let levels = self.height - (c.loop-level._level + 1) in
    let next : self.height - c.loop-level._level ≡ suc (self.height - (c.loop-level._level + 1)) = omega (arith, c.loop-level-test.true) in
    let left : c.left_of-total.result ≡ left_of self.nodes.items c.loop-level.node =
    c.left_of-total.ensures ∙ ap (λ (x : List ℕ). left_of x c.loop-level.node) c.as_slice-nodes.ensures.value in
    record {
      within = omega (arith, level_up self.height c.loop-level._level c.loop-level-test.true, c.loop-level.invariant.within);
      summing = λ number tree. keeps-summing number c.args.count c.loop-level.total levels self.nodes.items c.loop-level.node c.left_of-total.result left
          (subst (λ n. IsSumming number c.args.count c.loop-level.total n self.nodes.items c.loop-level.node) next (c.loop-level.invariant.summing number tree));
    }

pub returns : goal.returns
returns c = λ number tree.
    let last : c.args.self.now.height - c.loop-level._level ≡ 0 = omega arith in
    ends-summing number c.args.count c.loop-level.total (c.args.self.now.height - c.loop-level._level) c.args.self.now.nodes.items c.loop-level.node last
    (c.loop-level.invariant.summing number tree)

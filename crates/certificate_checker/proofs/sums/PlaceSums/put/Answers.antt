use Rattle.std.proofs.Common.{◌≡◌, ◌+◌, ◌*◌, ◌/◌, get_or, ◌∙◌, arith}
use Rattle.std.proofs.lemmas.List.{get_or_default}
use Rattle.certificate_checker.proofs.SumTrees.{two_risen_fit}
use Rattle.certificate_checker.proofs.sums.PlaceSums.put.Goals as goal

pub overflow_add-index : goal.overflow_add-index
overflow_add-index c =
    let nodes = c.loop-node.self.nodes.items in
    let up = c.loop-node.node / 2 in
    let rising = c.loop-node.invariant.rising in
    let left : c.index.result.now ≡ get_or nodes (2 * up) 0 =
    c.index.ensures ∙ get_or_default nodes (2 * up) c.index.result.now 0 (omega (arith, rising.size, rising.within, c.loop-node-test.true)) in
    let right : c.index-in-loop-node.result.now ≡ get_or nodes (2 * up + 1) 0 =
    c.index-in-loop-node.ensures ∙ get_or_default nodes (2 * up + 1) c.index-in-loop-node.result.now 0 (omega (arith, rising.size, rising.within, c.loop-node-test.true)) in
    omega (arith, left, right, two_risen_fit c.args.self.now c.args.place c.args.number nodes c.loop-node.node c.requires.sums (omega arith) c.loop-node-test.true rising)

use Rattle.std.proofs.Common.{◌≡◌, ℕ, ◌+◌, ◌-◌, List, get_or, ap, ◌∙◌, arith}
use Rattle.certificate_checker.specs.Private.PlaceSums.{odd_at, odd_before}
use Rattle.certificate_checker.proofs.SumTrees.{level_step, nothing_left, range_small, sum_shifted}
use Rattle.certificate_checker.proofs.sums.PlaceSums.between.Goals as goal

pub overflow_add-total : goal.overflow_add-total
overflow_add-total c =
    let sums = c.args.self.now in
    let step = level_step sums.nodes.items c.loop-low.low c.loop-low.high c.loop-low-test.true
    (λ i from below. c.requires.sums.pairs i (omega (arith, from, c.loop-low.invariant.least c.loop-low-test.true)) (omega (arith, below, c.loop-low.invariant.within))) in
    let left : c.odd_at.result ≡ odd_at sums.nodes.items c.loop-low.low = c.odd_at.ensures ∙ ap (λ (xs : List ℕ). odd_at xs c.loop-low.low) c.as_slice-nodes.ensures.value in
    let right : c.odd_before.result ≡ odd_before sums.nodes.items c.loop-low.high = c.odd_before.ensures ∙ ap (λ (xs : List ℕ). odd_before xs c.loop-low.high) c.as_slice-nodes.ensures.value in
    let whole = range_small sums (sums.count + c.args.from) (c.args.end - c.args.from) c.requires.sums (omega (arith, c.requires.from, c.requires.end)) (omega arith) in
    omega (arith, step, left, right, c.loop-low.invariant.sum, whole)

pub overflow_add-total-in-loop-low : goal.overflow_add-total-in-loop-low
overflow_add-total-in-loop-low c =
    let sums = c.args.self.now in
    let step = level_step sums.nodes.items c.loop-low.low c.loop-low.high c.loop-low-test.true
    (λ i from below. c.requires.sums.pairs i (omega (arith, from, c.loop-low.invariant.least c.loop-low-test.true)) (omega (arith, below, c.loop-low.invariant.within))) in
    let left : c.odd_at.result ≡ odd_at sums.nodes.items c.loop-low.low = c.odd_at.ensures ∙ ap (λ (xs : List ℕ). odd_at xs c.loop-low.low) c.as_slice-nodes.ensures.value in
    let right : c.odd_before.result ≡ odd_before sums.nodes.items c.loop-low.high = c.odd_before.ensures ∙ ap (λ (xs : List ℕ). odd_before xs c.loop-low.high) c.as_slice-nodes.ensures.value in
    let whole = range_small sums (sums.count + c.args.from) (c.args.end - c.args.from) c.requires.sums (omega (arith, c.requires.from, c.requires.end)) (omega arith) in
    omega (arith, step, left, right, c.loop-low.invariant.sum, whole)

pub loop-low-preserved : goal.loop-low-preserved
loop-low-preserved c =
    let sums = c.args.self.now in
    let step = level_step sums.nodes.items c.loop-low.low c.loop-low.high c.loop-low-test.true
    (λ i from below. c.requires.sums.pairs i (omega (arith, from, c.loop-low.invariant.least c.loop-low-test.true)) (omega (arith, below, c.loop-low.invariant.within))) in
    let left : c.odd_at.result ≡ odd_at sums.nodes.items c.loop-low.low = c.odd_at.ensures ∙ ap (λ (xs : List ℕ). odd_at xs c.loop-low.low) c.as_slice-nodes.ensures.value in
    let right : c.odd_before.result ≡ odd_before sums.nodes.items c.loop-low.high = c.odd_before.ensures ∙ ap (λ (xs : List ℕ). odd_before xs c.loop-low.high) c.as_slice-nodes.ensures.value in
    record {
      some = omega (arith, c.loop-low-test.true);
      least = λ more. omega (arith, c.loop-low.invariant.least c.loop-low-test.true);
      within = omega (arith, c.loop-low.invariant.within);
      sum = omega (arith, step, left, right, c.loop-low.invariant.sum);
    }

pub returns : goal.returns
returns c =
    let sums = c.args.self.now in
    let none = nothing_left (λ j. get_or sums.nodes.items j 0) c.loop-low.low c.loop-low.high c.loop-low-test.false in
    omega (arith, none, c.loop-low.invariant.sum, sum_shifted (λ j. get_or sums.nodes.items j 0) sums.count c.args.from (c.args.end - c.args.from))

use Rattle.std.proofs.Common.{◌≡◌, ℕ, ◌-◌, ◌*◌, length, ap, ap₂, ◌∙◌, arith}
use Rattle.dual_bounds.specs.declared.constants.TheConstants.{DISTORTION_PARTS}
use Rattle.certificate_checker.specs.Private.PlaceSums.{number_at}
use Rattle.sum_tree.specs.Nodes.{sum_from}
use Rattle.certificate_checker.proofs.FixedCosts.{parts_small}
use Rattle.certificate_checker.proofs.costs.least_costs.Goals as goal

pub overflow_mul-result : goal.overflow_mul-result
overflow_mul-result c =
    let tally = c.args.tally.now in
    let small = parts_small c.args.table.now c.args.fixed.now c.requires.tally.0 tally c.args.windows.now c.requires.tally.1 c.requires.fixed c.requires.valid
    (record { few = c.requires.few; lambdas = c.requires.right.2 }) in
    let size : c.len.result - 0 ≡ length tally.order.items = omega (arith, c.len.ensures, tally.order.ok.0) in
    let own : c.from.result * c.between-distortion.result ≡ DISTORTION_PARTS * sum_from (number_at tally.distortions) 0 (length tally.order.items) =
    ap₂ (λ (a b : ℕ). a * b) c.from.ensures (c.between-distortion.ensures ∙ ap (sum_from (number_at tally.distortions) 0) size) in
    omega (arith, own, small.is, small.small)

pub overflow_add-result : goal.overflow_add-result
overflow_add-result c =
    let tally = c.args.tally.now in
    let small = parts_small c.args.table.now c.args.fixed.now c.requires.tally.0 tally c.args.windows.now c.requires.tally.1 c.requires.fixed c.requires.valid
    (record { few = c.requires.few; lambdas = c.requires.right.2 }) in
    let size : c.len.result - 0 ≡ length tally.order.items = omega (arith, c.len.ensures, tally.order.ok.0) in
    let own : c.from.result * c.between-distortion.result ≡ DISTORTION_PARTS * sum_from (number_at tally.distortions) 0 (length tally.order.items) =
    ap₂ (λ (a b : ℕ). a * b) c.from.ensures (c.between-distortion.ensures ∙ ap (sum_from (number_at tally.distortions) 0) size) in
    omega (arith, own, c.least_of_free.ensures, small.is, small.small)

pub charges-requires-clause-small : goal.charges-requires-clause-small
charges-requires-clause-small c =
    let small = parts_small c.args.table.now c.args.fixed.now c.requires.tally.0 c.args.tally.now c.args.windows.now c.requires.tally.1 c.requires.fixed c.requires.valid
    (record { few = c.requires.few; lambdas = c.requires.right.2 }) in
    omega (arith, small.is, small.small)

pub overflow_add-result-2 : goal.overflow_add-result-2
overflow_add-result-2 c =
    let tally = c.args.tally.now in
    let small = parts_small c.args.table.now c.args.fixed.now c.requires.tally.0 tally c.args.windows.now c.requires.tally.1 c.requires.fixed c.requires.valid
    (record { few = c.requires.few; lambdas = c.requires.right.2 }) in
    let size : c.len.result - 0 ≡ length tally.order.items = omega (arith, c.len.ensures, tally.order.ok.0) in
    let own : c.from.result * c.between-distortion.result ≡ DISTORTION_PARTS * sum_from (number_at tally.distortions) 0 (length tally.order.items) =
    ap₂ (λ (a b : ℕ). a * b) c.from.ensures (c.between-distortion.ensures ∙ ap (sum_from (number_at tally.distortions) 0) size) in
    omega (arith, own, c.least_of_free.ensures, c.charges.ensures, small.is, small.small)

pub returns-clause-value : goal.returns-clause-value
returns-clause-value c =
    let tally = c.args.tally.now in
    let small = parts_small c.args.table.now c.args.fixed.now c.requires.tally.0 tally c.args.windows.now c.requires.tally.1 c.requires.fixed c.requires.valid
    (record { few = c.requires.few; lambdas = c.requires.right.2 }) in
    let size : c.len.result - 0 ≡ length tally.order.items = omega (arith, c.len.ensures, tally.order.ok.0) in
    let own : c.from.result * c.between-distortion.result ≡ DISTORTION_PARTS * sum_from (number_at tally.distortions) 0 (length tally.order.items) =
    ap₂ (λ (a b : ℕ). a * b) c.from.ensures (c.between-distortion.ensures ∙ ap (sum_from (number_at tally.distortions) 0) size) in
    omega (arith, own, c.least_of_free.ensures, c.charges.ensures, small.is)

pub returns-clause-small : goal.returns-clause-small
returns-clause-small c =
    let small = parts_small c.args.table.now c.args.fixed.now c.requires.tally.0 c.args.tally.now c.args.windows.now c.requires.tally.1 c.requires.fixed c.requires.valid
    (record { few = c.requires.few; lambdas = c.requires.right.2 }) in
    omega (arith, returns-clause-value c, small.small)

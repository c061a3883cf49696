use Rattle.std.proofs.Common.{◌≡◌, ◌*◌, ap, ap₂, arith}
use Rattle.cost_sweep.proofs.Swept.{are-costs}
use Rattle.cost_sweep.proofs.sweep.CostSweep.costs.Goals as goal

pub overflow_add-result : goal.overflow_add-result
overflow_add-result c =
    let costs = are-costs c.args.self.now c.args.price c.place_behind-place.result c.sum_of_first-rises.result c.sum_of_first-fewer.result c.requires.sweep c.requires.price c.place_behind-place.ensures
    c.sum_of_first-rises.ensures c.sum_of_first-fewer.ensures in
    omega (arith, costs.rises_small, costs.rest_small)

pub overflow_add-result-2 : goal.overflow_add-result-2
overflow_add-result-2 c =
    let costs = are-costs c.args.self.now c.args.price c.place_behind-place.result c.sum_of_first-rises.result c.sum_of_first-fewer.result c.requires.sweep c.requires.price c.place_behind-place.ensures
    c.sum_of_first-rises.ensures c.sum_of_first-fewer.ensures in
    let product : c.from.result * c.from-2.result ≡ c.args.self.now.packets * c.args.price = ap₂ (λ a b. a * b) c.from.ensures c.from-2.ensures in
    omega (arith, product, costs.rises_small, costs.rest_small, costs.product_small)

pub returns-clause-paid : goal.returns-clause-paid
returns-clause-paid c = λ due reached.
    let costs = are-costs c.args.self.now c.args.price c.place_behind-place.result c.sum_of_first-rises.result c.sum_of_first-fewer.result c.requires.sweep c.requires.price c.place_behind-place.ensures
    c.sum_of_first-rises.ensures c.sum_of_first-fewer.ensures in
    let product : c.from.result * c.from-2.result ≡ c.args.self.now.packets * c.args.price = ap₂ (λ a b. a * b) c.from.ensures c.from-2.ensures in
    omega (arith, product, costs.paid due reached)

pub returns-clause-spared : goal.returns-clause-spared
returns-clause-spared c = λ due reached.
    let costs = are-costs c.args.self.now c.args.price c.place_behind-place.result c.sum_of_first-rises.result c.sum_of_first-fewer.result c.requires.sweep c.requires.price c.place_behind-place.ensures
    c.sum_of_first-rises.ensures c.sum_of_first-fewer.ensures in
    let product : c.sum_of_first-fewer.result * c.from-3.result ≡ c.sum_of_first-fewer.result * c.args.price = ap (λ n. c.sum_of_first-fewer.result * n) c.from-3.ensures in
    omega (arith, product, costs.spared due reached)

pub returns-clause-paid_small : goal.returns-clause-paid_small
returns-clause-paid_small c =
    let costs = are-costs c.args.self.now c.args.price c.place_behind-place.result c.sum_of_first-rises.result c.sum_of_first-fewer.result c.requires.sweep c.requires.price c.place_behind-place.ensures
    c.sum_of_first-rises.ensures c.sum_of_first-fewer.ensures in
    let product : c.from.result * c.from-2.result ≡ c.args.self.now.packets * c.args.price = ap₂ (λ a b. a * b) c.from.ensures c.from-2.ensures in
    omega (arith, product, costs.rises_small, costs.rest_small, costs.product_small)

pub overflow_mul-result-2 : goal.overflow_mul-result-2
overflow_mul-result-2 c =
    let costs = are-costs c.args.self.now c.args.price c.place_behind-place.result c.sum_of_first-rises.result c.sum_of_first-fewer.result c.requires.sweep c.requires.price c.place_behind-place.ensures
    c.sum_of_first-rises.ensures c.sum_of_first-fewer.ensures in
    let product : c.sum_of_first-fewer.result * c.from-3.result ≡ c.sum_of_first-fewer.result * c.args.price = ap (λ n. c.sum_of_first-fewer.result * n) c.from-3.ensures in
    omega (arith, product, costs.spared_small)

pub returns-clause-spared_small : goal.returns-clause-spared_small
returns-clause-spared_small c =
    let costs = are-costs c.args.self.now c.args.price c.place_behind-place.result c.sum_of_first-rises.result c.sum_of_first-fewer.result c.requires.sweep c.requires.price c.place_behind-place.ensures
    c.sum_of_first-rises.ensures c.sum_of_first-fewer.ensures in
    let product : c.sum_of_first-fewer.result * c.from-3.result ≡ c.sum_of_first-fewer.result * c.args.price = ap (λ n. c.sum_of_first-fewer.result * n) c.from-3.ensures in
    omega (arith, product, costs.spared_small)

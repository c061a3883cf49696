use Rattle.std.proofs.Common.{◌≡◌, List, get_or, ap, ◌∙◌, arith}
use Rattle.certificate_checker.specs.declared.prices.Dated.{Dated}
use Rattle.certificate_checker.proofs.PriceLaws.{none}
use Rattle.certificate_checker.proofs.prices.Passing.pass.Goals as goal

pub overflow_add-self : goal.overflow_add-self
overflow_add-self c =
    let items = c.args.self.now.dated.items in
    let place = c.args.self.now.place in
    let own : c.lambda_at.result ≡ (get_or items place none).lambda =
    c.lambda_at.ensures none ∙ ap (λ (x : List Dated). (get_or x place none).lambda) c.as_slice.ensures.value in
    omega (arith, own, c.requires.limits.lambdas place none c.requires.more, c.requires.sum, c.requires.limits.few, c.requires.more)

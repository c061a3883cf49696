use Rattle.std.proofs.Common.{◌≡◌, ◌<◌, List, length, get_or, ap, ◌∙◌, arith}
use Rattle.std.proofs.lemmas.Bool.{lt-ltb, ltb-true}
use Rattle.certificate_checker.specs.declared.prices.Dated.{Dated}
use Rattle.certificate_checker.proofs.PriceLaws.{none}
use Rattle.certificate_checker.proofs.prices.Passing.is_next_before.Goals as goal

pub returns-then-self-dated : goal.returns-then-self-dated
returns-then-self-dated c =
    let items = c.args.self.now.dated.items in
    let place = c.args.self.now.place in
    let at : (d : Dated) → c.time_at.result ≡ (get_or items place d).time =
    λ d. c.time_at.ensures d ∙ ap (λ (x : List Dated). (get_or x place d).time) c.as_slice-dated.ensures.value in
    let low : place < length items = omega (arith, ap (length {A = Dated}) c.as_slice-dated.ensures.value) in (
      λ is. (low, λ d. (let own = at d in let less = ltb-true c.time_at.result c.args.time is in omega (arith, own, less))),
      λ both. lt-ltb c.time_at.result c.args.time (let own = at none in let less = both.1 none in omega (arith, own, less)),
    )

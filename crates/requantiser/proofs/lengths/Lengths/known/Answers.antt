use Rattle.std.proofs.Common.{◌≡◌, ◌<◌, ◌≤◌, ◌+◌, ◌*◌, ◌∙◌, ◌⊎◌, inl, inr, ℕ, get_or, ap, arith}
use Rattle.std.proofs.lemmas.Bool.{cases_lt}
use Rattle.requantiser.proofs.Counted.{known_by_row}
use Rattle.requantiser.proofs.lengths.Lengths.known.Goals as goal

pub returns-clause-value : goal.returns-clause-value
returns-clause-value c = λ size is some.
    let at : c.from-2.result ≡ get_or c.args.self.now.bits (1024 * c.args.number + c.args.row + c.args.run) 0 =
    c.from-2.ensures ∙ ap (λ (n : ℕ). get_or c.args.self.now.bits (1024 * c.args.number + n + c.args.run) 0) c.from.ensures in
    let known = known_by_row c.args.self.now.bits c.args.number c.args.run c.args.row size c.from-2.result c.args.self.now.right c.requires.run is at some in
    (known.0, known.2)

pub returns-clause-few : goal.returns-clause-few
returns-clause-few c = by_place (cases_lt 0 c.from-2.result)
  where
    by_place : (0 < c.from-2.result) ⊎ (c.from-2.result ≤ 0) → c.from-2.result ≤ 42
    by_place (inl some) =
        let at : c.from-2.result ≡ get_or c.args.self.now.bits (1024 * c.args.number + c.args.row + c.args.run) 0 =
        c.from-2.ensures ∙ ap (λ (n : ℕ). get_or c.args.self.now.bits (1024 * c.args.number + n + c.args.run) 0) c.from.ensures in
        let known = known_by_row c.args.self.now.bits c.args.number c.args.run c.args.row c.requires.row.0 c.from-2.result c.args.self.now.right c.requires.run c.requires.row.1 at some in
        known.1
    by_place (inr none) = omega (arith, none)

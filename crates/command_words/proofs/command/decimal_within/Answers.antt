use Rattle.std.proofs.Common.{◌≡◌, decimal, sym, ◌∙◌, arith}
use Rattle.std.proofs.lemmas.Fmt.{decimal_injective}
use Rattle.command_words.proofs.command.decimal_within.Goals as goal
use Rattle.command_words.proofs.command.decimal_within.Goals.{then-n-least-via-then-n-least, then-n-least-via-else-n-least+then-n-most}

pub returns-then-n-least : goal.returns-then-n-least
returns-then-n-least c = λ m low high is.
    let words : decimal m ≡ decimal c.in_ok-n.n = sym is ∙ c.in_ok-n.ensures.1 in
    let same : m ≡ c.in_ok-n.n = decimal_injective m c.in_ok-n.n (omega (arith, high, c.ranges.most.fits)) c.in_ok-n.ensures.0 words in
    elim c.then-n-least.branch [
      | then-n-least-via-then-n-least w ↦ omega (arith, same, low, w.if-n-least.true)
      | then-n-least-via-else-n-least+then-n-most w ↦ omega (arith, same, high, w.if-n-most.true)
    ]

use Rattle.std.proofs.Common.{◌≡◌, ◌+◌, ◌∙◌, ℕ, length, ap, arith}
use Rattle.picture_grammar.specs.Written.{written_increment}
use Rattle.version_maker.proofs.stayed_bits.StayedBits.of.Goals as goal

pub returns : goal.returns
returns c = λ coding are.
    let increment : c.increment_bits.result ≡ length (written_increment (c.args.from.now.skipped_before + 1)) =
    c.increment_bits.ensures.value ∙ ap (λ (n : ℕ). length (written_increment (n + 1))) c.from.ensures in
    record {
      neither = omega (arith, increment, are.neither);
      pattern = omega (arith, increment, are.pattern);
    }

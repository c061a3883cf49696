use Rattle.std.proofs.Common.{◌≡◌, true, false, ap, arith}
use Rattle.std.specs.Prelude.{◌==◌, not}
use Rattle.std.proofs.lemmas.Bool.{ne_eqb, eq-eqb}
use Rattle.version_maker.proofs.OutlineCounts.{stayed-length}
use Rattle.version_maker.proofs.stayed_bits.StayedBits.at.Goals as goal

pub returns-then-pattern-eq0-clause-value : goal.returns-then-pattern-eq0-clause-value
returns-then-pattern-eq0-clause-value c = λ coding from shared are.
    let none : (c.args.pattern == 0) ≡ true = eq-eqb c.args.pattern 0 (omega (arith, c.if-pattern-eq0.true)) in
    omega (arith, are.neither, stayed-length coding from c.args.pattern false (ap not none))

pub returns-else-pattern-eq0-clause-value : goal.returns-else-pattern-eq0-clause-value
returns-else-pattern-eq0-clause-value c = λ coding from shared are.
    let some : (c.args.pattern == 0) ≡ false = ne_eqb c.args.pattern 0 (λ e. absurd (omega (arith, e, c.if-pattern-eq0.false))) in
    omega (arith, are.pattern, c.pattern_bits.ensures.value, stayed-length coding from c.args.pattern true (ap not some))

use Rattle.std.proofs.Common.{ℕ, Option, unwrap_or, sym, ◌∙◌, ap, arith}
use Rattle.picture_grammar.specs.Macroblock.{is_coded}
use Rattle.requantiser.proofs.Ranges.{find-first, find-nothing}
use Rattle.requantiser.proofs.macroblock.first_coded.Goals as goal

pub returns-then-is_coded-clause-value : goal.returns-then-is_coded-clause-value
returns-then-is_coded-clause-value c =
    sym (ap (λ (o : Option ℕ). unwrap_or o 0) (find-first (λ i. is_coded c.args.from.now.kind c.args.from.now.pattern i) 0 6 c.loop-i.i (record {
      from = omega arith;
      below = omega (arith, c.loop-i-test.true);
      passes = sym c.is_coded.ensures ∙ c.if-is_coded.true;
      none_before = λ k low high. c.loop-i.invariant k high;
    })))

pub returns-clause-value : goal.returns-clause-value
returns-clause-value c =
    sym (ap (λ (o : Option ℕ). unwrap_or o 0) (find-nothing (λ i. is_coded c.args.from.now.kind c.args.from.now.pattern i) 0 6
    (λ k low high. c.loop-i.invariant k (omega (arith, c.loop-i-test.false)))))

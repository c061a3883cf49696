use Rattle.std.proofs.Common.{Option, Some, Bor, sym, ◌∙◌, ap₂}
use Rattle.std.specs.Option.{option_map}
use Rattle.syntax_types.specs.declared.macroblock.Macroblock.{Macroblock}
use Rattle.requantiser.specs.Distortion.{coefficient_of_macroblock, difference_of}
use Rattle.requantiser.proofs.Differences.{difference_of-flip, difference_of-none}
use Rattle.requantiser.proofs.comparison.difference.Goals as goal

pub returns-in-Some-macroblock-2-clause-value : goal.returns-in-Some-macroblock-2-clause-value
returns-in-Some-macroblock-2-clause-value c =
    c.difference_of_one-in-Some-macroblock-2.ensures.value
    ∙ sym (difference_of-flip (coefficient_of_macroblock c.args.to.now.seq c.args.to.now.coding c.args.b.code (Some c.in-Some-macroblock-2.second.now)))
    ∙ ap₂ (λ (o p : Option (Bor Macroblock)). difference_of (coefficient_of_macroblock c.args.from.now.seq c.args.from.now.coding c.args.a.code (option_map (λ m. m.now) o))
    (coefficient_of_macroblock c.args.to.now.seq c.args.to.now.coding c.args.b.code (option_map (λ m. m.now) p))) (sym c.in-None.is) (sym c.in-Some-macroblock-2.is)

pub returns-in-None-macroblock-2-clause-value : goal.returns-in-None-macroblock-2-clause-value
returns-in-None-macroblock-2-clause-value c =
    difference_of-none
    ∙ ap₂ (λ (o p : Option (Bor Macroblock)). difference_of (coefficient_of_macroblock c.args.from.now.seq c.args.from.now.coding c.args.a.code (option_map (λ m. m.now) o))
    (coefficient_of_macroblock c.args.to.now.seq c.args.to.now.coding c.args.b.code (option_map (λ m. m.now) p))) (sym c.in-None.is) (sym c.in-None-macroblock-2.is)

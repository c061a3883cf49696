use Rattle.std.proofs.Common.{◌≡◌, ℕ, ℤ, Some, true, false, sym, ◌∙◌, ap}
use Rattle.requantiser.specs.Distortion.{coefficient_of_macroblock, difference_of}
use Rattle.requantiser.specs.VersionState.{made_of}
use Rattle.requantiser.proofs.step.distortion_of.Goals as goal

pub returns-then-not-coded-clause-value : goal.returns-then-not-coded-clause-value
returns-then-not-coded-clause-value c =
    let coded : c.args.coded ≡ false = c.if-not-coded.true in
    let f : ℕ → ℕ → ℤ = coefficient_of_macroblock c.args.picture.seq.now c.args.picture.coding.now c.args.state.source_code (Some c.args.from.now) in
    c.difference_of_one.ensures.value
    ∙ ap (λ b. difference_of f (coefficient_of_macroblock c.args.picture.seq.now c.args.picture.coding.now c.args.state.version_code (made_of b c.args.to.now))) (sym coded)

pub difference_of_two-requires-clause-second : goal.difference_of_two-requires-clause-second
difference_of_two-requires-clause-second c = c.requires.version c.if-not-coded.false

pub returns-clause-value : goal.returns-clause-value
returns-clause-value c =
    let coded : c.args.coded ≡ true = c.if-not-coded.false in
    let f : ℕ → ℕ → ℤ = coefficient_of_macroblock c.args.picture.seq.now c.args.picture.coding.now c.args.state.source_code (Some c.args.from.now) in
    c.difference_of_two.ensures.value
    ∙ ap (λ b. difference_of f (coefficient_of_macroblock c.args.picture.seq.now c.args.picture.coding.now c.args.state.version_code (made_of b c.args.to.now))) (sym coded)

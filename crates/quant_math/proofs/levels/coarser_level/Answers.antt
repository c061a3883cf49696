use Rattle.std.proofs.Common.{◌≡◌, ◌≤◌, ◌≤ℤ◌, ◌<ℤ◌, ◌-ℤ◌, ◌*ℤ◌, pos, arith, w32, to_z, of_z, ◌∙◌, ap, unsigned_abs}
use Rattle.std.specs.Int.{w16, int_signum}
use Rattle.std.proofs.lemmas.Int.{ints}
use Rattle.quant_math.specs.Levels.{coarser_size}
use Rattle.quant_math.proofs.Signs.{signum-negative, signum-nonnegative}
use Rattle.quant_math.proofs.levels.coarser_level.Goals as goal
use Rattle.quant_math.proofs.levels.coarser_level.Goals.{After-from-size}

-- the helper's size is that of the definition
size_is : (c : After-from-size) → c.coarser_size.result ≡ coarser_size c.args.level c.args.weight c.args.scale_from c.args.scale_to c.args.intra
size_is c =
    let level : to_z w16 (of_z w16 c.args.level) ≡ c.args.level = omega (arith, ints) in
    c.coarser_size.ensures.value ∙ ap (λ l. coarser_size l c.args.weight c.args.scale_from c.args.scale_to c.args.intra) level

pub returns-then-level-lt0-clause-value : goal.returns-then-level-lt0-clause-value
returns-then-level-lt0-clause-value c =
    let size : to_z w16 (of_z w16 (to_z w32 (of_z w32 (pos 0 -ℤ to_z w32 (of_z w32 c.from-size.result))))) ≡ pos 0 -ℤ pos c.coarser_size.result =
    omega (arith, ints) in
    let negative : c.args.level <ℤ pos 0 = grind (arith, ints) in
    size ∙ signum-negative c.args.level c.coarser_size.result negative
    ∙ ap (λ n. int_signum c.args.level *ℤ pos n) (size_is (goal.at.returns-then-level-lt0-clause-value c).After-from-size)

pub returns-else-level-lt0-clause-value : goal.returns-else-level-lt0-clause-value
returns-else-level-lt0-clause-value c =
    let size : to_z w16 (of_z w16 (to_z w32 (of_z w32 c.from-size.result))) ≡ pos c.coarser_size.result = omega (arith, ints) in
    let above : pos 0 ≤ℤ c.args.level = grind (arith, ints) in
    let small : c.coarser_size.result ≤ unsigned_abs c.args.level = omega (arith, ints) in
    size ∙ signum-nonnegative c.args.level c.coarser_size.result above small
    ∙ ap (λ n. int_signum c.args.level *ℤ pos n) (size_is (goal.at.returns-else-level-lt0-clause-value c).After-from-size)

-- What becomes of a macroblock in a version can be written: some bits spell it.
use Rattle.std.proofs.Common.{◌≡◌, ◌==◌, ◌&&◌, ℕ, ◌+◌, ◌++◌, [], min, not, Option, Some, None, Bool, true, false, if◌then◌else◌, unwrap_or, refl, ap, subst, arith}
use Rattle.syntax_types.specs.declared.macroblock.Macroblock.{Macroblock}
use Rattle.syntax_types.specs.declared.picture.PicCoding.{PicCoding}
use Rattle.syntax_types.specs.declared.picture.SeqState.{SeqState}
use Rattle.syntax_types.specs.declared.picture.TheConstants.{I_PICTURE}
use Rattle.picture_grammar.specs.Macroblock.{address_increment, most_increment}
use Rattle.picture_grammar.specs.Written.{written_macroblock}
use Rattle.picture_laws.specs.Spellable.{HasSpellableParts, IsSpellable}
use Rattle.picture_laws.proofs.WrittenMacroblock.{anywhere-macroblock, parts-of_macroblock}
use Rattle.requantiser.specs.Macroblocks.{IsCoarserAt}
use Rattle.requantiser.specs.Private.Shapes.{IsWalkable}
use Rattle.requantiser.specs.Private.Walk.{coarsened_macroblock}
use Rattle.requantiser.specs.VersionState.{IsSpelledMacroblock}
use Rattle.requantiser.proofs.Macroblocks.{coarsened_macroblock-is, one_coarser_at}
use Rattle.requantiser.proofs.Made.{FitBlocks, made-fits}
use Rattle.requantiser.proofs.SpellableElements.{increment-spelled}
use Rattle.requantiser.proofs.SpellableMacroblocks.{coarser-parts}
use Rattle.requantiser.proofs.Spelled.{walkable}

-- some bits spell a macroblock of such parts
parts-spelled : (coding : PicCoding) (first : Bool) (left : ℕ) (m : Macroblock) → HasSpellableParts coding first left m → IsSpelledMacroblock coding m
parts-spelled coding first left m parts =
    record { first = first; columns_left = left; bits = written_macroblock coding m ++ []; rest = []; spelled = (anywhere-macroblock coding first left m parts).before [] }

-- an increment of the first macroblock in a row that is just wide enough
most_first : (b : Bool) (n : ℕ) → (if b && not true then min 1 n else n) ≡ n
most_first true n = refl
most_first false n = refl

pub made-spelled : (seq : SeqState) (coding : PicCoding) (m : ℕ) (inner : Bool) (code before : ℕ) (from to : Macroblock) → IsSpelledMacroblock coding from
    → IsCoarserAt seq coding m inner code before (Some from) (Some to) → IsSpelledMacroblock coding to
made-spelled seq coding m inner code before from to source (mapped, is_mapped, coarser, not_inner) =
    let walk : IsWalkable from = walkable coding from source in
    let fits : FitBlocks to.kind.intra to.blocks = by_made (coarsened_macroblock seq coding m inner (unwrap_or from.code code) before 0 from) refl
    (coarsened_macroblock-is seq coding m inner code before 0 from walk.shape) in
    let left : ℕ = to.skipped_before + 1 in
    let most : most_increment coding true left ≡ left = most_first (coding.kind == I_PICTURE) left in
    let increment : IsSpellable (address_increment (most_increment coding true left)) left = increment-spelled (most_increment coding true left) left (omega arith) (omega (arith, most)) in
    parts-spelled coding true left to
    (coarser-parts seq coding (unwrap_or from.code code) mapped before from to coarser source.first true source.columns_left left
    (parts-of_macroblock coding source.first source.columns_left from source.bits source.rest source.spelled) is_mapped.is_code fits increment)
  where
    by_made : (made : Option Macroblock) → made ≡ coarsened_macroblock seq coding m inner (unwrap_or from.code code) before 0 from
        → IsCoarserAt seq coding m inner code before (Some from) made → FitBlocks to.kind.intra to.blocks
    by_made None is at = absurd (one_coarser_at seq coding m inner code before (Some from) None (Some to) at (mapped, is_mapped, coarser, not_inner))
    by_made (Some x) is at =
        let same = one_coarser_at seq coding m inner code before (Some from) (Some x) (Some to) at (mapped, is_mapped, coarser, not_inner) in
        let blocks : x.blocks ≡ to.blocks = ap (λ (y : Macroblock). y.blocks) (same 0) in
        let intra : x.kind.intra ≡ to.kind.intra = ap (λ (y : Macroblock). y.kind.intra) (same 0) in
        let fits : FitBlocks x.kind.intra x.blocks =
        made-fits seq coding m inner (unwrap_or from.code code) before 0 from x (let w : IsWalkable from = walkable coding from source in w.measured) is in
        subst (FitBlocks to.kind.intra) blocks (subst (λ (t : Bool). FitBlocks t x.blocks) intra fits)

use Rattle.std.proofs.Common.{◌≡◌, ◌+◌, ℕ, Option, Some, None, List, true, unwrap_or, sym, ◌∙◌, ap}
use Rattle.std.specs.Prelude.{if◌then◌else◌}
use Rattle.syntax_types.specs.declared.block.Block.{Block}
use Rattle.syntax_types.specs.declared.macroblock.Macroblock.{Macroblock}
use Rattle.requantiser.specs.Private.Walk.{made_blocks, coarsened_macroblock}
use Rattle.requantiser.proofs.Macroblocks.{coarsened_macroblock-made}
use Rattle.requantiser.proofs.Made.{FitBlocks, made-fits}
use Rattle.requantiser.proofs.step.step.Goals as goal

pub returns-clause-made : goal.returns-clause-made
returns-clause-made c =
    let code : ℕ = c.code_in_force-in_force.result in
    let coded : c.make_blocks-coded.result ≡ true = c.if-not-coded.false in
    let blocks : Some c.make_blocks-coded.new.to ≡ made_blocks c.args.picture.seq.now c.args.picture.coding.now c.args.inner code c.mapped-mapped.result c.args.from.now =
    ap (λ b. let o : Option (List Block) = if b then Some c.make_blocks-coded.new.to else None in o) (sym coded) ∙ c.make_blocks-coded.ensures in
    let made : Some c.write_head.new.to ≡ coarsened_macroblock c.args.picture.seq.now c.args.picture.coding.now c.args.state.now.m c.args.inner (unwrap_or c.args.from.now.code c.args.state.now.source_code)
    c.args.state.now.version_code (c.args.state.now.skipped + c.args.from.now.skipped_before) c.args.from.now =
    ap (λ (to : Macroblock). Some to) c.write_head.ensures.head
    ∙ coarsened_macroblock-made c.args.picture.seq.now c.args.picture.coding.now c.args.state.now.m c.args.inner code c.mapped-mapped.result c.args.state.now.version_code
    (c.args.state.now.skipped + c.args.from.now.skipped_before) c.args.from.now (Some c.make_blocks-coded.new.to) c.mapped-mapped.ensures.value blocks
    ∙ ap (λ n. coarsened_macroblock c.args.picture.seq.now c.args.picture.coding.now c.args.state.now.m c.args.inner n c.args.state.now.version_code
    (c.args.state.now.skipped + c.args.from.now.skipped_before) c.args.from.now) c.code_in_force-in_force.ensures.value in
    made

pub returns-clause-placed : goal.returns-clause-placed
returns-clause-placed c = λ e. ap (λ (to : Macroblock). to.skipped_before) c.write_head.ensures.head

pub returns-clause-version : goal.returns-clause-version
returns-clause-version c =
    let code : ℕ = c.code_in_force-in_force.result in
    let coded : c.make_blocks-coded.result ≡ true = c.if-not-coded.false in
    let blocks : Some c.make_blocks-coded.new.to ≡ made_blocks c.args.picture.seq.now c.args.picture.coding.now c.args.inner code c.mapped-mapped.result c.args.from.now =
    ap (λ b. let o : Option (List Block) = if b then Some c.make_blocks-coded.new.to else None in o) (sym coded) ∙ c.make_blocks-coded.ensures in
    let made : Some c.write_head.new.to ≡ coarsened_macroblock c.args.picture.seq.now c.args.picture.coding.now c.args.state.now.m c.args.inner (unwrap_or c.args.from.now.code c.args.state.now.source_code)
    c.args.state.now.version_code (c.args.state.now.skipped + c.args.from.now.skipped_before) c.args.from.now =
    ap (λ (to : Macroblock). Some to) c.write_head.ensures.head
    ∙ coarsened_macroblock-made c.args.picture.seq.now c.args.picture.coding.now c.args.state.now.m c.args.inner code c.mapped-mapped.result c.args.state.now.version_code
    (c.args.state.now.skipped + c.args.from.now.skipped_before) c.args.from.now (Some c.make_blocks-coded.new.to) c.mapped-mapped.ensures.value blocks
    ∙ ap (λ n. coarsened_macroblock c.args.picture.seq.now c.args.picture.coding.now c.args.state.now.m c.args.inner n c.args.state.now.version_code
    (c.args.state.now.skipped + c.args.from.now.skipped_before) c.args.from.now) c.code_in_force-in_force.ensures.value in
    let fits : FitBlocks c.write_head.new.to.kind.intra c.write_head.new.to.blocks =
    made-fits c.args.picture.seq.now c.args.picture.coding.now c.args.state.now.m c.args.inner (unwrap_or c.args.from.now.code c.args.state.now.source_code) c.args.state.now.version_code
    (c.args.state.now.skipped + c.args.from.now.skipped_before) c.args.from.now c.write_head.new.to c.requires.measured made in
    λ e. record { weights = c.requires.weights; code_is = c.code_in_force-state.ensures.is_code; six = fits.six; blocks = fits.each }

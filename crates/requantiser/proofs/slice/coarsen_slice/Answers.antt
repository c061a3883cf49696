use Rattle.std.proofs.Common.{◌≡◌, ℕ, List, Option, true, ◌∙◌, ap, ap₂}
use Rattle.syntax_types.specs.declared.macroblock.Macroblock.{Macroblock}
use Rattle.syntax_types.specs.declared.slice.Slice.{Slice}
use Rattle.syntax_types.specs.declared.slice.SliceInfo.{SliceInfo}
use Rattle.requantiser.specs.Private.Walk.{mapped_code, coarsened_macroblocks, coarsened_slice}
use Rattle.requantiser.proofs.MappedCodes.{mapped_code-is, one_mapped}
use Rattle.requantiser.proofs.slice.coarsen_slice.Goals as goal

pub returns : goal.returns
unfolding coarsened_slice
returns c =
    let code : c.new-state.result.version_code ≡ mapped_code c.args.picture.coding.now.q_scale_type c.args.m c.args.slice.now.code =
    one_mapped c.args.picture.coding.now.q_scale_type c.args.m c.args.slice.now.code c.new-state.result.version_code (mapped_code c.args.picture.coding.now.q_scale_type c.args.m c.args.slice.now.code)
    c.new-state.ensures.version_code (mapped_code-is c.args.picture.coding.now.q_scale_type c.args.m c.args.slice.now.code) in
    let macroblocks : c.in_ok-macroblocks.macroblocks ≡ coarsened_macroblocks c.args.picture.seq.now c.args.picture.coding.now c.args.m true c.args.slice.now.code
    (mapped_code c.args.picture.coding.now.q_scale_type c.args.m c.args.slice.now.code) 0 c.args.slice.now.macroblocks =
    c.in_ok-macroblocks.ensures
    ∙ ap (λ ms. coarsened_macroblocks c.args.picture.seq.now c.args.picture.coding.now c.new-state.result.m true c.new-state.result.source_code
    c.new-state.result.version_code c.new-state.result.skipped ms) c.as_slice.ensures
    ∙ ap₂ (λ n k. coarsened_macroblocks c.args.picture.seq.now c.args.picture.coding.now n true k c.new-state.result.version_code c.new-state.result.skipped
    c.args.slice.now.macroblocks) c.new-state.ensures.ratio c.new-state.ensures.source_code
    ∙ ap₂ (λ n k. coarsened_macroblocks c.args.picture.seq.now c.args.picture.coding.now c.args.m true c.args.slice.now.code n k c.args.slice.now.macroblocks) code c.new-state.ensures.skipped in
    ap (λ (n : ℕ). let s : Slice = record { row = c.args.slice.now.row; code = n; info = c.in_ok-info.info; macroblocks = c.in_ok-macroblocks.macroblocks } in s) code
    ∙ ap₂ (λ (info : Option SliceInfo) (ms : List Macroblock). let s : Slice = record {
      row = c.args.slice.now.row;
      code = mapped_code c.args.picture.coding.now.q_scale_type c.args.m c.args.slice.now.code;
      info = info;
      macroblocks = ms;
    } in s)
    c.in_ok-info.ensures macroblocks

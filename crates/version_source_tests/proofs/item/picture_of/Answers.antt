use Rattle.std.proofs.Common.{◌<◌, List, [], length, slice_index_or, sym, ap, subst, ◌∙◌, arith}
use Rattle.program_reader.specs.declared.program.UnitSource.{UnitSource}
use Rattle.version_maker.specs.declared.version.UnitVersion.{UnitVersion}
use Rattle.version_source.specs.Pieces.{video_items}
use Rattle.version_source_tests.proofs.Pieces.{picture-has}
use Rattle.version_source_tests.proofs.item.picture_of.Goals as goal

pub returns : goal.returns
returns c = λ piece within.
    subst (λ (xs : List UnitSource). piece < length (slice_index_or (video_items xs c.args.versions.now c.args.choice.now) c.args.item [])) c.as_slice-units.ensures
    (picture-has c.as_slice-units.result.now c.args.versions.now c.args.choice.now c.args.item piece c.write_video_header-header_bytes.result c.as_slice-own.result.now c.from-index.result
    c.index-own-index.result c.as_slice.result.now _ c.index-versions-item.result (omega (arith, c.if-item-units.false)) (omega (arith, c.if-item-versions.false))
    (omega (arith, c.if-item-choice.false)) (omega (arith, c.if-index-own.false)) (c.as_slice-own.ensures ∙ c.index-versions-item.is) c.from-index.ensures c.index-own-index.is
    c.write_video_header-header_bytes.ensures.length (c.as_slice.ensures ∙ ap (λ (version : UnitVersion). version.bytes) (sym c.index-own-index.is)) within)

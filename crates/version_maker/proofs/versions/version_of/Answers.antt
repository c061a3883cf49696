use Rattle.std.proofs.Common.{ℕ, ◌-◌, ap, arith}
use Rattle.std.specs.Prelude.{slice_index}
use Rattle.std.specs.Option.{option_copied}
use Rattle.picture_reader.proofs.Parts.{are-bytes}
use Rattle.picture_reader.specs.Picture.{IsRefusedAs}
use Rattle.version_maker.specs.Versions.{IsVersionAt}
use Rattle.version_maker.specs.Private.Bytes.{AreCoarserBytesOf, AreSourceBytesOf}
use Rattle.version_maker.proofs.MadeUnits.{first-version, later-version, match-weaker}
use Rattle.version_maker.proofs.versions.version_of.Goals as goal

pub returns-then-index-eq0 : goal.returns-then-index-eq0
returns-then-index-eq0 c =
    let before = option_copied c.args.before in
    let unit = c.args.unit.now in
    let are = are-bytes unit (λ i. omega (arith, c.type_inv.unit i)) in
    match-weaker (AreSourceBytesOf before unit) (IsVersionAt before unit c.args.coarser.now c.args.index) (IsRefusedAs before unit) c.source_version.result
    (λ bytes is. first-version before unit c.args.coarser.now c.args.index bytes c.requires.before are c.if-index-eq0.true is) c.source_version.ensures

pub returns : goal.returns
returns c =
    let before = option_copied c.args.before in
    let unit = c.args.unit.now in
    let coarser = c.args.coarser.now in
    let m : ℕ = slice_index coarser (c.from.result - 1) in
    match-weaker (AreCoarserBytesOf before unit m) (IsVersionAt before unit coarser c.args.index) (IsRefusedAs before unit) c.coarser_bytes.result
    (λ bytes is. later-version before unit coarser c.args.index m bytes c.requires.before (are-bytes unit (λ i. omega (arith, c.type_inv.unit i))) c.if-index-eq0.false c.requires.index
    (ap (λ (n : ℕ). slice_index coarser (n - 1)) c.from.ensures) is) c.coarser_bytes.ensures

use Rattle.std.proofs.Common.{◌∙◌, List, ℕ, sym, subst}
use Rattle.std.specs.Option.{option_copied}
use Rattle.shelf_io.specs.Sink.Told.{Bytes}
use Rattle.version_maker.specs.Private.Bytes.{AreCoarserBytesOf}
use Rattle.version_maker.specs.Private.Making.{IsMadeVersion}
use Rattle.version_maker.proofs.MadeUnits.{made-bytes}
use Rattle.version_maker.proofs.version_write.coarser_bytes.Goals as goal

pub returns-in-Ok : goal.returns-in-Ok
returns-in-Ok c =
    let before = option_copied c.args.before in
    let unit = c.args.unit.now in
    let m = c.args.m in
    subst (AreCoarserBytesOf before unit m) (sym (c.from_vec.ensures ∙ c.into_bytes.ensures))
    (made-bytes before unit m c.make_version.new.to
    (subst (λ (old : List ℕ). IsMadeVersion before unit m (Bytes old) (Bytes c.make_version.new.to)) c.new-sink.ensures c.in-Ok.ensures))

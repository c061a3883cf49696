use Rattle.std.proofs.Common.{ap, arith}
use Rattle.std.specs.Option.{option_copied}
use Rattle.picture_reader.proofs.Parts.{are-bytes}
use Rattle.picture_reader.specs.PictureFault.{refusal_told}
use Rattle.picture_reader.proofs.Units.{fault-of_picture}
use Rattle.version_maker.proofs.MadeUnits.{head-delay, known-version}
use Rattle.version_maker.proofs.versions.first_version_of.Goals as goal

pub source_bytes-requires-clause-delay : goal.source_bytes-requires-clause-delay
source_bytes-requires-clause-delay c =
    let unit = c.args.unit.now in
    head-delay (option_copied c.args.before) unit c.in-Ok.cursor.headers (are-bytes unit (λ i. omega (arith, c.type_inv.unit i))) c.in-Ok.ensures.headed

pub want_of_memory-requires : goal.want_of_memory-requires
want_of_memory-requires c =
    let (picture, whole) = c.requires.picture in
    ap refusal_told (fault-of_picture (option_copied c.args.before) c.args.unit.now c.in-Err.fault c.in-Err.ensures picture whole)

pub returns : goal.returns
returns c =
    let before = option_copied c.args.before in
    let unit = c.args.unit.now in
    let (picture, whole) = c.requires.picture in
    let (head, without, bytes) = c.in_ok-version.ensures in
    known-version before picture unit head c.in_ok-version.version c.in-Ok.cursor.headers c.requires.before (are-bytes unit (λ i. omega (arith, c.type_inv.unit i))) whole
    c.in-Ok.ensures.headed without bytes

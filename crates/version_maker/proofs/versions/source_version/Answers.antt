use Rattle.std.proofs.Common.{length, ap, arith}
use Rattle.std.specs.Option.{option_copied}
use Rattle.std.proofs.lemmas.List.{length-append}
use Rattle.bit_lists.specs.Fields.{AreBytes}
use Rattle.picture_reader.proofs.Parts.{are-bytes}
use Rattle.version_maker.specs.Private.Bytes.{IsHeadOf}
use Rattle.version_maker.proofs.MadeUnits.{head-is, source-delay, source-of}
use Rattle.version_maker.proofs.versions.source_version.Goals as goal

pub source_bytes-requires-clause-within : goal.source_bytes-requires-clause-within
source_bytes-requires-clause-within c =
    let before = option_copied c.args.before in
    let unit = c.args.unit.now in
    let found = c.in-Ok.ensures.ok in
    let are : AreBytes unit = are-bytes unit (λ i. omega (arith, c.type_inv.unit i)) in
    let is : IsHeadOf found.picture unit c.in-Ok.headers.slices_at = head-is before found.picture unit c.in-Ok.headers.slices_at c.requires.before are found.whole found.headed.size in
    omega (arith, is.len, ap length is.begins, length-append found.picture.head is.behind)

pub source_bytes-requires-clause-delay : goal.source_bytes-requires-clause-delay
source_bytes-requires-clause-delay c =
    let before = option_copied c.args.before in
    let unit = c.args.unit.now in
    let found = c.in-Ok.ensures.ok in
    let are : AreBytes unit = are-bytes unit (λ i. omega (arith, c.type_inv.unit i)) in
    let is : IsHeadOf found.picture unit c.in-Ok.headers.slices_at = head-is before found.picture unit c.in-Ok.headers.slices_at c.requires.before are found.whole found.headed.size in
    source-delay found.picture unit c.in-Ok.headers.slices_at is

pub returns : goal.returns
returns c =
    let before = option_copied c.args.before in
    let unit = c.args.unit.now in
    let found = c.in-Ok.ensures.ok in
    let are : AreBytes unit = are-bytes unit (λ i. omega (arith, c.type_inv.unit i)) in
    let (head, without, bytes) = c.in_ok-bytes.ensures in
    source-of before found.picture unit head c.in_ok-bytes.bytes c.in-Ok.headers.slices_at c.requires.before are found.whole found.headed.size without bytes

use Rattle.std.proofs.Common.{length, sym, ap, subst, arith}
use Rattle.std.proofs.lemmas.List.{length-append}
use Rattle.version_maker.specs.Private.Bytes.{AreSourceBytes, IsHeadOf}
use Rattle.version_maker.proofs.MadeUnits.{source-bytes, source-delay}
use Rattle.version_maker.proofs.versions.source_of_picture.Goals as goal

pub source_bytes-requires-clause-within : goal.source_bytes-requires-clause-within
source_bytes-requires-clause-within c =
    let (behind, begins) = c.requires.begins in
    omega (arith, c.len.ensures, ap length begins, length-append c.args.picture.now.head behind)

pub source_bytes-requires-clause-delay : goal.source_bytes-requires-clause-delay
source_bytes-requires-clause-delay c =
    let (behind, begins) = c.requires.begins in
    source-delay c.args.picture.now c.args.unit.now c.len.result (record { lawful = c.requires.lawful; len = sym c.len.ensures; behind = behind; begins = begins })

pub returns : goal.returns
returns c =
    let picture = c.args.picture.now in
    let unit = c.args.unit.now in
    let (behind, begins) = c.requires.begins in
    let is : IsHeadOf picture unit c.len.result = record { lawful = c.requires.lawful; len = sym c.len.ensures; behind = behind; begins = begins } in
    let (head, without, bytes) = c.in_ok-bytes.ensures in
    subst (AreSourceBytes picture unit) (sym bytes) (source-bytes picture unit head c.len.result is without)

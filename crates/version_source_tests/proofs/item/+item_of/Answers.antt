use Rattle.std.proofs.Common.{◌+◌, ◌-◌, ℕ, List, length, ap, arith, rules}
use Rattle.program_reader.specs.declared.program.AudioSource.{AudioSource}
use Rattle.version_source_tests.specs.declared.item.Item.{Item}
use Rattle.version_source_tests.proofs.Pieces.{found-audio, found-later, found-video, later-sendable}
use Rattle.version_source_tests.proofs.item.+item_of.Goals as goal

abbrev size_of : Item → ℕ
size_of it = it.header_bytes + length it.rest.now

pub returns-then-stream-eq0 : goal.returns-then-stream-eq0
returns-then-stream-eq0 t c =
    found-video size_of c.picture_of.result c.args.programs.now c.args.versions.now c.args.choice.now c.args.stream c.args.item c.in-Some.program.now c.in-Some.later.now
    c.in-Some-split_first.own.now c.as_slice.result.now c.in-Some-split_first.more.now c.in-Some.ensures.cases.0 c.in-Some-split_first.ensures.cases.0 c.as_slice.ensures c.if-stream-eq0.true
    c.picture_of.ensures

pub returns-then-stream-audios : goal.returns-then-stream-audios
returns-then-stream-audios t c =
    found-audio size_of c.packet_of.result c.args.programs.now c.args.versions.now c.args.choice.now c.args.stream c.args.item c.in-Some.program.now c.in-Some.later.now
    c.in-Some-split_first.own.now c.in-Some-split_first.more.now c.as_slice-audios.result.now (c.args.stream - 1) c.index-audios-place.result c.in-Some.ensures.cases.0
    c.in-Some-split_first.ensures.cases.0 c.as_slice-audios.ensures (omega (arith, c.if-stream-eq0.false)) (omega (arith, c.if-stream-eq0.false, c.if-stream-audios.true)) c.index-audios-place.is
    c.packet_of.ensures

pub item_of-requires : goal.item_of-requires
item_of-requires t c = (search rules, later-sendable c.args.programs.now c.in-Some.program.now c.in-Some.later.now c.in-Some.ensures.cases.0 c.requires)

pub returns : goal.returns
returns t c =
    found-later size_of c.item_of.result c.args.programs.now c.args.versions.now c.args.choice.now _ c.args.stream (c.args.stream - 1 - length c.as_slice-audios.result.now) c.args.item
    (length c.as_slice-audios.result.now) c.len-units.result c.in-Some.program.now c.in-Some.later.now c.in-Some-split_first.own.now c.in-Some-split_first.more.now c.in-Some.ensures.cases.0
    c.in-Some-split_first.ensures.cases.0 (ap (λ (xs : List AudioSource). length xs) c.as_slice-audios.ensures) (omega (arith, c.if-stream-audios.false)) c.len-units.ensures
    c.split_at.ensures.back c.item_of.ensures

use Rattle.std.proofs.Common.{refl}
use Rattle.program_reader.proofs.SourceLemmas.{ready, source_is}
use Rattle.program_reader.proofs.audio_sources.audio_source.Goals as goal

pub packet_bytes-requires : goal.packet_bytes-requires
packet_bytes-requires c = rw c.as_slice.ensures (ready c.args.clock.now.earliest c.args.stream.now c.args.read.now c.as_slice-packets.result.now c.args.read.now.frames
    c.as_slice-packets.ensures.value refl c.requires.read c.requires.few c.requires.size).count

pub audio_pieces-requires-clause-few : goal.audio_pieces-requires-clause-few
audio_pieces-requires-clause-few c = (ready c.args.clock.now.earliest c.args.stream.now c.args.read.now c.as_slice-packets.result.now c.args.read.now.frames
    c.as_slice-packets.ensures.value refl c.requires.read c.requires.few c.requires.size).few

pub audio_pieces-requires-clause-follow : goal.audio_pieces-requires-clause-follow
audio_pieces-requires-clause-follow c = (ready c.args.clock.now.earliest c.args.stream.now c.args.read.now c.as_slice-packets.result.now c.args.read.now.frames
    c.as_slice-packets.ensures.value refl c.requires.read c.requires.few c.requires.size).follow

pub audio_pieces-requires-clause-times : goal.audio_pieces-requires-clause-times
audio_pieces-requires-clause-times c = (ready c.args.clock.now.earliest c.args.stream.now c.args.read.now c.as_slice-packets.result.now c.as_slice-2.result.now
    c.as_slice-packets.ensures.value c.as_slice-2.ensures c.requires.read c.requires.few c.requires.size).times

pub returns : goal.returns
returns c =
    source_is c.args.clock.now.start c.args.clock.now.earliest c.args.stream.now c.args.read.now c.as_slice.result.now c.as_slice-packets.result.now c.as_slice-2.result.now
    c.in_ok-bytes.bytes c.in_ok-pieces.pieces c.as_slice-packets.ensures.value c.as_slice-2.ensures c.as_slice.ensures c.requires.read
    (ready c.args.clock.now.earliest c.args.stream.now c.args.read.now c.as_slice-packets.result.now c.as_slice-2.result.now c.as_slice-packets.ensures.value c.as_slice-2.ensures
    c.requires.read c.requires.few c.requires.size) c.in_ok-bytes.ensures c.in_ok-pieces.ensures

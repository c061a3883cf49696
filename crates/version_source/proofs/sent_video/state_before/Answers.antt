use Rattle.std.proofs.Common.{◌+◌, arith}
use Rattle.program_reader.proofs.Missing.{no_unit}
use Rattle.version_source.proofs.StateLemmas.{next-behind, one-further}
use Rattle.version_source.proofs.sent_video.state_before.Goals as goal

pub state_behind-requires-clause-picture : goal.state_behind-requires-clause-picture
state_behind-requires-clause-picture c =
    next-behind c.args.es.now c.args.units.now c.loop-k.k c.loop-k.state _ no_unit c.as_ref.ensures.value c.requires.pictures c.loop-k.invariant (omega arith)

pub loop-k-preserved : goal.loop-k-preserved
loop-k-preserved c =
    one-further c.args.es.now c.args.units.now c.loop-k.k (c.loop-k.k + 1) c.loop-k.state _ no_unit c.in_ok-next.next c.as_ref.ensures.value (omega arith) c.loop-k.invariant (omega arith)
    c.in_ok-next.ensures

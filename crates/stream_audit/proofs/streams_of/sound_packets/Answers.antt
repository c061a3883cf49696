use Rattle.std.proofs.Common.{◌∙◌}
use Rattle.stream_audit.proofs.AuditLaws.{wants_memory}
use Rattle.elementary_streams.proofs.CarriedSizes.{places_most}
use Rattle.stream_audit.proofs.streams_of.sound_packets.Goals as goal

pub returns-in-Ok-clause-few : goal.returns-in-Ok-clause-few
returns-in-Ok-clause-few c = places_most c.args.file.now c.args.pid c.in-Ok.places c.in-Ok.ensures.places.places_are c.requires.few

pub returns-in-Err-clause-memory : goal.returns-in-Err-clause-memory
returns-in-Err-clause-memory c = c.demux_stop.ensures ∙ wants_memory c.args.file.now c.args.pid c.in-Err.fault c.requires.sound c.in-Err.ensures.places

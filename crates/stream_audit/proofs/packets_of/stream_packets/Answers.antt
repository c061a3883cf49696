use Rattle.stream_audit.proofs.SystemLaws.{places_below, places_rise}
use Rattle.stream_audit.proofs.packets_of.stream_packets.Goals as goal

pub returns-in-Ok-clause-rise : goal.returns-in-Ok-clause-rise
returns-in-Ok-clause-rise c = places_rise c.args.file.now c.args.pid c.in-Ok.places c.in-Ok.ensures.places.places_are

pub returns-in-Ok-clause-numbers : goal.returns-in-Ok-clause-numbers
returns-in-Ok-clause-numbers c = places_below c.args.file.now c.args.pid c.in-Ok.places c.in-Ok.ensures.places.places_are c.requires.few

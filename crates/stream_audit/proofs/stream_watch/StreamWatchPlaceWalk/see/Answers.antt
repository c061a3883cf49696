use Rattle.stream_audit.proofs.StreamWatching.{arrival-within, taken-more}
use Rattle.stream_audit.proofs.stream_watch.StreamWatchPlaceWalk.see.Goals as goal

pub take-requires : goal.take-requires
take-requires c = arrival-within c.args.place.now c.args.self.now.parts c.arrival-arrival.result c.arrival-arrival.ensures.arrival c.requires.payload

pub returns : goal.returns
returns c = λ start places taken.
    taken-more start c.args.self.now _ places c.args.place.now c.arrival-arrival.result c.arrival-arrival.ensures.arrival c.arrival-arrival.ensures.rest
    (λ slot kind removals given has. c.take.ensures slot kind removals given has) (λ slot subticks given has. c.take-2.ensures slot subticks given has) taken

use Rattle.stream_audit.proofs.ArrivalSteps.{listed-more}
use Rattle.stream_audit.proofs.arrival_pass.ArrivalWalkPlaceWalk.see.Goals as goal

pub returns : goal.returns
returns c = λ start places listed.
    listed-more start c.args.self.now _ places c.args.place.now c.arrival-arrival.result c.arrival-arrival.ensures.arrival c.arrival-arrival.ensures.rest c.requires.payload
    c.is_wanting-self.ensures.before c.is_wanting-self.ensures.added c.is_wanting-self.ensures.headers listed

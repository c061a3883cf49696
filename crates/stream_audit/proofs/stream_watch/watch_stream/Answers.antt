use Rattle.std.proofs.Common.{List, ℕ, ◌∷◌, [], None}
use Rattle.ts_demux.specs.Demux.{AreStreamsSound}
use Rattle.ts_demux.specs.PidPlaces.{places_on}
use Rattle.stream_audit.specs.Findings.{FindsOn}
use Rattle.stream_audit.specs.StreamWatch.{HasTakenStream, brought_stream}
use Rattle.stream_audit.proofs.PlaceSteps.{whole-also}
use Rattle.stream_audit.proofs.StreamWatching.{taken-none}
use Rattle.stream_audit.proofs.stream_watch.watch_stream.Goals as goal

pub pass_places-requires-clause-begins : goal.pass_places-requires-clause-begins
pass_places-requires-clause-begins g c = taken-none c.args.stream

pub returns-clause-clean : goal.returns-clause-clean
returns-clause-clean g c = λ slot kind removals parts begins dues yes.
    let pid = c.args.pid in
    whole-also _ _ _ _ _
    (λ (file : List ℕ). AreStreamsSound file (pid ∷ []) × HasTakenStream c.args.stream (places_on file pid) c.pass_places.new.walk)
    (λ (file : List ℕ). AreStreamsSound file (pid ∷ []) × FindsOn slot (brought_stream file pid kind removals parts) None)
    (λ file has. (has.0, c.is_clean.ensures yes c.args.stream file pid slot kind removals parts has.1 begins dues))
    c.in-Ok.ensures.taken

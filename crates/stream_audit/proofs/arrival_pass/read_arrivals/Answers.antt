use Rattle.std.proofs.Common.{◌≡◌, List, ℕ, ◌∷◌, ◌++◌, [], All, subst, sym, arith}
use Rattle.tstd_model.specs.PacketBytes.{HasHeaderWithin}
use Rattle.ts_demux.specs.Demux.{AreStreamsSound}
use Rattle.ts_demux.specs.PidPlaces.{places_on}
use Rattle.stream_audit.specs.PesBytes.{brought_by_all}
use Rattle.stream_audit.specs.Private.ArrivalPass.{HasListed}
use Rattle.stream_audit.proofs.ArrivalSteps.{listed-all, listed-none, listed-rise}
use Rattle.stream_audit.proofs.PlaceSteps.{whole-also}
use Rattle.stream_audit.proofs.arrival_pass.read_arrivals.Goals as goal

pub pass_places-requires-clause-begins : goal.pass_places-requires-clause-begins
pass_places-requires-clause-begins g c = listed-none _

pub returns-clause-arrivals : goal.returns-clause-arrivals
returns-clause-arrivals g c =
    let pid = c.args.pid in
    let walk = c.pass_places.new.walk in
    whole-also _ _ _ _ _
    (λ (file : List ℕ). AreStreamsSound file (pid ∷ []) × HasListed _ (places_on file pid) walk)
    (λ (file : List ℕ). AreStreamsSound file (pid ∷ []) × (walk.arrivals ≡ brought_by_all (places_on file pid) c.args.parts))
    (λ file has. (has.0, listed-all _ walk (places_on file pid) c.new-arrivals.ensures c.if-wanting.false has.1))
    c.in-Ok.ensures.taken

pub returns-clause-slots : goal.returns-clause-slots
returns-clause-slots g c =
    let whole = c.in-Ok.ensures.taken in
    let walk = c.pass_places.new.walk in
    let file = whole.seen ++ c.pass_places.new.buffer in
    listed-rise walk.arrivals file c.args.pid c.args.parts (listed-all _ walk (places_on file c.args.pid) c.new-arrivals.ensures c.if-wanting.false whole.whole.1)

pub returns-clause-headers : goal.returns-clause-headers
returns-clause-headers g c =
    c.in-Ok.ensures.taken.whole.1.headers (subst (λ arrivals. All HasHeaderWithin arrivals) (sym c.new-arrivals.ensures) (λ k arrival less. absurd (omega (arith, less))))

use Rattle.std.proofs.Common.{◌≡◌, All, List, map, ap, sym, ◌∙◌, subst, arith}
use Rattle.tstd_model.specs.declared.decoder_input.Arrival.{Arrival}
use Rattle.tstd_model.specs.PacketBytes.{HasHeaderWithin}
use Rattle.stream_audit.specs.PesBytes.{brought_by_all}
use Rattle.stream_audit.proofs.ArrivalLaws.{all-found, headers-in, slots-in}
use Rattle.stream_audit.proofs.arrivals.arrivals_in.Goals as goal

pub returns-clause-slots : goal.returns-clause-slots
returns-clause-slots c =
    let places = c.args.places.now in
    let all : c.loop-place.arrivals ≡ brought_by_all places c.args.parts =
    all-found c.loop-place.arrivals places c.args.parts c.loop-place.parts c.loop-place.place-index (omega (arith, c.loop-place-test.false)) c.loop-place.invariant in
    ap (map (λ (a : Arrival). a.slot_no)) all ∙ slots-in places c.args.parts

pub returns-clause-headers : goal.returns-clause-headers
returns-clause-headers c =
    let places = c.args.places.now in
    let all : c.loop-place.arrivals ≡ brought_by_all places c.args.parts =
    all-found c.loop-place.arrivals places c.args.parts c.loop-place.parts c.loop-place.place-index (omega (arith, c.loop-place-test.false)) c.loop-place.invariant in
    subst (λ (found : List Arrival). All HasHeaderWithin found) (sym all) (headers-in places c.args.parts c.requires.payloads)

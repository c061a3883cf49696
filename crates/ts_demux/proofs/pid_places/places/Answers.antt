use Rattle.std.proofs.Common.{◌≡◌, ◌+◌, ◌≤◌, ◌++◌, ◌∷◌, [], All, ap, sym, subst, ◌∙◌, arith}
use Rattle.std.specs.Option.{option_to_list}
use Rattle.stream_constants.specs.declared.packets.TheConstants.{PAYLOAD_BYTES}
use Rattle.ts_packets.specs.TransportStream.{piece_count}
use Rattle.ts_demux.specs.PidPlaces.{AddsPlace, places_before}
use Rattle.ts_demux.proofs.GatherSteps.{sound_more, sound_all}
use Rattle.ts_demux.proofs.pid_places.places.Goals as goal

pub loop-bytes-init : goal.loop-bytes-init
loop-bytes-init c = record {
  most = omega arith;
  pid = c.new-reader.ensures.pid;
  stands = c.new-reader.ensures.stands c.args.file.now;
  sound = λ m fault below is. absurd (omega (arith, below));
  found = c.new-found.ensures;
  fits = subst (λ places. All (λ place. place.payload ≤ PAYLOAD_BYTES) places) (sym c.new-found.ensures) (λ k place less. absurd (omega (arith, less)));
}

pub loop-bytes-preserved : goal.loop-bytes-preserved
loop-bytes-preserved c =
    let was = c.loop-bytes.invariant in
    let file = c.args.file.now in
    let n = c.loop-bytes.n in
    let within = c.in-Some.ensures.some.0 in
    let bytes_are = c.in-Some.ensures.some.1 in
    let adds : AddsPlace file c.args.pid n c.in-Ok.place = subst (λ pid. AddsPlace file pid n c.in-Ok.place) was.pid (c.in-Ok.ensures.taken file within bytes_are was.stands) in
    record {
      most = omega (arith, within);
      pid = c.in-Ok.ensures.pid ∙ was.pid;
      stands = c.in-Ok.ensures.behind file within bytes_are was.stands;
      sound = sound_more file (c.args.pid ∷ []) n was.sound adds.sound;
      fits = c.in_ok-push_found.ensures.fits was.fits c.in-Ok.ensures.fits;
      found = c.in_ok-push_found.ensures.added ∙ ap (λ places. places ++ option_to_list c.in-Ok.place) was.found ∙ sym adds.added;
    }

pub returns-clause-places : goal.returns-clause-places
returns-clause-places c =
    let was = c.loop-bytes.invariant in
    let file = c.args.file.now in
    let end : piece_count file ≤ c.loop-bytes.n = c.packet_at.ensures.none c.in_default.is in
    let all : c.loop-bytes.n ≡ piece_count file = omega (arith, end, was.most) in
    record { sound = sound_all file (c.args.pid ∷ []) c.loop-bytes.n end was.sound; places_are = was.found ∙ ap (places_before file c.args.pid) all }

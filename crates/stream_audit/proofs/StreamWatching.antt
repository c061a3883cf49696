-- A stream whose packets are looked at, one packet further.
use Rattle.std.proofs.Common.{◌≡◌, ℕ, ◌≤◌, List, [], ◌∷◌, ◌++◌, map, take, drop, None, refl, sym, ap, ◌∙◌, subst, arith, append_assoc}
use Rattle.std.specs.List.Sorted.{IsStrictlyIncreasing}
use Rattle.stream_constants.specs.declared.packets.TheConstants.{PAYLOAD_BYTES}
use Rattle.tstd_model.specs.declared.decoder_input.Arrival.{Arrival}
use Rattle.tstd_model.specs.declared.decoder_input.PacketPart.{PacketPart}
use Rattle.tstd_model.specs.declared.decoder_input.BufferKind.{BufferKind}
use Rattle.tstd_model.specs.declared.decoder_input.Removal.{Removal}
use Rattle.tstd_model.specs.Faults.{IsFirstOrNone}
use Rattle.tstd_model.specs.PacketBytes.{HasHeaderWithin}
use Rattle.tstd_model.specs.Decoder.{tb_subticks}
use Rattle.tstd_model.specs.Watch.{HasWatched}
use Rattle.ts_demux.specs.declared.pid_places.Place.{Place}
use Rattle.ts_demux.specs.PidPlaces.{places_on}
use Rattle.stream_audit.specs.declared.stream_watch.StreamWatch.{StreamWatch}
use Rattle.stream_audit.specs.PesBytes.{brought_by, brought_by_all}
use Rattle.stream_audit.specs.BusyWatch.{HasEmptied}
use Rattle.stream_audit.specs.Findings.{FindsOn}
use Rattle.stream_audit.specs.Findings.FindsOn.{clean as nothing}
use Rattle.stream_audit.specs.NeverEmpty.{IsFirstBusy, buffer_with}
use Rattle.stream_audit.specs.StreamWatch.{BeginsStream, HasTakenStream, brought_stream}
use Rattle.stream_audit.proofs.Judging.{busy-of}
use Rattle.stream_audit.proofs.ArrivalLaws.{slots-in, within-one}
use Rattle.stream_audit.proofs.SystemLaws.{places_rise}

pub taken-none : (start : StreamWatch) → HasTakenStream start [] start
taken-none start = record { rest = λ later. refl; watched = λ slot kind removals has. has; emptied = λ slot subticks has. has }

pub arrival-within : (place : Place) (parts : List PacketPart) (arrival : Arrival) → arrival ≡ brought_by place (take place.payload parts) → place.payload ≤ PAYLOAD_BYTES
    → HasHeaderWithin arrival
arrival-within place parts arrival is le = subst HasHeaderWithin (sym is) (within-one place parts (omega (arith, le)))

pub taken-more : (start old new : StreamWatch) (places : List Place) (place : Place) (arrival : Arrival) → arrival ≡ brought_by place (take place.payload old.parts)
    → new.parts ≡ drop place.payload old.parts
    → ((slot : ℕ) (kind : BufferKind) (removals : List Removal) (given : List Arrival) → HasWatched slot kind removals given old.watch → HasWatched slot kind removals (given ++ arrival ∷ []) new.watch)
    → ((slot subticks : ℕ) (given : List Arrival) → HasEmptied slot subticks given old.tb → HasEmptied slot subticks (given ++ arrival ∷ []) new.tb)
    → HasTakenStream start places old → HasTakenStream start (places ++ place ∷ []) new
taken-more start old new places place arrival arrival_is parts_are takes empties was =
    let first = brought_by place (take place.payload old.parts) in
    let brought = brought_by_all places start.parts in
    let whole : brought_by_all (places ++ place ∷ []) start.parts ≡ brought ++ arrival ∷ [] =
    was.rest (place ∷ []) ∙ ap (λ (a : Arrival). brought ++ a ∷ []) (sym arrival_is)
    in
    record {
      rest = λ later.
          ap (λ (l : List Place). brought_by_all l start.parts) (append_assoc places (place ∷ []) later)
          ∙ was.rest (place ∷ later)
          ∙ sym
          (ap (λ (l : List Arrival). l ++ brought_by_all later new.parts) (was.rest (place ∷ []))
          ∙ append_assoc brought (first ∷ []) (brought_by_all later new.parts)
          ∙ ap (λ (ps : List PacketPart). brought ++ first ∷ brought_by_all later ps) parts_are);
      watched = λ slot kind removals begins.
          subst (λ (given : List Arrival). HasWatched slot kind removals given new.watch) (sym whole) (takes slot kind removals brought (was.watched slot kind removals begins));
      emptied = λ slot subticks begins.
          subst (λ (given : List Arrival). HasEmptied slot subticks given new.tb) (sym whole) (empties slot subticks brought (was.emptied slot subticks begins));
    }

-- what the watch is sure of when all packets of the PID have come
pub clean-all : (start stream : StreamWatch) (file : List ℕ) (pid slot : ℕ) (kind : BufferKind) (removals : List Removal) (parts : List PacketPart)
    → HasTakenStream start (places_on file pid) stream → BeginsStream slot kind removals parts start
    → ((given : List Arrival) → HasWatched slot kind removals given stream.watch → IsStrictlyIncreasing (map (λ (a : Arrival). a.slot_no) given) → IsFirstOrNone slot kind given removals None)
    → ((given : List Arrival) → HasEmptied slot (tb_subticks kind) given stream.tb → IsStrictlyIncreasing (map (λ (a : Arrival). a.slot_no) given)
    → IsFirstBusy (buffer_with slot (tb_subticks kind) given) None)
    → FindsOn slot (brought_stream file pid kind removals parts) None
clean-all start stream file pid slot kind removals parts taken begins clean empty =
    let places = places_on file pid in
    let given = brought_by_all places start.parts in
    let rise : IsStrictlyIncreasing (map (λ (a : Arrival). a.slot_no) given) = subst (λ (xs : List ℕ). IsStrictlyIncreasing xs) (sym (slots-in places start.parts)) (places_rise file pid places refl) in
    let arrivals_are : given ≡ brought_by_all places parts = ap (λ (ps : List PacketPart). brought_by_all places ps) begins.parts_are in
    nothing
    (subst (λ (xs : List Arrival). IsFirstOrNone slot kind xs removals None) arrivals_are (clean given (taken.watched slot kind removals begins.watched) rise))
    (busy-of slot kind (tb_subticks kind) (brought_by_all places parts) given None refl arrivals_are (empty given (taken.emptied slot (tb_subticks kind) begins.emptied) rise))
    refl

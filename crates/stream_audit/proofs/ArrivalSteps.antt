-- A list of what packets bring, one packet further.
use Rattle.std.proofs.Common.{◌≡◌, ℕ, ◌≤◌, false, List, [], ◌∷◌, ◌++◌, All, map, take, drop, append-nil, append_assoc, refl, sym, ap, ◌∙◌, subst, arith}
use Rattle.std.specs.List.Sorted.{IsStrictlyIncreasing}
use Rattle.stream_constants.specs.declared.packets.TheConstants.{PAYLOAD_BYTES}
use Rattle.tstd_model.specs.declared.decoder_input.Arrival.{Arrival}
use Rattle.tstd_model.specs.declared.decoder_input.PacketPart.{PacketPart}
use Rattle.tstd_model.specs.PacketBytes.{HasHeaderWithin}
use Rattle.ts_demux.specs.declared.pid_places.Place.{Place}
use Rattle.ts_demux.specs.PidPlaces.{places_on}
use Rattle.stream_audit.specs.declared.arrival_pass.ArrivalWalk.{ArrivalWalk}
use Rattle.stream_audit.specs.PesBytes.{brought_by, brought_by_all}
use Rattle.stream_audit.specs.Private.ArrivalPass.{HasListed}
use Rattle.stream_audit.proofs.ArrivalLaws.{found-more, slots-in, within-one}
use Rattle.stream_audit.proofs.SystemLaws.{places_rise}

pub listed-none : (start : ArrivalWalk) → HasListed start [] start
listed-none start = record { rest = λ _ later. refl; headers = λ within. within }

pub listed-more : (start old new : ArrivalWalk) (places : List Place) (place : Place) (arrival : Arrival) → arrival ≡ brought_by place (take place.payload old.parts)
    → new.parts ≡ drop place.payload old.parts → place.payload ≤ PAYLOAD_BYTES → (new.wanting ≡ false → old.wanting ≡ false) → (new.wanting ≡ false → new.arrivals ≡ old.arrivals ++ arrival ∷ [])
    → (HasHeaderWithin arrival → All HasHeaderWithin old.arrivals → All HasHeaderWithin new.arrivals)
    → HasListed start places old → HasListed start (places ++ place ∷ []) new
listed-more start old new places place arrival arrival_is parts_are le before added within was = record {
  rest = λ none later.
      ap (λ (l : List Place). start.arrivals ++ brought_by_all l start.parts) (append_assoc places (place ∷ []) later)
      ∙ was.rest (before none) (place ∷ later)
      ∙ found-more old.arrivals arrival later old.parts new.parts place arrival_is parts_are
      ∙ ap (λ (l : List Arrival). l ++ brought_by_all later new.parts) (sym (added none));
  headers = λ all. within (subst HasHeaderWithin (sym arrival_is) (within-one place old.parts (omega (arith, le)))) (was.headers all);
}

-- all packets of the PID have come
pub listed-all : (start walk : ArrivalWalk) (places : List Place) → start.arrivals ≡ [] → walk.wanting ≡ false → HasListed start places walk → walk.arrivals ≡ brought_by_all places start.parts
listed-all start walk places empty none listed =
    sym
    (ap (λ (l : List Place). brought_by_all l start.parts) (sym (append-nil places))
    ∙ ap (λ (l : List Arrival). l ++ brought_by_all (places ++ []) start.parts) (sym empty)
    ∙ listed.rest none []
    ∙ append-nil walk.arrivals)

pub listed-rise : (arrivals : List Arrival) (file : List ℕ) (pid : ℕ) (parts : List PacketPart) → arrivals ≡ brought_by_all (places_on file pid) parts
    → IsStrictlyIncreasing (map (λ (a : Arrival). a.slot_no) arrivals)
listed-rise arrivals file pid parts is =
    let places = places_on file pid in
    subst (λ (xs : List ℕ). IsStrictlyIncreasing xs) (sym (ap (λ (l : List Arrival). map (λ (a : Arrival). a.slot_no) l) is ∙ slots-in places parts)) (places_rise file pid places refl)

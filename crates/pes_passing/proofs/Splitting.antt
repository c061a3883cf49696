-- The PES packets that a PID carries, one payload further.
use Rattle.std.proofs.Common.{◌≡◌, ℕ, ◌+◌, ◌<◌, ◌≤◌, Bool, true, false, cond, ◌&&◌, nat_lt, List, [], ◌∷◌, ◌++◌, length, map, Option, Some, None, is_some}
use Rattle.std.proofs.Common.{refl, sym, ap, ◌∙◌, length-append, arith}
use Rattle.std.specs.Option.{option_map, option_to_list}
use Rattle.std.proofs.lemmas.Bool.Decides.{nat_tests}
use Rattle.std.proofs.lemmas.List.{append-nil, map-append}
use Rattle.std.proofs.lemmas.List.Sums.{sum_by-append, sum_by-cons}
use Rattle.bit_lists.specs.Payload.{CarriedPayload, is_start}
use Rattle.pes_units.specs.PesPackets.{Gathered, gathered}
use Rattle.pes_walk.specs.Walk.{begun_in, with_more}
use Rattle.pes_walk.proofs.Walking.{gathered_on, gathered_start, longer, longer_last}
use Rattle.ts_demux.specs.declared.demuxed.PesUnit.{PesUnit}
use Rattle.ts_demux.proofs.Gathering.{unit_of, units_of}
use Rattle.pes_passing.specs.declared.open_packet.OpenPacket.{OpenPacket}
use Rattle.pes_passing.specs.PassingPackets.{AreSplit, begun_packet, size_of}
use Rattle.pes_passing.specs.Private.OpenPacket.{Counts, ended_behind, with_payload}

abbrev as_gathered : PesUnit → Gathered
as_gathered packet = record { at = packet.at; bytes = packet.bytes }

back : (packets : List Gathered) → map as_gathered (map unit_of packets) ≡ packets
back [] = refl
back (packet ∷ packets) = ap (λ (more : List Gathered). packet ∷ more) (back packets)

there : (packets : List PesUnit) → map unit_of (map as_gathered packets) ≡ packets
there [] = refl
there (packet ∷ packets) = ap (λ (more : List PesUnit). packet ∷ more) (there packets)

-- ---- one payload

pub split_start : (xs : List CarriedPayload) (x : CarriedPayload) (ended : List PesUnit) (last : Option PesUnit) → is_start x.payload ≡ true → AreSplit (units_of xs) ended last
    → AreSplit (units_of (xs ++ x ∷ [])) (ended ++ option_to_list last) (Some (begun_packet x.at x.payload.bytes))
split_start xs x ended last start split = record {
  packets = ap (map unit_of) (gathered_start xs x start) ∙ map-append unit_of (gathered xs) (begun_in x ∷ [])
      ∙ ap (λ (packets : List PesUnit). packets ++ begun_packet x.at x.payload.bytes ∷ []) split.packets;
  none = λ no. absurd (let bad : Some (begun_packet x.at x.payload.bytes) ≡ None = no in cc);
}

pub split_on : (xs : List CarriedPayload) (x : CarriedPayload) (ended : List PesUnit) (last : Option PesUnit) → is_start x.payload ≡ false → AreSplit (units_of xs) ended last
    → AreSplit (units_of (xs ++ x ∷ [])) ended (option_map (with_payload x.payload.bytes) last)
split_on xs x ended None start split =
    let none : ended ≡ [] = split.none refl in
    let empty : gathered xs ≡ [] = sym (back (gathered xs)) ∙ ap (map as_gathered) (split.packets ∙ append-nil ended ∙ none) in
    record {
      packets = ap (map unit_of) (gathered_on xs x start ∙ ap (λ (packets : List Gathered). longer packets x) empty) ∙ sym (append-nil ended ∙ none);
      none = split.none;
    }
split_on xs x ended (Some packet) start split =
    let bare : gathered xs ≡ map as_gathered ended ++ as_gathered packet ∷ [] =
    sym (back (gathered xs)) ∙ ap (map as_gathered) split.packets ∙ map-append as_gathered ended (packet ∷ []) in
    record {
      packets = ap (map unit_of)
          (gathered_on xs x start ∙ ap (λ (packets : List Gathered). longer packets x) bare ∙ longer_last (map as_gathered ended) (as_gathered packet) x)
          ∙ map-append unit_of (map as_gathered ended) (with_more x (as_gathered packet) ∷ [])
          ∙ ap (λ (packets : List PesUnit). packets ++ with_payload x.payload.bytes packet ∷ []) (there ended);
      none = λ no. absurd (let bad : Some (with_payload x.payload.bytes packet) ≡ None = no in cc);
    }

-- one that isn't empty
pub split_more : (xs : List CarriedPayload) (x : CarriedPayload) (ended : List PesUnit) (last : Option PesUnit) → 0 < length x.payload.bytes → AreSplit (units_of xs) ended last
    → AreSplit (units_of (xs ++ x ∷ [])) (cond x.payload.start (ended ++ option_to_list last) ended)
    (cond x.payload.start (Some (begun_packet x.at x.payload.bytes)) (option_map (with_payload x.payload.bytes) last))
split_more xs x ended last some split = by_start x.payload.start refl (nat_lt 0 (length x.payload.bytes)) refl
  where
    by_start : (start : Bool) → x.payload.start ≡ start → (full : Bool) → nat_lt 0 (length x.payload.bytes) ≡ full
        → AreSplit (units_of (xs ++ x ∷ [])) (cond start (ended ++ option_to_list last) ended)
        (cond start (Some (begun_packet x.at x.payload.bytes)) (option_map (with_payload x.payload.bytes) last))
    by_start start start_is false full_is = absurd (grind (arith, nat_tests))
    by_start true start_is true full_is = split_start xs x ended last (ap (λ (b : Bool). b && nat_lt 0 (length x.payload.bytes)) start_is ∙ full_is) split
    by_start false start_is true full_is = split_on xs x ended last (ap (λ (b : Bool). b && nat_lt 0 (length x.payload.bytes)) start_is) split

-- ---- what is held and counted

-- those that have ended then
pub ended_is : (start : Bool) (old after : OpenPacket) (ends : Bool) (ended : List PesUnit) → ends ≡ (start && is_some old.held) → Counts ends old after
    → cond start (ended ++ option_to_list old.held) ended ≡ ended_behind ends ended after.held
ended_is start old after ends ended is counts = by_case start old.held refl ends is counts
  where
    by_case : (start : Bool) (held : Option PesUnit) → old.held ≡ held → (ends : Bool) → ends ≡ (start && is_some held) → Counts ends old after
        → cond start (ended ++ option_to_list held) ended ≡ ended_behind ends ended after.held
    by_case true None held_is true is counts = absurd cc
    by_case true None held_is false is counts = append-nil ended
    by_case true (Some packet) held_is true is counts = ap (λ (held : Option PesUnit). ended ++ option_to_list held) (sym (counts.0 ∙ held_is))
    by_case true (Some packet) held_is false is counts = absurd cc
    by_case false held held_is true is counts = absurd cc
    by_case false held held_is false is counts = refl

-- they are counted
pub counted : (start : Bool) (old after : OpenPacket) (ends : Bool) (ended : List PesUnit) → ends ≡ (start && is_some old.held) → Counts ends old after
    → old.count ≡ length ended → (after.count ≡ length (ended_behind ends ended after.held)) × (after.count ≤ old.count + 1)
counted start old after ends ended is counts count = by_case start old.held refl ends is counts
  where
    by_case : (start : Bool) (held : Option PesUnit) → old.held ≡ held → (ends : Bool) → ends ≡ (start && is_some held) → Counts ends old after
        → (after.count ≡ length (ended_behind ends ended after.held)) × (after.count ≤ old.count + 1)
    by_case true None held_is true is counts = absurd cc
    by_case true (Some packet) held_is true is counts =
        let held : after.held ≡ Some packet = counts.0 ∙ held_is in
        let size : length (ended_behind true ended after.held) ≡ length ended + 1 = ap (λ (h : Option PesUnit). length (ended ++ option_to_list h)) held ∙ length-append ended (packet ∷ []) in
        (omega (arith, counts.1, count, size), omega (arith, counts.1))
    by_case false held held_is true is counts = absurd cc
    by_case start held held_is false is counts = (counts.1 ∙ count, omega (arith, counts.1))

-- ---- how many bytes they have

open_size : (last : Option PesUnit) (payload : List ℕ) → size_of (option_to_list (option_map (with_payload payload) last)) ≤ size_of (option_to_list last) + length payload
open_size None payload = omega arith
open_size (Some packet) payload =
    omega (arith, sum_by-cons (λ (p : PesUnit). length p.bytes) (with_payload payload packet) [], sum_by-cons (λ (p : PesUnit). length p.bytes) packet [], length-append packet.bytes payload)

pub sized : (start : Bool) (at : ℕ) (payload : List ℕ) (ended : List PesUnit) (last : Option PesUnit)
    → size_of (cond start (ended ++ option_to_list last) ended ++ option_to_list (cond start (Some (begun_packet at payload)) (option_map (with_payload payload) last)))
    ≤ size_of (ended ++ option_to_list last) + length payload
sized true at payload ended last =
    omega (
      arith,
      sum_by-append (λ (p : PesUnit). length p.bytes) (ended ++ option_to_list last) (begun_packet at payload ∷ []),
      sum_by-cons (λ (p : PesUnit). length p.bytes) (begun_packet at payload) [],
    )
sized false at payload ended last =
    omega (
      arith,
      sum_by-append (λ (p : PesUnit). length p.bytes) ended (option_to_list (option_map (with_payload payload) last)),
      sum_by-append (λ (p : PesUnit). length p.bytes) ended (option_to_list last),
      open_size last payload,
    )

-- The packets of PID 0 and of a map's PID, packet by packet.
use Rattle.std.proofs.Common.{◌≡◌, ℕ, ◌+◌, ◌<◌, ◌≤◌, ◌^◌, Bool, true, false, cond, ◌||◌, List, [], ◌∷◌, ◌++◌, map, filter, length, Option, Some, None, IfSome, All, refl, sym, ap, subst, ◌∙◌, arith}
use Rattle.std.specs.List.{range_with_len}
use Rattle.std.specs.List.Sorted.{IsNonDecreasing, IsStrictlyIncreasing}
use Rattle.std.specs.Option.{option_or, option_to_list}
use Rattle.std.proofs.lemmas.Bool.Decides.{nat_tests}
use Rattle.std.proofs.lemmas.List.{append_cancel_left, map-append, map-id}
use Rattle.std.proofs.lemmas.List.Elements.{All-cons, All-filter, All-head, All-nil, All-tail}
use Rattle.std.proofs.lemmas.List.FromFn.{get_or-range_with_len, length-range_with_len}
use Rattle.std.proofs.lemmas.List.Kept.{IsStrictlyIncreasing-filter}
use Rattle.std.proofs.lemmas.Simd.{map-map}
use Rattle.ts_packets.specs.Packet.{packet_identifier}
use Rattle.ts_packets.specs.TransportStream.{is_of_pid, piece_at, piece_count}
use Rattle.tstd_model.specs.Decoder.{IsInLevel}
use Rattle.tstd_model.specs.PacketBytes.{HasHeaderWithin}
use Rattle.tstd_model.specs.declared.decoder_input.Arrival.{Arrival}
use Rattle.ts_demux.specs.declared.pid_places.Place.{Place}
use Rattle.ts_demux.specs.PidPlaces.{AddsPlace, place_at, places_before, places_on}
use Rattle.ts_demux.specs.Tables.{pat_pid}
use Rattle.ts_demux.proofs.PlaceSteps.{numbers_more, places_behind}
use Rattle.stream_audit.specs.declared.audited_stream.AuditedStream.{AuditedStream}
use Rattle.stream_audit.specs.Findings.{CanBeJudged}
use Rattle.stream_audit.specs.Streams.{place_of, section_arrival, system_before, system_places, system_stream}

-- ---- one packet

-- what the reader of a PID finds in it
found_on : (file : List ℕ) (pid n : ℕ) (found : Option Place) → AddsPlace file pid n found → option_to_list found ≡ map (place_at file pid) (cond (is_of_pid file pid n) (n ∷ []) [])
found_on file pid n found adds =
    append_cancel_left (places_before file pid n) (option_to_list found) (map (place_at file pid) (cond (is_of_pid file pid n) (n ∷ []) []))
    (sym adds.added ∙ places_behind file pid n (is_of_pid file pid n) refl)

-- on the PID that it is of its place is that of its number
own_place : (file : List ℕ) (pid n : ℕ) (is : Bool) → is_of_pid file pid n ≡ is → map (place_at file pid) (cond is (n ∷ []) []) ≡ cond is (place_of file n ∷ []) []
own_place file pid n true is =
    let same : packet_identifier (piece_at file n) ≡ pid = grind (arith, nat_tests) in
    ap (λ (p : ℕ). place_at file p n ∷ []) (sym same)
own_place file pid n false is = refl

one_of : (file : List ℕ) (n : ℕ) (is : Bool) → cond is (place_of file n ∷ []) [] ≡ map (place_of file) (cond is (n ∷ []) [])
one_of file n true = refl
one_of file n false = refl

-- what either of two finds
either : (one other : Option Place) (is_one is_other : Bool) (place : Place) → option_to_list one ≡ cond is_one (place ∷ []) [] → option_to_list other ≡ cond is_other (place ∷ []) [] →
    option_to_list (option_or one other) ≡ cond (is_one || is_other) (place ∷ []) []
either (Some found) other true is_other place first second = first
either (Some found) other false is_other place first second = absurd cc
either None other true is_other place first second = absurd cc
either None other false is_other place first second = second

pub section_found : (file : List ℕ) (map_pid n : ℕ) (pat_found map_found : Option Place) → AddsPlace file pat_pid n pat_found → AddsPlace file map_pid n map_found →
    option_to_list (option_or pat_found map_found) ≡ map (place_of file) (cond (is_of_pid file pat_pid n || is_of_pid file map_pid n) (n ∷ []) [])
section_found file map_pid n pat_found map_found pat map_adds =
    either pat_found map_found (is_of_pid file pat_pid n) (is_of_pid file map_pid n) (place_of file n)
    (found_on file pat_pid n pat_found pat ∙ own_place file pat_pid n (is_of_pid file pat_pid n) refl)
    (found_on file map_pid n map_found map_adds ∙ own_place file map_pid n (is_of_pid file map_pid n) refl)
    ∙ one_of file n (is_of_pid file pat_pid n || is_of_pid file map_pid n)

-- ---- one packet further

pub sections_more : (file : List ℕ) (map_pid n : ℕ) (found : Option Place) →
    option_to_list found ≡ map (place_of file) (cond (is_of_pid file pat_pid n || is_of_pid file map_pid n) (n ∷ []) []) →
    system_before file map_pid (n + 1) ≡ system_before file map_pid n ++ option_to_list found
sections_more file map_pid n found is =
    let of_it : ℕ → Bool = λ k. is_of_pid file pat_pid k || is_of_pid file map_pid k in
    ap (map (place_of file)) (numbers_more of_it n (of_it n) refl)
    ∙ map-append (place_of file) (filter of_it (range_with_len 0 n)) (cond (of_it n) (n ∷ []) [])
    ∙ ap (λ (more : List Place). system_before file map_pid n ++ more) (sym is)

-- the number of a packet that is found
abbrev number_of : List Place → ℕ
number_of [] = 0
number_of (place ∷ places) = place.packet

pub found_few : (file : List ℕ) (n most : ℕ) (is : Bool) (found : Option Place) → option_to_list found ≡ map (place_of file) (cond is (n ∷ []) []) → n < most →
    IfSome found (λ place. place.packet < most)
found_few file n most true (Some found) there less = let same : found.packet ≡ n = ap number_of there in omega (arith, same, less)
found_few file n most false (Some found) there less = absurd cc
found_few file n most is None there less = tt

-- ---- packet numbers rise

numbers_rise : (n : ℕ) → IsStrictlyIncreasing (range_with_len 0 n)
numbers_rise n k less =
    let size = length-range_with_len 0 n in
    let here = get_or-range_with_len 0 n k 0 (omega (arith, less, size)) in
    let next = get_or-range_with_len 0 n (k + 1) 0 (omega (arith, less, size)) in
    omega (arith, here, next)

pub kept_rise : (p : ℕ → Bool) (n : ℕ) → IsStrictlyIncreasing (filter p (range_with_len 0 n))
kept_rise p n = IsStrictlyIncreasing-filter p (range_with_len 0 n) (numbers_rise n)

system_slots : (file : List ℕ) (map_pid : ℕ) → map (λ arrival. arrival.slot_no) (map section_arrival (system_places file map_pid))
    ≡ filter (λ k. is_of_pid file pat_pid k || is_of_pid file map_pid k) (range_with_len 0 (piece_count file))
system_slots file map_pid =
    let numbers = filter (λ k. is_of_pid file pat_pid k || is_of_pid file map_pid k) (range_with_len 0 (piece_count file)) in
    map-map (λ (arrival : Arrival). arrival.slot_no) section_arrival (map (place_of file) numbers)
    ∙ map-map (λ (place : Place). place.packet) (place_of file) numbers
    ∙ map-id numbers

pub system_judged : (file : List ℕ) (map_pid : ℕ) (stream : AuditedStream) → stream ≡ system_stream file map_pid → All HasHeaderWithin stream.arrivals → CanBeJudged stream
system_judged file map_pid stream is headers = record {
  in_level = subst (λ (s : AuditedStream). IsInLevel s.kind) (sym is) tt;
  slots_rise = subst IsStrictlyIncreasing (sym (ap (λ (s : AuditedStream). map (λ arrival. arrival.slot_no) s.arrivals) is ∙ system_slots file map_pid))
      (kept_rise (λ k. is_of_pid file pat_pid k || is_of_pid file map_pid k) (piece_count file));
  headers_within = headers;
  few = subst (λ (s : AuditedStream). length s.removals < 2 ^ 32) (sym is) (omega arith);
  dues_rise = subst (λ (s : AuditedStream). IsNonDecreasing (map (λ removal. removal.due) s.removals)) (sym is) (λ i j d le less. absurd (omega (arith, less)));
  dues_fit = subst (λ (s : AuditedStream). All (λ removal. removal.due ≤ 2 ^ 53) s.removals) (sym is) (λ k removal less. absurd (omega (arith, less)));
}

-- ---- the packets of one PID

numbers_of : (file : List ℕ) (pid : ℕ) → map (λ place. place.packet) (places_on file pid) ≡ filter (is_of_pid file pid) (range_with_len 0 (piece_count file))
numbers_of file pid =
    let numbers = filter (is_of_pid file pid) (range_with_len 0 (piece_count file)) in
    map-map (λ (place : Place). place.packet) (place_at file pid) numbers ∙ map-id numbers

pub places_rise : (file : List ℕ) (pid : ℕ) (places : List Place) → places ≡ places_on file pid → IsStrictlyIncreasing (map (λ place. place.packet) places)
places_rise file pid places is =
    subst IsStrictlyIncreasing (sym (ap (λ (ps : List Place). map (λ place. place.packet) ps) is ∙ numbers_of file pid)) (kept_rise (is_of_pid file pid) (piece_count file))

below_count : (n : ℕ) → All (λ number. number < n) (range_with_len 0 n)
below_count n k d less =
    let size = length-range_with_len 0 n in
    let here = get_or-range_with_len 0 n k d (omega (arith, less, size)) in
    omega (arith, here, less, size)

placed_below : (file : List ℕ) (pid n : ℕ) (numbers : List ℕ) → All (λ number. number < n) numbers → All (λ place. place.packet < n) (map (place_at file pid) numbers)
placed_below file pid n [] below = All-nil (λ (place : Place). place.packet < n)
placed_below file pid n (number ∷ numbers) below =
    All-cons (λ (place : Place). place.packet < n) (place_at file pid number) (map (place_at file pid) numbers) (All-head (λ (k : ℕ). k < n) number numbers below)
    (placed_below file pid n numbers (All-tail (λ (k : ℕ). k < n) number numbers below))

pub places_below : (file : List ℕ) (pid : ℕ) (places : List Place) → places ≡ places_on file pid → piece_count file ≤ 2 ^ 32 → All (λ place. place.packet < 2 ^ 32) places
places_below file pid places is few =
    let all = placed_below file pid (piece_count file) (filter (is_of_pid file pid) (range_with_len 0 (piece_count file)))
    (All-filter (is_of_pid file pid) (λ (k : ℕ). k < piece_count file) (range_with_len 0 (piece_count file)) (below_count (piece_count file))) in
    subst (All (λ (place : Place). place.packet < 2 ^ 32)) (sym is) (λ k d less. (let below = all k d less in omega (arith, below, few)))

-- What is found by the walks over a decoder is what its definitions say.
use Rattle.std.proofs.Common.{◌≡◌, ℕ, zero, suc, ◌+◌, ◌-◌, ◌<◌, ◌≤◌, List, [], ◌∷◌, ◌++◌, length, drop, map, filter, replicate, refl, sym, ◌∙◌, ap, arith, subst, Option, Some, None, slice_get, All}
use Rattle.std.proofs.lemmas.Option.{same_Some}
use Rattle.std.proofs.lemmas.List.Elements.{All-cons}
use Rattle.std.specs.List.Sorted.{IsStrictlyIncreasing}
use Rattle.stream_constants.specs.declared.decoder.TheConstants.{TB_BYTES, MB_SUBTICKS, VIDEO_BYTES, AUDIO_BYTES, SYSTEM_BYTES, SYSTEM_SUBTICKS}
use Rattle.tstd_model.specs.declared.packet_bytes.PacketByte.{PacketByte}
use Rattle.tstd_model.specs.declared.passing.Wanted.{Wanted}
use Rattle.tstd_model.specs.declared.passing.Wanted.TheVariants.{Payload, DataAlone}
use Rattle.tstd_model.specs.Instants.{departures, departures_into}
use Rattle.tstd_model.specs.PacketBytes.{Arrival, PacketPart, HasHeaderWithin, parts, byte_subticks, arrives, kept, with_headers}
use Rattle.tstd_model.specs.Decoder.{
  BufferKind,
  Video,
  Audio,
  System,
  Removal,
  tb_subticks,
  leave_tb,
  payload_passes,
  data_passes,
  removed,
  eb_bytes,
  eb_rooms,
  moves,
  transport_buffer,
  is_removed,
  completes,
}
use Rattle.tstd_model.specs.Faults.{TstdFault, hold_subticks}
use Rattle.tstd_model.specs.Private.Cursors.{Gives, bytes_of_all, passed, instants_of, parts_in, bytes_with, is_wanted}
use Rattle.tstd_model.specs.Private.Scans.{RemovedByte, taken_from, first_over, first_late, first_old}
use Rattle.tstd_model.specs.Private.Walks.{main_buffer, first_excess, earlier, excess_found, late_found, old_found, IsEarliest}
use Rattle.tstd_model.proofs.RisingLaws.{Rising, Rising-from}
use Rattle.tstd_model.proofs.CursorLaws.{bytes_of_all-parts, bytes_of_all-instants, passed-instants, bytes_with-parts, bytes_with-instants, taken-instants}

-- ---- the cursors
pub bytes-arrive : (slot step : ℕ) (arrivals : List Arrival) (bytes : List PacketByte) → step ≡ byte_subticks slot → All HasHeaderWithin arrivals → bytes ≡ bytes_of_all step arrivals
    → instants_of bytes ≡ arrives slot arrivals
bytes-arrive slot step arrivals bytes step_is fit is =
    ap instants_of is ∙ ap (λ s. instants_of (bytes_of_all s arrivals)) step_is ∙ bytes_of_all-instants slot arrivals fit

pub bytes-belong : (step : ℕ) (arrivals : List Arrival) (bytes : List PacketByte) → bytes ≡ bytes_of_all step arrivals → parts_in bytes ≡ parts arrivals
bytes-belong step arrivals bytes is = ap parts_in is ∙ bytes_of_all-parts step arrivals

pub bytes-leave_tb : (slot s : ℕ) (kind : BufferKind) (arrivals : List Arrival) (bytes : List PacketByte) → s ≡ tb_subticks kind → instants_of bytes ≡ arrives slot arrivals
    → instants_of (passed s 0 bytes) ≡ leave_tb slot kind arrivals
unfolding leave_tb
bytes-leave_tb slot s kind arrivals bytes s_is come =
    passed-instants s 0 bytes ∙ ap (λ (l : List ℕ). departures s 0 l) come ∙ ap (λ n. departures n 0 (arrives slot arrivals)) s_is

pub bytes-pass : (wanted : Wanted) (ps : List PacketPart) (leave : List ℕ) (bytes : List PacketByte) → parts_in bytes ≡ ps → instants_of bytes ≡ leave
    → instants_of (bytes_with (is_wanted wanted) bytes) ≡ kept (is_wanted wanted) ps leave
bytes-pass wanted ps leave bytes belong instants =
    bytes_with-instants (is_wanted wanted) bytes
    ∙ ap (λ (l : List PacketPart). kept (is_wanted wanted) l (instants_of bytes)) belong
    ∙ ap (λ (l : List ℕ). kept (is_wanted wanted) ps l) instants

payload-is : (slot : ℕ) (kind : BufferKind) (arrivals : List Arrival) → kept (is_wanted Payload) (parts arrivals) (leave_tb slot kind arrivals) ≡ payload_passes slot kind arrivals
unfolding payload_passes
payload-is slot kind arrivals = refl

pub moves-are : (slot vbv free : ℕ) (kind : BufferKind) (arrivals : List Arrival) (removals : List Removal) (rooms comes : List ℕ) (taken : List RemovedByte) → kind ≡ Video vbv
    → free ≡ eb_bytes vbv → taken ≡ taken_from 0 removals → rooms ≡ replicate free 0 ++ map (λ b. b.at) taken → comes ≡ kept (is_wanted DataAlone) (parts arrivals) (leave_tb slot kind arrivals)
    → departures_into rooms MB_SUBTICKS 0 comes ≡ moves slot vbv arrivals removals
unfolding moves data_passes eb_rooms
moves-are slot vbv free kind arrivals removals rooms comes taken kind_is free_is taken_is rooms_are comes_are =
    ap (λ (l : List ℕ). departures_into l MB_SUBTICKS 0 comes)
    (
    rooms_are
    ∙ ap (λ n. replicate n 0 ++ map (λ (b : RemovedByte). b.at) taken) free_is
    ∙ ap (λ (l : List RemovedByte). replicate (eb_bytes vbv) 0 ++ map (λ (b : RemovedByte). b.at) l) taken_is
    ∙ ap (λ (l : List ℕ). replicate (eb_bytes vbv) 0 ++ l) (taken-instants 0 removals)
    )
    ∙ ap (λ (l : List ℕ). departures_into (eb_rooms vbv removals) MB_SUBTICKS 0 l) (comes_are ∙ ap (λ k. kept (is_wanted DataAlone) (parts arrivals) (leave_tb slot k arrivals)) kind_is)

-- ---- buffers
pub tb_excess-is : (slot : ℕ) (kind : BufferKind) (arrivals : List Arrival) (found : Option ℕ) (ins outs : List ℕ) → ins ≡ arrives slot arrivals → outs ≡ leave_tb slot kind arrivals
    → found ≡ first_over (drop TB_BYTES ins) outs → found ≡ first_excess (transport_buffer slot kind arrivals)
tb_excess-is slot kind arrivals found ins outs ins_are outs_are found_is =
    found_is ∙ ap (λ (l : List ℕ). first_over (drop TB_BYTES l) outs) ins_are ∙ ap (λ (l : List ℕ). first_over (drop TB_BYTES (arrives slot arrivals)) l) outs_are

-- the buffer behind TB, of a known kind
over_of : (slot : ℕ) (kind kind' : BufferKind) (arrivals : List Arrival) (removals : List Removal) (size : ℕ) (found : Option ℕ) (ins outs : List ℕ) → kind ≡ kind'
    → ins ≡ kept (is_wanted Payload) (parts arrivals) (leave_tb slot kind arrivals) → found ≡ first_over (drop size ins) outs
    → found ≡ first_over (drop size (payload_passes slot kind' arrivals)) outs
over_of slot kind kind' arrivals removals size found ins outs kind_is ins_are found_is =
    found_is
    ∙ ap (λ (l : List ℕ). first_over (drop size l) outs) (ins_are ∙ payload-is slot kind arrivals ∙ ap (λ k. payload_passes slot k arrivals) kind_is)

pub video_excess-is : (slot vbv eb : ℕ) (kind : BufferKind) (arrivals : List Arrival) (removals : List Removal) (found : Option ℕ) (ins outs moving : List ℕ) (bytes : List PacketByte)
    → kind ≡ Video vbv → eb ≡ eb_bytes vbv → ins ≡ kept (is_wanted Payload) (parts arrivals) (leave_tb slot kind arrivals) → parts_in bytes ≡ parts arrivals
    → moving ≡ moves slot vbv arrivals removals → outs ≡ with_headers (parts_in bytes) moving → found ≡ first_over (drop (VIDEO_BYTES - eb) ins) outs
    → found ≡ first_excess (main_buffer slot kind arrivals removals)
video_excess-is slot vbv eb kind arrivals removals found ins outs moving bytes kind_is eb_is ins_are belong moving_are outs_are found_is =
    over_of slot kind (Video vbv) arrivals removals (VIDEO_BYTES - eb) found ins outs kind_is ins_are found_is
    ∙ ap (λ n. first_over (drop (VIDEO_BYTES - n) (payload_passes slot (Video vbv) arrivals)) outs) eb_is
    ∙ ap (λ (l : List ℕ). first_over (drop (VIDEO_BYTES - eb_bytes vbv) (payload_passes slot (Video vbv) arrivals)) l)
    (outs_are ∙ ap (λ (l : List PacketPart). with_headers l moving) belong ∙ ap (λ (l : List ℕ). with_headers (parts arrivals) l) moving_are)
    ∙ sym (ap (λ k. first_excess (main_buffer slot k arrivals removals)) kind_is)

pub audio_excess-is : (slot : ℕ) (kind : BufferKind) (arrivals : List Arrival) (removals : List Removal) (found : Option ℕ) (ins : List ℕ) (taken : List RemovedByte) → kind ≡ Audio
    → ins ≡ kept (is_wanted Payload) (parts arrivals) (leave_tb slot kind arrivals) → taken ≡ taken_from 0 removals → found ≡ first_over (drop AUDIO_BYTES ins) (map (λ b. b.at) taken)
    → found ≡ first_excess (main_buffer slot kind arrivals removals)
audio_excess-is slot kind arrivals removals found ins taken kind_is ins_are taken_are found_is =
    over_of slot kind Audio arrivals removals AUDIO_BYTES found ins (map (λ (b : RemovedByte). b.at) taken) kind_is ins_are found_is
    ∙ ap (λ (l : List ℕ). first_over (drop AUDIO_BYTES (payload_passes slot Audio arrivals)) l) (ap (λ (l : List RemovedByte). map (λ b. b.at) l) taken_are ∙ taken-instants 0 removals)
    ∙ sym (ap (λ k. first_excess (main_buffer slot k arrivals removals)) kind_is)

pub system_leak-is : (slot : ℕ) (kind : BufferKind) (arrivals : List Arrival) (comes : List ℕ) → kind ≡ System → comes ≡ kept (is_wanted Payload) (parts arrivals) (leave_tb slot kind arrivals)
    → departures SYSTEM_SUBTICKS 0 comes ≡ departures SYSTEM_SUBTICKS 0 (payload_passes slot System arrivals)
system_leak-is slot kind arrivals comes kind_is comes_are =
    ap (λ (l : List ℕ). departures SYSTEM_SUBTICKS 0 l) (comes_are ∙ payload-is slot kind arrivals ∙ ap (λ k. payload_passes slot k arrivals) kind_is)

pub system_excess-is : (slot : ℕ) (kind : BufferKind) (arrivals : List Arrival) (removals : List Removal) (found : Option ℕ) (ins outs comes : List ℕ) → kind ≡ System
    → ins ≡ kept (is_wanted Payload) (parts arrivals) (leave_tb slot kind arrivals) → comes ≡ kept (is_wanted Payload) (parts arrivals) (leave_tb slot kind arrivals)
    → outs ≡ departures SYSTEM_SUBTICKS 0 comes → found ≡ first_over (drop SYSTEM_BYTES ins) outs → found ≡ first_excess (main_buffer slot kind arrivals removals)
system_excess-is slot kind arrivals removals found ins outs comes kind_is ins_are comes_are outs_are found_is =
    over_of slot kind System arrivals removals SYSTEM_BYTES found ins outs kind_is ins_are found_is
    ∙ ap (λ (l : List ℕ). first_over (drop SYSTEM_BYTES (payload_passes slot System arrivals)) l) (outs_are ∙ system_leak-is slot kind arrivals comes kind_is comes_are)
    ∙ sym (ap (λ k. first_excess (main_buffer slot k arrivals removals)) kind_is)

-- ---- removals
late_of : (slot : ℕ) (kind kind' : BufferKind) (arrivals : List Arrival) (removals : List Removal) (found : Option RemovedByte) (comes : List ℕ) (taken : List RemovedByte) → kind ≡ kind'
    → comes ≡ completes slot kind' arrivals removals → taken ≡ taken_from 0 removals → found ≡ first_late comes taken → found ≡ late_found slot kind arrivals removals
late_of slot kind kind' arrivals removals found comes taken kind_is comes_are taken_are found_is =
    found_is
    ∙ ap (λ (l : List ℕ). first_late l taken) comes_are
    ∙ ap (λ (l : List RemovedByte). first_late (completes slot kind' arrivals removals) l) taken_are
    ∙ sym (ap (λ k. late_found slot k arrivals removals) kind_is)

pub video_late-is : (slot vbv : ℕ) (kind : BufferKind) (arrivals : List Arrival) (removals : List Removal) (found : Option RemovedByte) (comes : List ℕ) (taken : List RemovedByte)
    → kind ≡ Video vbv → comes ≡ moves slot vbv arrivals removals → taken ≡ taken_from 0 removals → found ≡ first_late comes taken → found ≡ late_found slot kind arrivals removals
video_late-is slot vbv kind arrivals removals found comes taken kind_is comes_are taken_are found_is =
    late_of slot kind (Video vbv) arrivals removals found comes taken kind_is comes_are taken_are found_is

pub audio_late-is : (slot : ℕ) (kind : BufferKind) (arrivals : List Arrival) (removals : List Removal) (found : Option RemovedByte) (comes : List ℕ) (taken : List RemovedByte) → kind ≡ Audio
    → comes ≡ kept (is_wanted Payload) (parts arrivals) (leave_tb slot kind arrivals) → taken ≡ taken_from 0 removals → found ≡ first_late comes taken
    → found ≡ late_found slot kind arrivals removals
audio_late-is slot kind arrivals removals found comes taken kind_is comes_are taken_are found_is =
    late_of slot kind Audio arrivals removals found comes taken kind_is
    (comes_are ∙ payload-is slot kind arrivals ∙ ap (λ k. payload_passes slot k arrivals) kind_is)
    taken_are found_is

first_late-first : (found : Option RemovedByte) (before after : List RemovedByte) → Gives found before after → found ≡ first_late [] before
unfolding first_late
first_late-first None before after gives = sym (ap (λ (l : List RemovedByte). first_late [] l) gives.0)
first_late-first (Some byte) before after gives = sym (ap (λ (l : List RemovedByte). first_late [] l) gives)

pub system_late-is : (slot : ℕ) (kind : BufferKind) (arrivals : List Arrival) (removals : List Removal) (found : Option RemovedByte) (taken after : List RemovedByte) → kind ≡ System
    → taken ≡ taken_from 0 removals → Gives found taken after → found ≡ late_found slot kind arrivals removals
system_late-is slot kind arrivals removals found taken after kind_is taken_are gives =
    late_of slot kind System arrivals removals found [] taken kind_is refl taken_are (first_late-first found taken after gives)

-- ---- bytes that are held
old_of : (slot : ℕ) (wanted : Wanted) (arrivals : List Arrival) (removals : List Removal) (found : Option ℕ) (bytes : List PacketByte) (taken : List RemovedByte)
    → instants_of bytes ≡ arrives slot arrivals → parts_in bytes ≡ parts arrivals → taken ≡ taken_from 0 removals
    → found ≡ first_old hold_subticks (parts_in (bytes_with (is_wanted wanted) bytes)) (instants_of (bytes_with (is_wanted wanted) bytes)) (map (λ b. b.at) taken)
    → found ≡ first_old hold_subticks (filter (is_wanted wanted) (parts arrivals)) (kept (is_wanted wanted) (parts arrivals) (arrives slot arrivals)) (removed removals)
old_of slot wanted arrivals removals found bytes taken come belong taken_are found_is =
    let ps = filter (is_wanted wanted) (parts arrivals) in
    let those = bytes_with (is_wanted wanted) bytes in
    found_is
    ∙ ap (λ (l : List PacketPart). first_old hold_subticks l (instants_of those) (map (λ (b : RemovedByte). b.at) taken))
    (bytes_with-parts (is_wanted wanted) bytes ∙ ap (λ (l : List PacketPart). filter (is_wanted wanted) l) belong)
    ∙ ap (λ (l : List ℕ). first_old hold_subticks ps l (map (λ (b : RemovedByte). b.at) taken)) (bytes-pass wanted (parts arrivals) (arrives slot arrivals) bytes belong come)
    ∙ ap (λ (l : List ℕ). first_old hold_subticks ps (kept (is_wanted wanted) (parts arrivals) (arrives slot arrivals)) l)
    (ap (λ (l : List RemovedByte). map (λ b. b.at) l) taken_are ∙ taken-instants 0 removals)

pub video_old-is : (slot vbv : ℕ) (kind : BufferKind) (arrivals : List Arrival) (removals : List Removal) (found : Option ℕ) (bytes : List PacketByte) (taken : List RemovedByte)
    → kind ≡ Video vbv → instants_of bytes ≡ arrives slot arrivals → parts_in bytes ≡ parts arrivals → taken ≡ taken_from 0 removals
    → found ≡ first_old hold_subticks (parts_in (bytes_with (is_wanted DataAlone) bytes)) (instants_of (bytes_with (is_wanted DataAlone) bytes)) (map (λ b. b.at) taken)
    → found ≡ old_found slot kind arrivals removals
video_old-is slot vbv kind arrivals removals found bytes taken kind_is come belong taken_are found_is =
    old_of slot DataAlone arrivals removals found bytes taken come belong taken_are found_is ∙ sym (ap (λ k. old_found slot k arrivals removals) kind_is)

pub audio_old-is : (slot : ℕ) (kind : BufferKind) (arrivals : List Arrival) (removals : List Removal) (found : Option ℕ) (bytes : List PacketByte) (taken : List RemovedByte)
    → kind ≡ Audio → instants_of bytes ≡ arrives slot arrivals → parts_in bytes ≡ parts arrivals → taken ≡ taken_from 0 removals
    → found ≡ first_old hold_subticks (parts_in (bytes_with (is_wanted Payload) bytes)) (instants_of (bytes_with (is_wanted Payload) bytes)) (map (λ b. b.at) taken)
    → found ≡ old_found slot kind arrivals removals
audio_old-is slot kind arrivals removals found bytes taken kind_is come belong taken_are found_is =
    old_of slot Payload arrivals removals found bytes taken come belong taken_are found_is ∙ sym (ap (λ k. old_found slot k arrivals removals) kind_is)

filter-none : (ps : List PacketPart) → filter (λ part. is_removed System part) ps ≡ []
filter-none [] = refl
filter-none (part ∷ ps) = filter-none ps

pub system_old-is : (slot : ℕ) (kind : BufferKind) (arrivals : List Arrival) (removals : List Removal) → kind ≡ System → None ≡ old_found slot kind arrivals removals
unfolding first_old
system_old-is slot kind arrivals removals kind_is =
    sym (ap (λ k. old_found slot k arrivals removals) kind_is
    ∙ ap (λ (l : List PacketPart). first_old hold_subticks l (kept (is_removed System) (parts arrivals) (arrives slot arrivals))
    (removed removals)) (filter-none (parts arrivals)))

-- ---- the last packet
pub below-last : (least k : ℕ) (arrivals : List Arrival) (last : Arrival) → Rising least (map (λ a. a.slot_no) arrivals) → suc k ≡ length arrivals → slice_get arrivals k ≡ Some last
    → (least ≤ last.slot_no) × All (λ a. a.slot_no < last.slot_no + 1) arrivals
below-last least k [] last rise is there = absurd (omega arith)
below-last least zero (arrival ∷ []) last rise is there =
    let same : arrival ≡ last = same_Some arrival last there in
    let slot : arrival.slot_no ≡ last.slot_no = ap (λ a. a.slot_no) same in
    (omega (arith, rise.0), All-cons (λ (a : Arrival). a.slot_no < last.slot_no + 1) arrival [] (omega arith) (λ i d within. absurd (omega arith)))
below-last least (suc k) (arrival ∷ []) last rise is there = absurd (omega arith)
below-last least zero (arrival ∷ other ∷ arrivals) last rise is there = absurd (omega arith)
below-last least (suc k) (arrival ∷ other ∷ arrivals) last rise is there =
    let later = below-last (arrival.slot_no + 1) k (other ∷ arrivals) last rise.1 (omega arith) there in
    (omega (arith, rise.0, later.0), All-cons (λ (a : Arrival). a.slot_no < last.slot_no + 1) arrival (other ∷ arrivals) (omega (arith, later.0)) later.1)

pub slots-below_last : (arrivals : List Arrival) (last : Arrival) → IsStrictlyIncreasing (map (λ a. a.slot_no) arrivals) → 0 < length arrivals → slice_get arrivals (length arrivals - 1) ≡ Some last
    → All (λ a. a.slot_no < last.slot_no + 1) arrivals
slots-below_last arrivals last rise some there =
    (below-last 0 (length arrivals - 1) arrivals last (Rising-from (map (λ a. a.slot_no) arrivals) rise) (omega arith) there).1

-- ---- all together
pub earliest-of : (slot : ℕ) (kind : BufferKind) (arrivals : List Arrival) (removals : List Removal) (fault : Option TstdFault) (late : Option RemovedByte) (tb main over old : Option ℕ)
    → late ≡ late_found slot kind arrivals removals → tb ≡ first_excess (transport_buffer slot kind arrivals) → main ≡ first_excess (main_buffer slot kind arrivals removals)
    → over ≡ earlier tb main → old ≡ old_found slot kind arrivals removals → IsEarliest late over old fault
    → IsEarliest (late_found slot kind arrivals removals) (excess_found slot kind arrivals removals) (old_found slot kind arrivals removals) fault
earliest-of slot kind arrivals removals fault late tb main over old late_is tb_is main_is over_is old_is first =
    subst (λ o. IsEarliest (late_found slot kind arrivals removals) (excess_found slot kind arrivals removals) o fault) old_is
    (subst (λ x. IsEarliest (late_found slot kind arrivals removals) x old fault)
    (over_is ∙ ap (λ t. earlier t main) tb_is ∙ ap (λ m. earlier (first_excess (transport_buffer slot kind arrivals)) m) main_is)
    (subst (λ l. IsEarliest l over old fault) late_is first))

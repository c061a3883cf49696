-- TB and the main buffer of sections after one more packet of sections.
use Rattle.std.proofs.Common.{◌≡◌, ℕ, ◌+◌, ◌*◌, ◌≤◌, List, [], ◌∷◌, ◌++◌, length, max, refl, inl, ◌∙◌, arith}
use Rattle.stream_constants.specs.declared.packets.TheConstants.{PACKET_BYTES, PAYLOAD_BYTES}
use Rattle.stream_constants.specs.declared.decoder.TheConstants.{TB_BYTES, SYSTEM_TB_SUBTICKS, SYSTEM_SUBTICKS, SYSTEM_BYTES}
use Rattle.slot_rule.specs.Buffers.{slot_subticks}
use Rattle.tstd_model.specs.declared.decoder_input.Arrival.{Arrival}
use Rattle.tstd_model.specs.Instants.{spaced, departures}
use Rattle.tstd_model.specs.PacketBytes.{HasHeaderWithin, byte_subticks, parts_of, is_payload, arrives}
use Rattle.tstd_model.specs.Private.Server.{last_departure, latest_work, Spaced, EachWithin}
use Rattle.tstd_model.proofs.RisingLaws.{kept-rises, length-spaced}
use Rattle.tstd_model.proofs.Server.{departures-append, last_departure-append, last_departure-is, length-departures}
use Rattle.tstd_bridge.proofs.ArrivalRows.{arrives-push}
use Rattle.tstd_bridge.proofs.AudioB.{passes_of}
use Rattle.tstd_bridge.proofs.KeptBytes.{departures-from, length-kept_whole}
use Rattle.tstd_bridge.proofs.MbHolds.{departures-late}
use Rattle.tstd_bridge.proofs.MbService.{IsServed, last_departure-kept}
use Rattle.tstd_bridge.proofs.SectionRows.{section_of, HaveParts, packet_comes, packet_passes, passes_of-push}
use Rattle.tstd_bridge.proofs.TbService.{departures-packet, latest_work-spaced, EachWithin-append}

-- when TB and the main buffer are free
abbrev pub tb_free_of : (slot : ℕ) → List Arrival → ℕ
tb_free_of slot arrivals = last_departure SYSTEM_TB_SUBTICKS 0 (arrives slot arrivals)

abbrev pub sections_pass : (slot : ℕ) → List Arrival → List ℕ
sections_pass slot arrivals = passes_of slot SYSTEM_TB_SUBTICKS arrivals

abbrev pub main_free_of : (slot : ℕ) → List Arrival → ℕ
main_free_of slot arrivals = last_departure SYSTEM_SUBTICKS 0 (sections_pass slot arrivals)

-- subticks that a packet takes to leave TB, and its payload to leave the main buffer
abbrev pub packet_work : ℕ
packet_work = SYSTEM_TB_SUBTICKS * PACKET_BYTES

abbrev pub payload_work : ℕ
payload_work = SYSTEM_SUBTICKS * PAYLOAD_BYTES

pub section_fits : (n : ℕ) → HasHeaderWithin (section_of n)
section_fits n = (omega arith, omega arith)

pub tb_after : (slot n : ℕ) (arrivals : List Arrival) → byte_subticks slot ≤ SYSTEM_TB_SUBTICKS
    → tb_free_of slot (arrivals ++ section_of n ∷ []) ≤ max (n * slot_subticks slot) (tb_free_of slot arrivals) + packet_work
tb_after slot n arrivals quick =
    let first = PACKET_BYTES * n * byte_subticks slot in
    let step = byte_subticks slot in
    let ts = SYSTEM_TB_SUBTICKS in
    let free = tb_free_of slot arrivals in
    let closed : last_departure ts free (spaced first step PACKET_BYTES) ≡ max (free + ts * PACKET_BYTES) (latest_work ts (spaced first step PACKET_BYTES)) =
    rw (last_departure-is ts free (spaced first step PACKET_BYTES), length-spaced first step PACKET_BYTES) refl in
    rw (arrives-push slot arrivals (section_of n), last_departure-append ts 0 (arrives slot arrivals) (spaced first step PACKET_BYTES))
    (omega (arith, closed, latest_work-spaced ts step ts first PACKET_BYTES (omega arith) quick))

pub main_after : (slot n most : ℕ) (arrivals : List Arrival) → HaveParts slot arrivals → byte_subticks slot ≤ SYSTEM_TB_SUBTICKS
    → main_free_of slot arrivals + payload_work ≤ most → max (n * slot_subticks slot) (tb_free_of slot arrivals) + packet_work + payload_work ≤ most
    → (n + 1) * slot_subticks slot + SYSTEM_TB_SUBTICKS + payload_work ≤ most
    → main_free_of slot (arrivals ++ section_of n ∷ []) ≤ most
main_after slot n most arrivals has quick own busy_most end_most =
    let first = PACKET_BYTES * n * byte_subticks slot in
    let step = byte_subticks slot in
    let ts = SYSTEM_TB_SUBTICKS in
    let free = tb_free_of slot arrivals in
    let main = main_free_of slot arrivals in
    let busy = max (n * slot_subticks slot) free + packet_work in
    let end = first + step * PACKET_BYTES in
    let come = packet_comes slot (section_of n) in
    let passes = packet_passes slot ts free (section_of n) in
    let served : IsServed ts free first step PACKET_BYTES busy end = (inl (omega arith), λ _. omega arith, omega arith) in
    let as_many : length passes ≡ PAYLOAD_BYTES =
    length-kept_whole (section_of n) (departures ts free come) (section_fits n) (length-departures ts free come ∙ length-spaced first step PACKET_BYTES) in
    rw (passes_of-push slot ts arrivals (section_of n) has, last_departure-append SYSTEM_SUBTICKS 0 (sections_pass slot arrivals) passes)
    (last_departure-kept is_payload (parts_of (section_of n)) SYSTEM_SUBTICKS main ts free first step PACKET_BYTES busy end PAYLOAD_BYTES most served as_many
    (omega (arith, own)) (omega (arith, busy_most)) (omega (arith, end_most)))

-- each byte leaves TB soon after it comes, and the main buffer too
abbrev pub TbSoon : (slot : ℕ) → List Arrival → Type 0
TbSoon slot arrivals = EachWithin (TB_BYTES * SYSTEM_TB_SUBTICKS) (departures SYSTEM_TB_SUBTICKS 0 (arrives slot arrivals)) (arrives slot arrivals)

abbrev pub MainSoon : (slot : ℕ) → List Arrival → Type 0
MainSoon slot arrivals = EachWithin (SYSTEM_BYTES * SYSTEM_SUBTICKS) (departures SYSTEM_SUBTICKS 0 (sections_pass slot arrivals)) (sections_pass slot arrivals)

pub tb_soon_after : (slot n : ℕ) (arrivals : List Arrival) → tb_free_of slot arrivals ≤ n * slot_subticks slot + packet_work → TbSoon slot arrivals → TbSoon slot (arrivals ++ section_of n ∷ [])
tb_soon_after slot n arrivals busy before =
    let first = PACKET_BYTES * n * byte_subticks slot in
    let step = byte_subticks slot in
    let ts = SYSTEM_TB_SUBTICKS in
    let delay = TB_BYTES * SYSTEM_TB_SUBTICKS in
    let come = arrives slot arrivals in
    let own = spaced first step PACKET_BYTES in
    let free = tb_free_of slot arrivals in
    rw (arrives-push slot arrivals (section_of n), departures-append ts 0 come own)
    (EachWithin-append delay (departures ts 0 come) come (departures ts free own) own before
    (departures-packet ts free first step PACKET_BYTES packet_work delay (omega (arith, busy)) (omega arith)))

pub main_soon_after : (slot n : ℕ) (arrivals : List Arrival) → HaveParts slot arrivals → main_free_of slot arrivals ≤ n * slot_subticks slot + packet_work + payload_work
    → MainSoon slot arrivals → MainSoon slot (arrivals ++ section_of n ∷ [])
main_soon_after slot n arrivals has busy before =
    let first = PACKET_BYTES * n * byte_subticks slot in
    let step = byte_subticks slot in
    let ts = SYSTEM_TB_SUBTICKS in
    let q = SYSTEM_SUBTICKS in
    let delay = SYSTEM_BYTES * SYSTEM_SUBTICKS in
    let free = tb_free_of slot arrivals in
    let main = main_free_of slot arrivals in
    let come = packet_comes slot (section_of n) in
    let pass = sections_pass slot arrivals in
    let own = packet_passes slot ts free (section_of n) in
    let as_many : length own ≡ PAYLOAD_BYTES =
    length-kept_whole (section_of n) (departures ts free come) (section_fits n) (length-departures ts free come ∙ length-spaced first step PACKET_BYTES) in
    let low : Spaced 0 first own = kept-rises is_payload first (parts_of (section_of n)) (departures ts free come) (departures-from ts free first step PACKET_BYTES) in
    let soon : EachWithin delay (departures q main own) own =
    departures-late q main first (packet_work + payload_work) delay own low (omega (arith, busy)) (omega (arith, as_many)) in
    rw (passes_of-push slot ts arrivals (section_of n) has, departures-append q 0 pass own)
    (EachWithin-append delay (departures q 0 pass) pass (departures q main own) own before soon)

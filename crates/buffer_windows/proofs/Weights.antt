-- What a window charges for a unit, packet by packet, and what it counts of an audio stream.
use Rattle.std.proofs.Common.{◌≡◌, ℕ, zero, suc, ◌+◌, ◌-◌, ◌*◌, ◌/◌, ◌≤◌, Bool, true, false, cond, nat_le, nat_lt, ◌==◌, ◌&&◌, ◌||◌, List, [], ◌∷◌, ◌++◌, length, map, take, drop, replicate, sum, sum_by, count_by, refl, ap, ◌∙◌, arith}
use Rattle.std.specs.List.{enumerate_from, zip}
use Rattle.std.specs.Int.{div_ceil}
use Rattle.std.proofs.lemmas.List.Folds.{sum_by-replicate}
use Rattle.std.proofs.lemmas.List.Sums.{sum_by-cons, sum_by-append, sum_by_push}
use Rattle.stream_constants.specs.declared.packets.TheConstants.{PAYLOAD_BYTES}
use Rattle.version_table.specs.declared.table.AudioPacket.{AudioPacket}
use Rattle.version_table.specs.declared.table.Unit.{Unit as CodedUnit}
use Rattle.version_table.specs.Choice.{version_at}
use Rattle.slot_rule.specs.declared.queued_packet.QueuedPacket.{QueuedPacket}
use Rattle.slot_rule.specs.Queues.{payloads, unit_packets}
use Rattle.slot_rule.proofs.RuleQueues.{audio_packet}
use Rattle.slot_rule.proofs.RuleUnits.{length-payloads, piece_of}
use Rattle.slot_rule.proofs.RuleVideo.{packets_from}
use Rattle.buffer_windows.specs.declared.windows.BufferWindow.{BufferWindow}
use Rattle.buffer_windows.specs.Charges.{OwnedUnit, charged_bytes as charge}
use Rattle.buffer_windows.specs.Room.{is_counted}
use Rattle.buffer_windows.specs.Windows.{is_fresh, is_held, stop}
use Rattle.buffer_windows.proofs.Rows.{IsWithinSlot}

-- ---- whole packets, bytes or nothing
-- what is charged, by how a unit lies to the window
abbrev pub pick : (within fresh in_time held : Bool) (whole bytes : ℕ) → ℕ
pick within fresh in_time held whole bytes = cond within (cond fresh (cond in_time whole bytes) (cond held bytes 0)) 0

pick-add : (within fresh in_time held : Bool) (whole more bytes others : ℕ)
    → pick within fresh in_time held (whole + more) (bytes + others) ≡ pick within fresh in_time held whole bytes + pick within fresh in_time held more others
pick-add false fresh in_time held whole more bytes others = refl
pick-add true true true held whole more bytes others = refl
pick-add true true false held whole more bytes others = refl
pick-add true false in_time true whole more bytes others = refl
pick-add true false in_time false whole more bytes others = refl

pick-le : (within fresh in_time held : Bool) (whole more bytes : ℕ) → whole ≤ more → pick within fresh in_time held whole bytes ≤ pick within fresh in_time held more bytes
pick-le false fresh in_time held whole more bytes le = omega arith
pick-le true true true held whole more bytes le = le
pick-le true true false held whole more bytes le = omega arith
pick-le true false in_time true whole more bytes le = omega arith
pick-le true false in_time false whole more bytes le = omega arith

pick-none : (within fresh in_time held : Bool) → pick within fresh in_time held 0 0 ≡ 0
pick-none false fresh in_time held = refl
pick-none true true true held = refl
pick-none true true false held = refl
pick-none true false in_time true = refl
pick-none true false in_time false = refl

pick-most : (within fresh in_time held : Bool) (whole bytes : ℕ) → bytes ≤ whole → pick within fresh in_time held whole bytes ≤ whole
pick-most false fresh in_time held whole bytes le = omega arith
pick-most true true true held whole bytes le = omega arith
pick-most true true false held whole bytes le = le
pick-most true false in_time true whole bytes le = le
pick-most true false in_time false whole bytes le = omega arith

-- what is counted of a program's packet
abbrev pub video_weight : (slot : ℕ) → BufferWindow → (program : ℕ) → QueuedPacket → ℕ
video_weight slot window program packet =
    pick (nat_le packet.due window.due) (is_fresh slot window packet.due) (nat_le (stop slot packet.due) window.tail) (is_held slot window program packet.due) PAYLOAD_BYTES packet.payload

-- an audio packet that is due then is counted
abbrev pub counted_due : (slot : ℕ) → BufferWindow → (due : ℕ) → Bool
counted_due slot window due = nat_le due window.due && nat_le (stop slot due) window.tail && ((window.first == 0) || nat_lt (window.first * slot) due)

-- what is counted of an audio packet
abbrev pub audio_weight : (slot : ℕ) → BufferWindow → QueuedPacket → ℕ
audio_weight slot window packet = cond (counted_due slot window packet.due) PAYLOAD_BYTES 0

pub video_weight-most : (slot : ℕ) (window : BufferWindow) (program : ℕ) → IsWithinSlot (video_weight slot window program)
video_weight-most slot window program packet small =
    pick-most (nat_le packet.due window.due) (is_fresh slot window packet.due) (nat_le (stop slot packet.due) window.tail) (is_held slot window program packet.due) PAYLOAD_BYTES packet.payload small

one_at_most : (b : Bool) → cond b PAYLOAD_BYTES 0 ≤ PAYLOAD_BYTES
one_at_most true = omega arith
one_at_most false = omega arith

pub audio_weight-most : (slot : ℕ) (window : BufferWindow) → IsWithinSlot (audio_weight slot window)
audio_weight-most slot window packet small = one_at_most (counted_due slot window packet.due)

-- ---- the packets of one unit
pub sum-payloads : (bytes : ℕ) → sum (payloads bytes) ≡ bytes
sum-payloads bytes =
    let full = (bytes - 1) / PAYLOAD_BYTES in
    omega (
      arith,
      sum_by_push (λ x. x) (replicate ((bytes - 1) / PAYLOAD_BYTES) PAYLOAD_BYTES) (bytes - PAYLOAD_BYTES * ((bytes - 1) / PAYLOAD_BYTES)),
      sum_by-replicate (λ x. x) ((bytes - 1) / PAYLOAD_BYTES) PAYLOAD_BYTES,
    )

-- what is picked for a packet of a program that is due then
abbrev pick_due : (slot : ℕ) → BufferWindow → (program due : ℕ) → (whole part : ℕ) → ℕ
pick_due slot window program due whole part =
    pick (nat_le due window.due) (is_fresh slot window due) (nat_le (stop slot due) window.tail) (is_held slot window program due) whole part

pieces_weight : (slot : ℕ) (window : BufferWindow) (program item due piece : ℕ) (list : List ℕ)
    → sum_by (video_weight slot window program) (map (λ (n, payload). piece_of item due n payload) (enumerate_from piece list))
    ≡ pick_due slot window program due (PAYLOAD_BYTES * length list) (sum list)
pieces_weight slot window program item due piece [] =
    let none : 0 ≡ pick_due slot window program due 0 0 =
    omega (arith, pick-none (nat_le due window.due) (is_fresh slot window due) (nat_le (stop slot due) window.tail) (is_held slot window program due)) in none
pieces_weight slot window program item due piece (payload ∷ list) =
    let within = nat_le due window.due in
    let fresh = is_fresh slot window due in
    let in_time = nat_le (stop slot due) window.tail in
    let held = is_held slot window program due in
    let make : ℕ × ℕ → QueuedPacket = λ (n, payload). piece_of item due n payload in
    let whole : PAYLOAD_BYTES + PAYLOAD_BYTES * length list ≡ PAYLOAD_BYTES * length (payload ∷ list) = omega arith in
    let total : payload + sum list ≡ sum (payload ∷ list) = omega (arith, sum_by-cons (λ x. x) payload list) in
    sum_by-cons (video_weight slot window program) (piece_of item due piece payload) (map (λ (n, payload). piece_of item due n payload) (enumerate_from (piece + 1) list))
    ∙ ap (λ n. video_weight slot window program (piece_of item due piece payload) + n) (pieces_weight slot window program item due (piece + 1) list)
    ∙ (let joined : pick_due slot window program due PAYLOAD_BYTES payload
    + pick_due slot window program due (PAYLOAD_BYTES * length list) (sum list)
    ≡ pick_due slot window program due (PAYLOAD_BYTES + PAYLOAD_BYTES * length list) (payload + sum list) =
    omega (arith, pick-add within fresh in_time held PAYLOAD_BYTES (PAYLOAD_BYTES * length list) payload (sum list)) in joined)
    ∙ ap (λ n. pick_due slot window program due n (payload + sum list)) whole
    ∙ ap (λ n. pick_due slot window program due (PAYLOAD_BYTES * length (payload ∷ list)) n) total

-- a unit is charged what is counted of its packets, at most
unit_charge : (slot : ℕ) (window : BufferWindow) (program item due bytes : ℕ)
    → charge slot window program due bytes ≤ sum_by (video_weight slot window program) (unit_packets item due bytes)
unit_charge slot window program item due bytes =
    let within = nat_le due window.due in
    let fresh = is_fresh slot window due in
    let in_time = nat_le (stop slot due) window.tail in
    let held = is_held slot window program due in
    let more : PAYLOAD_BYTES * div_ceil bytes PAYLOAD_BYTES ≤ PAYLOAD_BYTES * length (payloads bytes) = omega (arith, length-payloads bytes) in
    let rises : pick_due slot window program due (PAYLOAD_BYTES * div_ceil bytes PAYLOAD_BYTES) bytes
    ≤ pick_due slot window program due (PAYLOAD_BYTES * length (payloads bytes)) bytes =
    pick-le within fresh in_time held (PAYLOAD_BYTES * div_ceil bytes PAYLOAD_BYTES) (PAYLOAD_BYTES * length (payloads bytes)) bytes more in
    let total : pick_due slot window program due (PAYLOAD_BYTES * length (payloads bytes)) (sum (payloads bytes))
    ≡ pick_due slot window program due (PAYLOAD_BYTES * length (payloads bytes)) bytes =
    ap (λ n. pick_due slot window program due (PAYLOAD_BYTES * length (payloads bytes)) n) (sum-payloads bytes) in
    let weighed : sum_by (video_weight slot window program) (unit_packets item due bytes)
    ≡ pick_due slot window program due (PAYLOAD_BYTES * length (payloads bytes)) (sum (payloads bytes)) =
    pieces_weight slot window program item due 0 (payloads bytes) in
    let goal : pick_due slot window program due (PAYLOAD_BYTES * div_ceil bytes PAYLOAD_BYTES) bytes
    ≤ sum_by (video_weight slot window program) (unit_packets item due bytes) = omega (arith, rises, total, weighed) in
    goal

-- ---- the units of a program
-- a unit of the program
abbrev pub own : (program vbv : ℕ) → CodedUnit → OwnedUnit
own program vbv unit = record { program = program; vbv = vbv; unit = unit }

-- what a unit with the number of its version is charged
abbrev pub unit_charged : (slot : ℕ) → BufferWindow → OwnedUnit × ℕ → ℕ
unit_charged slot window chosen = charge slot window chosen.0.program chosen.0.unit.due (version_at chosen.0.unit chosen.1).bytes

pub program_charges : (slot : ℕ) (window : BufferWindow) (program vbv item : ℕ) (units : List CodedUnit) (choice : List ℕ)
    → sum_by (unit_charged slot window) (zip (map (own program vbv) units) choice) ≤ sum_by (video_weight slot window program) (packets_from item units choice)
program_charges slot window program vbv item [] choice = omega arith
program_charges slot window program vbv item (unit ∷ units) [] = omega arith
program_charges slot window program vbv item (unit ∷ units) (k ∷ choice) =
    let packets = unit_packets item unit.due (version_at unit k).bytes in
    omega (
      arith,
      sum_by-cons (unit_charged slot window) (own program vbv unit, k) (zip (map (own program vbv) units) choice),
      sum_by-append (video_weight slot window program) packets (packets_from (item + 1) units choice),
      unit_charge slot window program item unit.due (version_at unit k).bytes,
      program_charges slot window program vbv (item + 1) units choice,
    )

pub zip-append : (units more : List OwnedUnit) (choice : List ℕ) → zip (units ++ more) choice ≡ zip units choice ++ zip more (drop (length units) choice)
zip-append [] more choice = refl
zip-append (unit ∷ units) [] [] = refl
zip-append (unit ∷ units) (other ∷ more) [] = refl
zip-append (unit ∷ units) more (k ∷ choice) = ap (λ (rest : List (OwnedUnit × ℕ)). (unit, k) ∷ rest) (zip-append units more choice)

-- ---- the packets of an audio stream, by number
abbrev pub numbered : (first : ℕ) → List AudioPacket → List QueuedPacket
numbered first packets = map audio_packet (enumerate_from first packets)

pub take-numbered : (first k : ℕ) (packets : List AudioPacket) → take k (numbered first packets) ≡ numbered first (take k packets)
take-numbered first zero [] = refl
take-numbered first zero (packet ∷ packets) = refl
take-numbered first (suc k) [] = refl
take-numbered first (suc k) (packet ∷ packets) = ap (λ (rest : List QueuedPacket). audio_packet (first, packet) ∷ rest) (take-numbered (first + 1) k packets)

-- a sum over an audio stream's packets that doesn't ask for their numbers
pub sum-numbered : (of_packet : QueuedPacket → ℕ) (of_audio : AudioPacket → ℕ) → ((n : ℕ) (packet : AudioPacket) → of_packet (audio_packet (n, packet)) ≡ of_audio packet)
    → (first : ℕ) (packets : List AudioPacket) → sum_by of_packet (numbered first packets) ≡ sum_by of_audio packets
sum-numbered of_packet of_audio same first [] = refl
sum-numbered of_packet of_audio same first (packet ∷ packets) =
    omega (
      arith,
      sum_by-cons of_packet (audio_packet (first, packet)) (numbered (first + 1) packets),
      sum_by-cons of_audio packet packets,
      same first packet,
      sum-numbered of_packet of_audio same (first + 1) packets,
    )

whole_for_each : (slot : ℕ) (window : BufferWindow) (packets : List AudioPacket)
    → sum_by (λ (packet : AudioPacket). cond (is_counted slot window packet) PAYLOAD_BYTES 0) packets ≡ PAYLOAD_BYTES * count_by (is_counted slot window) packets
whole_for_each slot window [] = refl
whole_for_each slot window (packet ∷ packets) =
    omega (
      arith,
      sum_by-cons (λ (p : AudioPacket). cond (is_counted slot window p) PAYLOAD_BYTES 0) packet packets,
      sum_by-cons (λ (p : AudioPacket). cond (is_counted slot window p) 1 0) packet packets,
      scaled (is_counted slot window packet),
      whole_for_each slot window packets,
    )
  where
    scaled : (b : Bool) → cond b PAYLOAD_BYTES 0 ≡ PAYLOAD_BYTES * cond b 1 0
    scaled true = refl
    scaled false = refl

-- a whole payload for each packet that is counted
pub audio_counted : (slot : ℕ) (window : BufferWindow) (first : ℕ) (packets : List AudioPacket)
    → sum_by (audio_weight slot window) (numbered first packets) ≡ PAYLOAD_BYTES * count_by (is_counted slot window) packets
audio_counted slot window first packets =
    sum-numbered (audio_weight slot window) (λ (packet : AudioPacket). cond (is_counted slot window packet) PAYLOAD_BYTES 0) (λ n packet. refl) first packets
    ∙ whole_for_each slot window packets

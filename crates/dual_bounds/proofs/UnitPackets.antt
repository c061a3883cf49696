-- The packets of a choice that are due in a window, unit by unit, and the audio packets.
use Rattle.std.proofs.Common.{◌≡◌, ℕ, ◌+◌, ◌≤◌, Bool, true, false, cond, List, [], ◌∷◌, ◌++◌, length, map, drop, count_by, sum_by, refl, ap, inl, inr, arith}
use Rattle.std.specs.List.{enumerate_from, flat_map, zip}
use Rattle.std.specs.Int.{div_ceil}
use Rattle.std.proofs.lemmas.Bool.{cases_Bool}
use Rattle.std.proofs.lemmas.List.FromFn.{length-enumerate_from}
use Rattle.std.proofs.lemmas.List.Sums.{sum_by-cons, sum_by-append}
use Rattle.stream_constants.specs.declared.packets.TheConstants.{PAYLOAD_BYTES}
use Rattle.version_table.specs.declared.table.AudioPacket.{AudioPacket}
use Rattle.version_table.specs.declared.table.ProgramRow.{ProgramRow}
use Rattle.version_table.specs.declared.table.Table.{Table}
use Rattle.version_table.specs.declared.table.Unit.{Unit as CodedUnit}
use Rattle.version_table.specs.Choice.{version_at}
use Rattle.version_table.specs.Table.{units_of}
use Rattle.slot_rule.specs.declared.queued_packet.QueuedPacket.{QueuedPacket}
use Rattle.slot_rule.specs.Queues.{Queue, audio_of, payloads, queues_from, queues_of, unit_packets, video_queue}
use Rattle.slot_rule.proofs.RuleQueues.{audio_packet, units_in}
use Rattle.slot_rule.proofs.RuleUnits.{length-payloads}
use Rattle.slot_rule.proofs.RuleVideo.{packets_from}
use Rattle.dual_bounds.specs.Room.{is_within, audio_due}
use Rattle.dual_bounds.specs.Values.{packet_count}
use Rattle.dual_bounds.proofs.Carried.{due_in, due_in_queues}

-- a unit with the number of its version
abbrev pub Chosen : Type 0
Chosen = CodedUnit × ℕ

-- the packets of a unit in its version, where it is due in the window
abbrev pub packets_due : (from due : ℕ) → Chosen → ℕ
packets_due from due chosen = cond (is_within from due chosen.0.due) (packet_count (version_at chosen.0 chosen.1)) 0

-- ---- the packets of one unit
-- elements that all give one answer
count_alike : {X Y : Type 0} (test : Y → Bool) (make : X → Y) (answer : Bool) → ((x : X) → test (make x) ≡ answer) → (xs : List X)
    → count_by test (map make xs) ≡ cond answer (length xs) 0
count_alike test make true alike [] = refl
count_alike test make false alike [] = refl
count_alike test make true alike (x ∷ xs) =
    let here : cond (test (make x)) 1 0 ≡ 1 = ap {B = ℕ} (λ b. cond b 1 0) (alike x) in
    omega (arith, sum_by-cons (λ y. cond (test y) 1 0) (make x) (map make xs), here, count_alike test make true alike xs)
count_alike test make false alike (x ∷ xs) =
    let here : cond (test (make x)) 1 0 ≡ 0 = ap {B = ℕ} (λ b. cond b 1 0) (alike x) in
    omega (arith, sum_by-cons (λ y. cond (test y) 1 0) (make x) (map make xs), here, count_alike test make false alike xs)

-- bytes over payloads, rounded up, are no more than the payloads that carry them
packets-le-payloads : (bytes : ℕ) → div_ceil bytes PAYLOAD_BYTES ≤ length (payloads bytes)
packets-le-payloads bytes = omega (arith, length-payloads bytes)

unit_due : (from due item time bytes : ℕ) → cond (is_within from due time) (div_ceil bytes PAYLOAD_BYTES) 0 ≤ due_in from due (unit_packets item time bytes)
unit_due from due item time bytes =
    let answer = is_within from due time in
    let make : ℕ × ℕ → QueuedPacket = λ (piece, payload). record { item = item; piece = piece; payload = payload; due = time; gone = time } in
    let pieces = enumerate_from 0 (payloads bytes) in
    let counted : due_in from due (unit_packets item time bytes) ≡ cond answer (length pieces) 0 = count_alike (λ (p : QueuedPacket). is_within from due p.due) make answer (λ x. refl) pieces in
    elim (cases_Bool answer) as (λ _. cond answer (div_ceil bytes PAYLOAD_BYTES) 0 ≤ due_in from due (unit_packets item time bytes)) [
      | inl yes_is ↦ rw (counted, yes_is) (omega (arith, length-enumerate_from 0 (payloads bytes), packets-le-payloads bytes))
      | inr no_is ↦ rw (counted, no_is) (omega arith)
    ]

-- ---- the packets of a program's video
video_due : (from due item : ℕ) (units : List CodedUnit) (choice : List ℕ) → sum_by (packets_due from due) (zip units choice) ≤ due_in from due (packets_from item units choice)
video_due from due item [] choice = omega arith
video_due from due item (unit ∷ units) [] = omega arith
video_due from due item (unit ∷ units) (k ∷ choice) =
    let own = unit_packets item unit.due (version_at unit k).bytes in
    omega (
      arith,
      sum_by-cons (packets_due from due) (unit, k) (zip units choice),
      sum_by-append (λ (p : QueuedPacket). cond (is_within from due p.due) 1 0) own (packets_from (item + 1) units choice),
      unit_due from due item unit.due (version_at unit k).bytes,
      video_due from due (item + 1) units choice,
    )

-- ---- the packets of audio streams
-- the audio packets that are due in the window
abbrev pub audio_in : (from due : ℕ) → List AudioPacket → ℕ
audio_in from due packets = count_by (λ packet. is_within from due packet.due) packets

numbered_due : (from due n : ℕ) (packets : List AudioPacket) → due_in from due (map audio_packet (enumerate_from n packets)) ≡ audio_in from due packets
numbered_due from due n [] = refl
numbered_due from due n (packet ∷ packets) =
    omega (
      arith,
      sum_by-cons (λ (p : QueuedPacket). cond (is_within from due p.due) 1 0) (audio_packet (n, packet)) (map audio_packet (enumerate_from (n + 1) packets)),
      sum_by-cons (λ (p : AudioPacket). cond (is_within from due p.due) 1 0) packet packets,
      numbered_due from due (n + 1) packets,
    )

audios_due : (from due : ℕ) (audios : List (List AudioPacket)) → due_in_queues from due (map audio_of audios) ≡ audio_in from due (flat_map (λ packets. packets) audios)
audios_due from due [] = refl
audios_due from due (packets ∷ audios) =
    omega (
      arith,
      sum_by-cons (λ (q : Queue). due_in from due q.packets) (audio_of packets) (map audio_of audios),
      sum_by-append (λ (p : AudioPacket). cond (is_within from due p.due) 1 0) packets (flat_map (λ (more : List AudioPacket). more) audios),
      numbered_due from due 0 packets,
      audios_due from due audios,
    )

-- ---- all programs
zip-append : (units more : List CodedUnit) (choice : List ℕ) → zip (units ++ more) choice ≡ zip units choice ++ zip more (drop (length units) choice)
zip-append [] more choice = refl
zip-append (unit ∷ units) [] [] = refl
zip-append (unit ∷ units) (other ∷ more) [] = refl
zip-append (unit ∷ units) more (k ∷ choice) = ap (λ (rest : List Chosen). (unit, k) ∷ rest) (zip-append units more choice)

-- the audio packets of these programs
abbrev audio_of_programs : List ProgramRow → List AudioPacket
audio_of_programs rows = flat_map (λ program. flat_map (λ packets. packets) program.audios) rows

programs_due : (from due program : ℕ) (rows : List ProgramRow) (choice : List ℕ)
    → sum_by (packets_due from due) (zip (units_in rows) choice) + audio_in from due (audio_of_programs rows) ≤ due_in_queues from due (queues_from program rows choice)
programs_due from due program [] choice = omega arith
programs_due from due program (row ∷ rows) choice =
    let later = drop (length row.units) choice in
    let audio = flat_map (λ (packets : List AudioPacket). packets) row.audios in
    omega (
      arith,
      ap (sum_by (packets_due from due)) (zip-append row.units (units_in rows) choice),
      sum_by-append (packets_due from due) (zip row.units choice) (zip (units_in rows) later),
      sum_by-append (λ (p : AudioPacket). cond (is_within from due p.due) 1 0) audio (audio_of_programs rows),
      sum_by-append (λ (q : Queue). due_in from due q.packets) (video_queue program row choice ∷ map audio_of row.audios) (queues_from (program + 1) rows later),
      sum_by-cons (λ (q : Queue). due_in from due q.packets) (video_queue program row choice) (map audio_of row.audios),
      video_due from due 0 row.units choice,
      audios_due from due row.audios,
      programs_due from due (program + 1) rows later,
    )

-- the packets of a choice that are due in the window are those of its units and the audio packets, at least
pub units_due : (table : Table) (choice : List ℕ) (from due : ℕ)
    → sum_by (packets_due from due) (zip (units_of table) choice) + audio_due table from due ≤ due_in_queues from due (queues_of table choice)
unfolding audio_due
units_due table choice from due = programs_due from due 0 table.programs choice

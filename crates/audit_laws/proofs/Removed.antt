-- The bytes that removals take of a video, by the packets of its queue and by its PES packets: the same bytes at the same times.
use Rattle.std.proofs.Common.{◌≡◌, ℕ, zero, suc, ◌+◌, ◌-◌, ◌*◌, ◌/◌, ◌≤◌, List, [], ◌∷◌, ◌++◌, All, length, map, replicate, refl, sym, ap, ap₂, ◌∙◌, arith, length-append}
use Rattle.std.specs.List.{AllZip, enumerate_from, flat_map, zip}
use Rattle.std.proofs.lemmas.Grind.{flat_map-append}
use Rattle.std.proofs.lemmas.List.{append-nil, length-replicate, replicate-append-replicate}
use Rattle.std.proofs.Math.Nat.{suc-mul}
use Rattle.std.proofs.lemmas.List.Elements.{All-tail}
use Rattle.std.proofs.lemmas.List.Folds.{flat_map-map}
use Rattle.bit_lists.specs.Payload.{Payload}
use Rattle.pes_units.specs.PesHeader.{header_length}
use Rattle.version_table.specs.declared.table.Unit.{Unit as CodedUnit}
use Rattle.version_table.specs.Choice.{version_at}
use Rattle.slot_rule.specs.declared.queue_kind.QueueKind.TheVariants.{Video}
use Rattle.slot_rule.specs.declared.queued_packet.QueuedPacket.{QueuedPacket}
use Rattle.slot_rule.specs.Queues.{payloads, unit_packets}
use Rattle.tstd_model.specs.declared.decoder_input.PacketPart.{PacketPart}
use Rattle.tstd_model.specs.declared.decoder_input.PacketPart.TheVariants.{PesHeader, Data}
use Rattle.tstd_model.specs.PacketBytes.{is_data, kept}
use Rattle.tstd_bridge.specs.Arrivals.{Headers}
use Rattle.tstd_bridge.specs.Removals.{gone_of_each, wanted_of_each}
use Rattle.tstd_bridge.proofs.KeptBytes.{kept-append}
use Rattle.clean_laws.specs.Arrivals.{header_bytes}
use Rattle.clean_laws.specs.Clean.{IsPayloadOf}
use Rattle.audit_laws.proofs.Arrivals.{header-within, parts-many, parts_of_payload}
use Rattle.audit_laws.proofs.Gathered.{plain_parts}

-- ---- data among bytes

header-kept : (n at : ℕ) → kept is_data (replicate n PesHeader) (replicate n at) ≡ []
unfolding kept
header-kept zero at = refl
header-kept (suc n) at = header-kept n at

data-kept : (n at : ℕ) → kept is_data (replicate n Data) (replicate n at) ≡ replicate n at
unfolding kept
data-kept zero at = refl
data-kept (suc n) at = ap (λ (xs : List ℕ). at ∷ xs) (data-kept n at)

-- of bytes that begin with a header the others are kept
behind-header : (h n at : ℕ) → h ≤ n → kept is_data (replicate h PesHeader ++ replicate (n - h) Data) (replicate n at) ≡ replicate (n - h) at
behind-header h n at le =
    ap (kept is_data (replicate h PesHeader ++ replicate (n - h) Data)) (ap (λ (k : ℕ). replicate k at) (let e : n ≡ h + (n - h) = omega (arith, le) in e)
    ∙ sym (replicate-append-replicate h (n - h) at))
    ∙ kept-append is_data (replicate h PesHeader) (replicate (n - h) Data) (replicate h at) (replicate (n - h) at) (length-replicate h PesHeader ∙ sym (length-replicate h at))
    ∙ ap₂ (λ (xs ys : List ℕ). xs ++ ys) (header-kept h at) (data-kept (n - h) at)

-- ---- by the packets of a queue

-- when each byte of payload is wanted, PES headers too
abbrev pub wanted_with_headers : List QueuedPacket → List ℕ
wanted_with_headers packets = flat_map (λ packet. replicate packet.payload (940 * packet.due)) packets

pub queue-kept : (program vbv : ℕ) (headers : Headers) (payloads : List Payload) (packets : List QueuedPacket) → AllZip (IsPayloadOf headers) payloads packets
    → kept is_data (flat_map parts_of_payload payloads) (wanted_with_headers packets) ≡ wanted_of_each (Video program vbv) headers packets
unfolding kept
queue-kept program vbv headers [] [] zip = refl
queue-kept program vbv headers [] (q ∷ qs) zip = absurd zip
queue-kept program vbv headers (p ∷ ps) [] zip = absurd zip
queue-kept program vbv headers (p ∷ ps) (q ∷ qs) zip =
    let size : length p.bytes ≡ q.payload = zip.0.size in
    let header : header_bytes p ≡ headers q = zip.0.header in
    let at : ℕ = 940 * q.due in
    ap (λ (n : ℕ). kept is_data (parts_of_payload p ++ flat_map parts_of_payload ps) (replicate n (940 * q.due) ++ wanted_with_headers qs)) (sym size)
    ∙ kept-append is_data (parts_of_payload p) (flat_map parts_of_payload ps) (replicate (length p.bytes) (940 * q.due)) (wanted_with_headers qs)
    (parts-many p ∙ sym (length-replicate (length p.bytes) (940 * q.due)))
    ∙ ap₂ (λ (xs ys : List ℕ). xs ++ ys)
    (behind-header (header_bytes p) (length p.bytes) (940 * q.due) (header-within p) ∙ ap₂ (λ (n h : ℕ). replicate (n - h) (940 * q.due)) size header)
    (queue-kept program vbv headers ps qs zip.1)

-- ---- by numbers of bytes and their times

-- so many bytes at each of some times, in ticks
abbrev pub spread : (counts times : List ℕ) → List ℕ
spread [] times = []
spread (n ∷ counts) [] = []
spread (n ∷ counts) (at ∷ times) = replicate n (940 * at) ++ spread counts times

-- of PES packets the elementary bytes are kept
pub packets-kept : (packets : List (List ℕ)) (times : List ℕ) → All (λ (bytes : List ℕ). header_length bytes ≤ length bytes) packets → length packets ≡ length times
    → kept is_data (plain_parts packets) (spread (map (λ (bytes : List ℕ). length bytes) packets) times)
    ≡ spread (map (λ (bytes : List ℕ). length bytes - header_length bytes) packets) times
unfolding kept
packets-kept [] times whole many = refl
packets-kept (bytes ∷ more) [] whole many = absurd (omega (arith, many))
packets-kept (bytes ∷ more) (at ∷ times) whole many =
    let fits : header_length bytes ≤ length bytes = whole 0 bytes (omega arith) in
    let own : List PacketPart = replicate (header_length bytes) PesHeader ++ replicate (length bytes - header_length bytes) Data in
    let size : length (replicate (header_length bytes) PesHeader ++ replicate (length bytes - header_length bytes) Data) ≡ length (replicate (length bytes) (940 * at)) =
    length-append (replicate (header_length bytes) PesHeader) (replicate (length bytes - header_length bytes) Data)
    ∙ ap₂ (λ (x y : ℕ). x + y) (length-replicate (header_length bytes) PesHeader) (length-replicate (length bytes - header_length bytes) Data)
    ∙ (let e : header_length bytes + (length bytes - header_length bytes) ≡ length bytes = omega (arith, fits) in e) ∙ sym (length-replicate (length bytes) (940 * at)) in
    kept-append is_data (replicate (header_length bytes) PesHeader ++ replicate (length bytes - header_length bytes) Data) (plain_parts more) (replicate (length bytes) (940 * at))
    (spread (map (λ (bytes : List ℕ). length bytes) more) times) size
    ∙ ap₂ (λ (xs ys : List ℕ). xs ++ ys) (behind-header (header_length bytes) (length bytes) (940 * at) fits)
    (packets-kept more times (All-tail (λ (bytes : List ℕ). header_length bytes ≤ length bytes) bytes more whole) (omega (arith, many)))

-- ---- the packets of a video

repeated : (full n at : ℕ) → flat_map (λ (k : ℕ). replicate k at) (replicate full n) ≡ replicate (full * n) at
repeated zero n at = ap (λ (k : ℕ). replicate k at) (let e : 0 ≡ 0 * n = omega arith in e)
repeated (suc full) n at =
    ap (λ (xs : List ℕ). replicate n at ++ xs) (repeated full n at) ∙ replicate-append-replicate n (full * n) at
    ∙ ap (λ (k : ℕ). replicate k at) (sym (suc-mul full n ∙ (let e : full * n + n ≡ n + full * n = omega arith in e)))

-- payloads of a unit have its bytes
payloads-whole : (bytes at : ℕ) → flat_map (λ (k : ℕ). replicate k at) (payloads bytes) ≡ replicate bytes at
payloads-whole bytes at =
    let full : ℕ = (bytes - 1) / 184 in
    flat_map-append (λ (k : ℕ). replicate k at) (replicate ((bytes - 1) / 184) 184) ((bytes - 184 * ((bytes - 1) / 184)) ∷ [])
    ∙ ap₂ (λ (xs ys : List ℕ). xs ++ ys) (repeated ((bytes - 1) / 184) 184 at) (append-nil (replicate (bytes - 184 * ((bytes - 1) / 184)) at))
    ∙ replicate-append-replicate ((bytes - 1) / 184 * 184) (bytes - 184 * ((bytes - 1) / 184)) at
    ∙ ap (λ (k : ℕ). replicate k at) (let e : (bytes - 1) / 184 * 184 + (bytes - 184 * ((bytes - 1) / 184)) ≡ bytes = omega arith in e)

numbered : {A : Type 0} (from at : ℕ) (f : A → ℕ) (xs : List A) → flat_map (λ (pair : ℕ × A). replicate (f pair.1) at) (enumerate_from from xs) ≡ flat_map (λ (k : ℕ). replicate k at) (map f xs)
numbered from at f [] = refl
numbered from at f (x ∷ xs) = ap (λ (ys : List ℕ). replicate (f x) at ++ ys) (numbered (from + 1) at f xs)

map-same : (xs : List ℕ) → map (λ (n : ℕ). n) xs ≡ xs
map-same [] = refl
map-same (x ∷ xs) = ap (λ (ys : List ℕ). x ∷ ys) (map-same xs)

unit-wanted : (item due bytes : ℕ) → wanted_with_headers (unit_packets item due bytes) ≡ replicate bytes (940 * due)
unit-wanted item due bytes =
    flat_map-map (λ (packet : QueuedPacket). replicate packet.payload (940 * packet.due))
    (λ (pair : ℕ × ℕ). record { item = item; piece = pair.0; payload = pair.1; due = due; gone = due }) (enumerate_from 0 (payloads bytes))
    ∙ numbered 0 (940 * due) (λ (n : ℕ). n) (payloads bytes) ∙ ap (flat_map (λ (k : ℕ). replicate k (940 * due))) (map-same (payloads bytes)) ∙ payloads-whole bytes (940 * due)

abbrev pub packets_from : ℕ → List (CodedUnit × ℕ) → List QueuedPacket
packets_from item chosen = flat_map (λ (k, (unit, index)). unit_packets k unit.due (version_at unit index).bytes) (enumerate_from item chosen)

abbrev pub chosen_sizes : List (CodedUnit × ℕ) → List ℕ
chosen_sizes chosen = map (λ one. (version_at one.0 one.1).bytes) chosen

abbrev pub chosen_dues : List (CodedUnit × ℕ) → List ℕ
chosen_dues chosen = map (λ one. one.0.due) chosen

pub video-wanted : (item : ℕ) (chosen : List (CodedUnit × ℕ)) → wanted_with_headers (packets_from item chosen) ≡ spread (chosen_sizes chosen) (chosen_dues chosen)
video-wanted item [] = refl
video-wanted item ((unit, index) ∷ more) =
    flat_map-append (λ (packet : QueuedPacket). replicate packet.payload (940 * packet.due)) (unit_packets item unit.due (version_at unit index).bytes) (packets_from (item + 1) more)
    ∙ ap₂ (λ (xs ys : List ℕ). xs ++ ys) (unit-wanted item unit.due (version_at unit index).bytes) (video-wanted (item + 1) more)

-- a byte of video is gone when it is wanted
pub video-gone : (program vbv : ℕ) (headers : Headers) (item : ℕ) (chosen : List (CodedUnit × ℕ))
    → gone_of_each (Video program vbv) headers (packets_from item chosen) ≡ wanted_of_each (Video program vbv) headers (packets_from item chosen)
video-gone program vbv headers item [] = refl
video-gone program vbv headers item ((unit, index) ∷ more) =
    let due : ℕ = unit.due in
    let make : ℕ × ℕ → QueuedPacket = λ pair. record { item = item; piece = pair.0; payload = pair.1; due = unit.due; gone = unit.due } in
    let gone : QueuedPacket → List ℕ = λ packet. replicate (packet.payload - headers packet) (940 * packet.gone) in
    let wanted : QueuedPacket → List ℕ = λ packet. replicate (packet.payload - headers packet) (940 * packet.due) in
    let pieces : List (ℕ × ℕ) = enumerate_from 0 (payloads (version_at unit index).bytes) in
    flat_map-append gone (map make pieces) (packets_from (item + 1) more)
    ∙ ap₂ (λ (xs ys : List ℕ). xs ++ ys) (flat_map-map gone make pieces ∙ sym (flat_map-map wanted make pieces)) (video-gone program vbv headers (item + 1) more)
    ∙ sym (flat_map-append wanted (map make pieces) (packets_from (item + 1) more))

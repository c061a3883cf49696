-- A stream's pieces in the order of its queue are its items, one behind the other.
use Rattle.std.proofs.Common.{◌≡◌, ℕ, ◌+◌, false, List, [], ◌∷◌, ◌++◌, All, length, get_or, map, refl, sym, ap, ap₂, ◌∙◌, length-append, append_assoc}
use Rattle.std.specs.Prelude.{slice_index_or}
use Rattle.std.specs.List.{enumerate_from, flat_map, range_with_len, zip}
use Rattle.std.proofs.Math.Seq.{get_or-append_seam}
use Rattle.std.proofs.lemmas.List.{map-append}
use Rattle.std.proofs.lemmas.List.Elements.{All-cons, All-head, All-nil, All-tail}
use Rattle.bit_lists.specs.Payload.{Payload}
use Rattle.version_table.specs.declared.table.AudioPacket.{AudioPacket}
use Rattle.version_table.specs.declared.table.Unit.{Unit as CodedUnit}
use Rattle.version_table.specs.declared.table.ProgramRow.{ProgramRow}
use Rattle.version_table.specs.Choice.{version_at}
use Rattle.slot_rule.specs.declared.queue_kind.QueueKind.{QueueKind}
use Rattle.slot_rule.specs.declared.queue_kind.QueueKind.TheVariants.{Audio, Video}
use Rattle.slot_rule.specs.declared.queued_packet.QueuedPacket.{QueuedPacket}
use Rattle.slot_rule.specs.Queues.{Queue, audio_of, payloads, unit_packets, video_queue}
use Rattle.slot_rule.specs.SlotList.{piece_sent}
use Rattle.mux_writer.specs.declared.layout.Layout.{Layout}
use Rattle.mux_writer.specs.Pieces.{Pieces}
use Rattle.output_laws.specs.SentItems.{GivesPieces, Sends, piece_numbers}
use Rattle.output_laws.specs.SentOn.{payload_sent}

-- ---- queues

abbrev number_of : QueuedPacket → ℕ × ℕ
number_of packet = (packet.item, packet.piece)

numbered : (item due : ℕ) (first : ℕ) (sizes : List ℕ)
    → map number_of (map (λ (piece, payload). record { item = item; piece = piece; payload = payload; due = due; gone = due }) (enumerate_from first sizes))
    ≡ map (λ (piece : ℕ). (item, piece)) (range_with_len first (length sizes))
numbered item due first [] = refl
numbered item due first (size ∷ sizes) = ap (λ (numbers : List (ℕ × ℕ)). (item, first) ∷ numbers) (numbered item due (first + 1) sizes)

same_first : (a b : ℕ) (xs ys : List ℕ) → a ∷ xs ≡ b ∷ ys → a ≡ b
same_first a b xs ys same = cc

same_rest : (a b : ℕ) (xs ys : List ℕ) → a ∷ xs ≡ b ∷ ys → xs ≡ ys
same_rest a b xs ys same = cc

abbrev sizes_of : List (List Payload) → List ℕ
sizes_of items = map (λ (pieces : List Payload). length pieces) items

abbrev chosen_sizes : List (CodedUnit × ℕ) → List ℕ
chosen_sizes chosen = map (λ (chosen : CodedUnit × ℕ). length (payloads (version_at chosen.0 chosen.1).bytes)) chosen

video-numbers : (first : ℕ) (chosen : List (CodedUnit × ℕ)) (items : List (List Payload)) → sizes_of items ≡ chosen_sizes chosen
    → map number_of (flat_map (λ (item, (unit, k)). unit_packets item unit.due (version_at unit k).bytes) (enumerate_from first chosen)) ≡ piece_numbers first items
video-numbers first [] [] same = refl
video-numbers first [] (pieces ∷ items) same = absurd cc
video-numbers first (one ∷ chosen) [] same = absurd cc
video-numbers first (one ∷ chosen) (pieces ∷ items) same =
    let bytes : ℕ = (version_at one.0 one.1).bytes in
    let size : length pieces ≡ length (payloads bytes) = same_first _ _ (sizes_of items) (chosen_sizes chosen) same in
    map-append number_of (unit_packets first one.0.due bytes) (flat_map (λ (item, (unit, k)). unit_packets item unit.due (version_at unit k).bytes) (enumerate_from (first + 1) chosen))
    ∙ ap₂ (λ (own rest : List (ℕ × ℕ)). own ++ rest)
    (numbered first one.0.due 0 (payloads bytes) ∙ ap (λ (n : ℕ). map (λ (piece : ℕ). (first, piece)) (range_with_len 0 n)) (sym size))
    (video-numbers (first + 1) chosen items (same_rest _ _ (sizes_of items) (chosen_sizes chosen) same))

pub video-sends : (program : ℕ) (row : ProgramRow) (choice : List ℕ) (items : List (List Payload)) → sizes_of items ≡ chosen_sizes (zip row.units choice) → Sends (video_queue program row choice) items
video-sends program row choice items same = record {
  in_order = video-numbers 0 (zip row.units choice) items same;
  single = λ audio. absurd (cc);
}

abbrev ones : List AudioPacket → List ℕ
ones packets = map (λ (packet : AudioPacket). 1) packets

audio-numbers : (first : ℕ) (packets : List AudioPacket) (items : List (List Payload)) → sizes_of items ≡ ones packets
    → map number_of (map (λ (item, packet). record { item = item; piece = 0; payload = packet.bytes; due = packet.due; gone = packet.gone }) (enumerate_from first packets)) ≡ piece_numbers first items
audio-numbers first [] [] same = refl
audio-numbers first [] (pieces ∷ items) same = absurd cc
audio-numbers first (one ∷ packets) [] same = absurd cc
audio-numbers first (one ∷ packets) (pieces ∷ items) same =
    let size : length pieces ≡ 1 = same_first _ _ (sizes_of items) (ones packets) same in
    ap₂ (λ (own rest : List (ℕ × ℕ)). own ++ rest) (ap (λ (n : ℕ). map (λ (piece : ℕ). (first, piece)) (range_with_len 0 n)) (sym size))
    (audio-numbers (first + 1) packets items (same_rest _ _ (sizes_of items) (ones packets) same))

all_single : (packets : List AudioPacket) (items : List (List Payload)) → sizes_of items ≡ ones packets → All (λ (pieces : List Payload). length pieces ≡ 1) items
all_single [] [] same = All-nil (λ (pieces : List Payload). length pieces ≡ 1)
all_single [] (pieces ∷ items) same = absurd cc
all_single (one ∷ packets) [] same = absurd cc
all_single (one ∷ packets) (pieces ∷ items) same =
    All-cons (λ (pieces : List Payload). length pieces ≡ 1) pieces items (same_first _ _ (sizes_of items) (ones packets) same)
    (all_single packets items (same_rest _ _ (sizes_of items) (ones packets) same))

pub audio-sends : (packets : List AudioPacket) (items : List (List Payload)) → sizes_of items ≡ ones packets → Sends (audio_of packets) items
audio-sends packets items same = record { in_order = audio-numbers 0 packets items same; single = λ audio. all_single packets items same }

-- ---- pieces by their numbers

abbrev none : Payload
none = record { start = false; bytes = [] }

abbrev piece_in : List (List Payload) → ℕ × ℕ → Payload
piece_in items number = slice_index_or (slice_index_or items number.0 []) number.1 none

read_all : (before pieces : List Payload) → map (λ (k : ℕ). get_or (before ++ pieces) k none) (range_with_len (length before) (length pieces)) ≡ pieces
read_all before [] = refl
read_all before (piece ∷ pieces) =
    let joined : before ++ piece ∷ pieces ≡ (before ++ piece ∷ []) ++ pieces = sym (append_assoc before (piece ∷ []) pieces) in
    let next : length before + 1 ≡ length (before ++ piece ∷ []) = sym (length-append before (piece ∷ [])) in
    ap₂ (λ (first : Payload) (rest : List Payload). first ∷ rest) (get_or-append_seam before piece pieces none)
    (ap₂ (λ (xs : List Payload) (n : ℕ). map (λ (k : ℕ). get_or xs k none) (range_with_len n (length pieces))) joined next ∙ read_all (before ++ piece ∷ []) pieces)

map-twice : {A B C : Type 0} (f : B → C) (g : A → B) (h : A → C) (xs : List A) → ((x : A) → f (g x) ≡ h x) → map f (map g xs) ≡ map h xs
map-twice f g h [] same = refl
map-twice {C = C} f g h (x ∷ xs) same = ap₂ (λ (y : C) (ys : List C). y ∷ ys) (same x) (map-twice f g h xs same)

-- item by item they are the items
in_items : (before items : List (List Payload)) → map (piece_in (before ++ items)) (piece_numbers (length before) items) ≡ flat_map (λ (pieces : List Payload). pieces) items
in_items before [] = refl
in_items before (pieces ∷ items) =
    let all : List (List Payload) = before ++ pieces ∷ items in
    let own : slice_index_or all (length before) [] ≡ pieces = get_or-append_seam before pieces items [] in
    let joined : all ≡ (before ++ pieces ∷ []) ++ items = sym (append_assoc before (pieces ∷ []) items) in
    let next : length before + 1 ≡ length (before ++ pieces ∷ []) = sym (length-append before (pieces ∷ [])) in
    map-append (piece_in all) (map (λ (piece : ℕ). (length before, piece)) (range_with_len 0 (length pieces))) (piece_numbers (length before + 1) items)
    ∙ ap₂ (λ (xs ys : List Payload). xs ++ ys)
    (map-twice (piece_in all) (λ (piece : ℕ). (length before, piece)) (λ (piece : ℕ). get_or pieces piece none) (range_with_len 0 (length pieces))
    (λ piece. ap (λ (xs : List Payload). get_or xs piece none) own) ∙ read_all [] pieces)
    (ap₂ (λ (xs : List (List Payload)) (n : ℕ). map (piece_in xs) (piece_numbers n items)) joined next ∙ in_items (before ++ pieces ∷ []) items)

-- of single pieces each is its item's first one
first_numbers : (first : ℕ) (items : List (List Payload)) (f : ℕ × ℕ → Payload) → All (λ (pieces : List Payload). length pieces ≡ 1) items
    → map (λ (number : ℕ × ℕ). f (number.0, 0)) (piece_numbers first items) ≡ map f (piece_numbers first items)
first_numbers first [] f single = refl
first_numbers first (pieces ∷ items) f single =
    let size : length pieces ≡ 1 = All-head (λ (pieces : List Payload). length pieces ≡ 1) pieces items single in
    let others = first_numbers (first + 1) items f (All-tail (λ (pieces : List Payload). length pieces ≡ 1) pieces items single) in
    ap (λ (n : ℕ). map (λ (number : ℕ × ℕ). f (number.0, 0)) (map (λ (piece : ℕ). (first, piece)) (range_with_len 0 n) ++ piece_numbers (first + 1) items)) size
    ∙ ap (λ (rest : List Payload). f (first, 0) ∷ rest) others
    ∙ sym (ap (λ (n : ℕ). map f (map (λ (piece : ℕ). (first, piece)) (range_with_len 0 n) ++ piece_numbers (first + 1) items)) size)

-- ---- what the queue's packets carry

pub queue-carries : (layout : Layout) (pieces : Pieces) (stream : ℕ) (queue : Queue) (items : List (List Payload)) → Sends queue items → GivesPieces items (pieces stream)
    → map (payload_sent layout pieces) (map (piece_sent queue.kind stream) queue.packets) ≡ flat_map (λ (pieces : List Payload). pieces) items
queue-carries layout pieces stream queue items sends gives = by_kind queue.kind refl
  where
    by_kind : (kind : QueueKind) → queue.kind ≡ kind → map (payload_sent layout pieces) (map (piece_sent kind stream) queue.packets) ≡ flat_map (λ (pieces : List Payload). pieces) items
    by_kind (Video program vbv) is =
        map-twice (payload_sent layout pieces) (piece_sent (Video program vbv) stream) (λ (packet : QueuedPacket). piece_in items (number_of packet)) queue.packets
        (λ packet. gives packet.item packet.piece)
        ∙ sym (map-twice (piece_in items) number_of (λ (packet : QueuedPacket). piece_in items (number_of packet)) queue.packets (λ packet. refl))
        ∙ ap (map (piece_in items)) sends.in_order ∙ in_items [] items
    by_kind Audio is =
        map-twice (payload_sent layout pieces) (piece_sent Audio stream) (λ (packet : QueuedPacket). piece_in items (packet.item, 0)) queue.packets
        (λ packet. gives packet.item 0)
        ∙ sym (map-twice (λ (number : ℕ × ℕ). piece_in items (number.0, 0)) number_of (λ (packet : QueuedPacket). piece_in items (packet.item, 0)) queue.packets (λ packet. refl))
        ∙ ap (map (λ (number : ℕ × ℕ). piece_in items (number.0, 0))) sends.in_order ∙ first_numbers 0 items (piece_in items) (sends.single is) ∙ in_items [] items

-- The bytes that come to a queue's decoder after one more row.
use Rattle.std.proofs.Common.{◌≡◌, ℕ, ◌+◌, ◌*◌, List, [], ◌∷◌, ◌++◌, length, replicate, refl, sym, ap, ◌∙◌, append_assoc, append-nil, add-zero, arith}
use Rattle.std.proofs.lemmas.Grind.{flat_map-append}
use Rattle.stream_constants.specs.declared.packets.TheConstants.{PACKET_BYTES}
use Rattle.tstd_model.specs.Instants.{spaced}
use Rattle.tstd_model.specs.PacketBytes.{byte_subticks, arrives_in, arrives}
use Rattle.tstd_model.specs.declared.decoder_input.Arrival.{Arrival}
use Rattle.slot_rule.specs.declared.queue_kind.QueueKind.{QueueKind}
use Rattle.slot_rule.specs.Buffers.{packets_in, payload_in}
use Rattle.slot_rule.specs.declared.row.Row.{Row}
use Rattle.tstd_bridge.specs.Arrivals.{Headers, header_in, arrival_in, arrivals_from}

-- ---- the packets
pub arrivals_from-push : (n stream : ℕ) (kind : QueueKind) (headers : Headers) (rows : List Row) (row : Row)
    → arrivals_from n stream kind headers (rows ++ row ∷ []) ≡ arrivals_from n stream kind headers rows ++ arrival_in stream kind headers (n + length rows) row
unfolding arrivals_from
arrivals_from-push n stream kind headers [] row = append-nil (arrival_in stream kind headers n row) ∙ ap (λ m. arrival_in stream kind headers m row) (sym (add-zero n))
arrivals_from-push n stream kind headers (first ∷ rows) row =
    let own = arrival_in stream kind headers n first in
    let next : (n + 1) + length rows ≡ n + length (first ∷ rows) = omega arith in
    ap (λ (more : List Arrival). own ++ more) (arrivals_from-push (n + 1) stream kind headers rows row)
    ∙ sym (append_assoc own (arrivals_from (n + 1) stream kind headers rows) (arrival_in stream kind headers ((n + 1) + length rows) row))
    ∙ ap (λ m. (own ++ arrivals_from (n + 1) stream kind headers rows) ++ arrival_in stream kind headers m row) next

pub arrival_in-none : (stream n : ℕ) (kind : QueueKind) (headers : Headers) (row : Row) → packets_in stream kind row ≡ 0 → arrival_in stream kind headers n row ≡ []
unfolding arrival_in
arrival_in-none stream n kind headers row none = ap (λ k. replicate k (record { slot_no = n; header = header_in stream headers row; payload = payload_in stream row })) none

-- the one packet that a row brings
abbrev pub arrival_of : (stream n : ℕ) → Headers → Row → Arrival
arrival_of stream n headers row = record { slot_no = n; header = header_in stream headers row; payload = payload_in stream row }

pub arrival_in-one : (stream n : ℕ) (kind : QueueKind) (headers : Headers) (row : Row) → packets_in stream kind row ≡ 1 → arrival_in stream kind headers n row ≡ arrival_of stream n headers row ∷ []
unfolding arrival_in
arrival_in-one stream n kind headers row one = ap (λ k. replicate k (arrival_of stream n headers row)) one

pub arrivals_from-none : (stream : ℕ) (kind : QueueKind) (headers : Headers) (rows : List Row) (row : Row) → packets_in stream kind row ≡ 0
    → arrivals_from 0 stream kind headers (rows ++ row ∷ []) ≡ arrivals_from 0 stream kind headers rows
arrivals_from-none stream kind headers rows row none =
    arrivals_from-push 0 stream kind headers rows row
    ∙ ap (λ more. arrivals_from 0 stream kind headers rows ++ more) (arrival_in-none stream (0 + length rows) kind headers row none)
    ∙ append-nil (arrivals_from 0 stream kind headers rows)

pub arrivals_from-one : (stream : ℕ) (kind : QueueKind) (headers : Headers) (rows : List Row) (row : Row) → packets_in stream kind row ≡ 1
    → arrivals_from 0 stream kind headers (rows ++ row ∷ []) ≡ arrivals_from 0 stream kind headers rows ++ arrival_of stream (length rows) headers row ∷ []
arrivals_from-one stream kind headers rows row one =
    let zeroth : 0 + length rows ≡ length rows = omega arith in
    arrivals_from-push 0 stream kind headers rows row
    ∙ ap (λ n. arrivals_from 0 stream kind headers rows ++ arrival_in stream kind headers n row) zeroth
    ∙ ap (λ more. arrivals_from 0 stream kind headers rows ++ more) (arrival_in-one stream (length rows) kind headers row one)

-- ---- their bytes
pub arrives-push : (slot : ℕ) (arrivals : List Arrival) (arrival : Arrival)
    → arrives slot (arrivals ++ arrival ∷ []) ≡ arrives slot arrivals ++ spaced (PACKET_BYTES * arrival.slot_no * byte_subticks slot) (byte_subticks slot) PACKET_BYTES
unfolding arrives arrives_in
arrives-push slot arrivals arrival =
    flat_map-append (arrives_in slot) arrivals (arrival ∷ [])
    ∙ ap (λ more. arrives slot arrivals ++ more) (append-nil (arrives_in slot arrival))

-- the bytes that come in the rows
abbrev pub bytes_come : (slot stream : ℕ) → QueueKind → Headers → List Row → List ℕ
bytes_come slot stream kind headers rows = arrives slot (arrivals_from 0 stream kind headers rows)

pub bytes_come-nil : (slot stream : ℕ) (kind : QueueKind) (headers : Headers) → bytes_come slot stream kind headers [] ≡ []
unfolding arrives arrivals_from
bytes_come-nil slot stream kind headers = refl

pub bytes_come-none : (slot stream : ℕ) (kind : QueueKind) (headers : Headers) (rows : List Row) (row : Row) → packets_in stream kind row ≡ 0
    → bytes_come slot stream kind headers (rows ++ row ∷ []) ≡ bytes_come slot stream kind headers rows
bytes_come-none slot stream kind headers rows row none = ap (λ arrivals. arrives slot arrivals) (arrivals_from-none stream kind headers rows row none)

pub bytes_come-one : (slot stream : ℕ) (kind : QueueKind) (headers : Headers) (rows : List Row) (row : Row) → packets_in stream kind row ≡ 1
    → bytes_come slot stream kind headers (rows ++ row ∷ [])
    ≡ bytes_come slot stream kind headers rows ++ spaced (PACKET_BYTES * length rows * byte_subticks slot) (byte_subticks slot) PACKET_BYTES
bytes_come-one slot stream kind headers rows row one =
    ap (λ arrivals. arrives slot arrivals) (arrivals_from-one stream kind headers rows row one)
    ∙ arrives-push slot (arrivals_from 0 stream kind headers rows) (arrival_of stream (length rows) headers row)

-- The work that waits in a buffer after one more row.
use Rattle.std.proofs.Common.{
  ◌≡◌,
  ℕ,
  ◌+◌,
  ◌-◌,
  ◌*◌,
  eqb,
  eq-eqb,
  ne_eqb,
  List,
  [],
  ◌∷◌,
  ◌++◌,
  length,
  map,
  max,
  sum,
  refl,
  arith,
  All,
  get_or,
  true,
  false,
  zero-le,
  zero-add,
  add-zero,
  ◌≤◌,
  Bool,
  cond,
}
use Rattle.std.proofs.lemmas.Bool.{cond-true, cond-false}
use Rattle.std.proofs.lemmas.List.{length_push, map_push, length-map}
use Rattle.std.proofs.lemmas.List.Sums.{sum_by_push, sum_by-cons, sum_by-le}
use Rattle.std.proofs.lemmas.List.Elements.{All-map, All-tail}
use Rattle.stream_constants.specs.declared.decoder.TheConstants.{MB_SUBTICKS, AUDIO_TB_SUBTICKS}
use Rattle.stream_constants.specs.declared.packets.TheConstants.{PACKET_BYTES, PAYLOAD_BYTES}
use Rattle.slot_rule.specs.declared.sent.Sent.{Sent}
use Rattle.slot_rule.specs.declared.sent.Sent.TheVariants.{Pcr}
use Rattle.slot_rule.specs.Queues.{QueueKind, Video, Audio, QueuedPacket}
use Rattle.slot_rule.specs.Buffers.{Row, Reserved, Carries, Empty, waiting, tb_work, mb_work, packets_in, payload_in, queue_tb_subticks, slot_subticks, is_of, is_pcr_of}

max_more : (all rest n drain work : ℕ) → max ((all + work) - drain * (n + 1)) ((rest + work) - drain) ≡ (max (all - drain * n) rest + work) - drain
max_more all rest n drain work = omega arith

pub waiting-push : (drain : ℕ) (works : List ℕ) (work : ℕ) → waiting drain (works ++ work ∷ []) ≡ (waiting drain works + work) - drain
waiting-push drain [] work = omega arith
waiting-push drain (first ∷ works) work =
    let total : sum ((first ∷ works) ++ work ∷ []) ≡ sum (first ∷ works) + work = sum_by_push (λ x. x) (first ∷ works) work in
    rw (waiting-push drain works work, length_push (first ∷ works) work, total) (max_more (sum (first ∷ works)) (waiting drain works) (length (first ∷ works)) drain work)

pub tb_work-push : (slot stream : ℕ) (kind : QueueKind) (rows : List Row) (row : Row)
    → tb_work slot stream kind (rows ++ row ∷ []) ≡ (tb_work slot stream kind rows + PACKET_BYTES * queue_tb_subticks kind * packets_in stream kind row) - slot_subticks slot
tb_work-push slot stream kind rows row =
    rw (map_push (λ r. PACKET_BYTES * queue_tb_subticks kind * packets_in stream kind r) rows row)
    (waiting-push (slot_subticks slot) (map (λ r. PACKET_BYTES * queue_tb_subticks kind * packets_in stream kind r) rows) (PACKET_BYTES * queue_tb_subticks kind * packets_in stream kind row))

pub mb_work-push : (slot stream : ℕ) (rows : List Row) (row : Row)
    → mb_work slot stream (rows ++ row ∷ []) ≡ (mb_work slot stream rows + MB_SUBTICKS * payload_in stream row) - slot_subticks slot
mb_work-push slot stream rows row =
    rw (map_push (λ r. MB_SUBTICKS * payload_in stream r) rows row)
    (waiting-push (slot_subticks slot) (map (λ r. MB_SUBTICKS * payload_in stream r) rows) (MB_SUBTICKS * payload_in stream row))

-- ---- what a row brings to a stream
pub payload_in-carried : (stream s : ℕ) (packet : QueuedPacket) → s ≡ stream → payload_in stream (Carries s packet) ≡ packet.payload
payload_in-carried stream s packet e = cond-true (eqb s stream) packet.payload 0 (eq-eqb s stream e)

pub payload_in-other : (stream s : ℕ) (packet : QueuedPacket) → (s ≡ stream → ⊥) → payload_in stream (Carries s packet) ≡ 0
payload_in-other stream s packet apart = cond-false (eqb s stream) packet.payload 0 (ne_eqb s stream apart)

pub packets_in-carried : (stream s : ℕ) (kind : QueueKind) (packet : QueuedPacket) → s ≡ stream → packets_in stream kind (Carries s packet) ≡ 1
packets_in-carried stream s (Video program vbv) packet e = rw (eq-eqb s stream e) refl
packets_in-carried stream s Audio packet e = rw (eq-eqb s stream e) refl

pub packets_in-other : (stream s : ℕ) (kind : QueueKind) (packet : QueuedPacket) → (s ≡ stream → ⊥) → packets_in stream kind (Carries s packet) ≡ 0
packets_in-other stream s (Video program vbv) packet apart = rw (ne_eqb s stream apart) refl
packets_in-other stream s Audio packet apart = rw (ne_eqb s stream apart) refl

pub packets_in-empty : (stream : ℕ) (kind : QueueKind) → packets_in stream kind Empty ≡ 0
packets_in-empty stream (Video program vbv) = refl
packets_in-empty stream Audio = refl

-- the PCR of a program is in the transport buffer of its video
pub packets_in-pcr : (stream program vbv p : ℕ) → p ≡ program → packets_in stream (Video program vbv) (Reserved (Pcr p)) ≡ 1
packets_in-pcr stream program vbv p e = rw (eq-eqb p program e) refl

pub packets_in-other_pcr : (stream program vbv p : ℕ) → (p ≡ program → ⊥) → packets_in stream (Video program vbv) (Reserved (Pcr p)) ≡ 0
packets_in-other_pcr stream program vbv p apart = rw (ne_eqb p program apart) refl

-- no other reserved slot is in a stream's transport buffer
pub packets_in-no_pcr : (stream : ℕ) (kind : QueueKind) (sent : Sent) → ((p : ℕ) → sent ≡ Pcr p → ⊥) → packets_in stream kind (Reserved sent) ≡ 0
packets_in-no_pcr stream Audio sent apart = refl
packets_in-no_pcr stream (Video program vbv) (Pcr p) apart = absurd (apart p refl)
packets_in-no_pcr stream (Video program vbv) sent apart = refl

-- ---- bounds
pub waiting-le-sum : (drain : ℕ) (works : List ℕ) → waiting drain works ≤ sum works
waiting-le-sum drain [] = zero-le
waiting-le-sum drain (work ∷ works) = omega (arith, waiting-le-sum drain works, sum_by-cons (λ x. x) work works)

waiting-bound : (drain most : ℕ) (works : List ℕ) → All (λ work. work ≤ most) works → waiting drain works ≤ length works * most
waiting-bound drain most works each = omega (arith, waiting-le-sum drain works, sum_by-le (λ x. x) most works each)

cond_le_one : (b : Bool) → cond b 1 0 ≤ 1
cond_le_one true = omega arith
cond_le_one false = omega arith

-- a row has at most one packet of a stream's PID
pub packets_in-le : (stream : ℕ) (kind : QueueKind) (row : Row) → packets_in stream kind row ≤ 1
packets_in-le stream Audio row = cond_le_one (is_of stream row)
packets_in-le stream (Video program vbv) (Reserved sent) = rw zero-add (cond_le_one (is_pcr_of program (Reserved sent)))
packets_in-le stream (Video program vbv) (Carries s packet) = rw add-zero (cond_le_one (eqb s stream))
packets_in-le stream (Video program vbv) Empty = omega arith

transport_in-le : (stream : ℕ) (kind : QueueKind) (row : Row) → PACKET_BYTES * queue_tb_subticks kind * packets_in stream kind row ≤ PACKET_BYTES * AUDIO_TB_SUBTICKS
transport_in-le stream (Video program vbv) row = omega (arith, packets_in-le stream (Video program vbv) row)
transport_in-le stream Audio row = omega (arith, packets_in-le stream Audio row)

pub tb_work-bound : (slot stream : ℕ) (kind : QueueKind) (rows : List Row) → tb_work slot stream kind rows ≤ length rows * (PACKET_BYTES * AUDIO_TB_SUBTICKS)
tb_work-bound slot stream kind rows =
    let f : Row → ℕ = λ row. PACKET_BYTES * queue_tb_subticks kind * packets_in stream kind row in
    rw (← length-map rows f)
    (waiting-bound (slot_subticks slot) (PACKET_BYTES * AUDIO_TB_SUBTICKS) (map f rows)
    (All-map (λ work. work ≤ PACKET_BYTES * AUDIO_TB_SUBTICKS) f rows (λ k d within. transport_in-le stream kind (get_or rows k d))))

pub mb_work-bound : (slot stream : ℕ) (rows : List Row) → All (λ row. payload_in stream row ≤ PAYLOAD_BYTES) rows
    → mb_work slot stream rows ≤ length rows * (PAYLOAD_BYTES * MB_SUBTICKS)
mb_work-bound slot stream rows each =
    let f : Row → ℕ = λ row. MB_SUBTICKS * payload_in stream row in
    rw (← length-map rows f)
    (waiting-bound (slot_subticks slot) (PAYLOAD_BYTES * MB_SUBTICKS) (map f rows)
    (All-map (λ work. work ≤ PAYLOAD_BYTES * MB_SUBTICKS) f rows
    (λ k d within. (let small : payload_in stream (get_or rows k d) ≤ PAYLOAD_BYTES = each k d within in omega arith))))

-- where no row brings more work than drains in a slot, none waits
pub waiting-none : (drain : ℕ) (works : List ℕ) → All (λ work. work ≤ drain) works → waiting drain works ≡ 0
waiting-none drain [] each = refl
waiting-none drain (work ∷ works) each =
    let total : sum (work ∷ works) ≤ length (work ∷ works) * drain = sum_by-le (λ x. x) drain (work ∷ works) each in
    omega (arith, waiting-none drain works (All-tail (λ w. w ≤ drain) work works each))

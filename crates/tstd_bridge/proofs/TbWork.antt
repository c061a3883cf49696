-- The work that the slot rule counts in TB is at least what is left there at the ends of slots.
use Rattle.std.proofs.Common.{◌≡◌, ℕ, ◌+◌, ◌-◌, ◌*◌, ◌≤◌, List, [], ◌∷◌, ◌++◌, length, refl, arith, inl, inr}
use Rattle.std.proofs.lemmas.Bool.{cases_lt}
use Rattle.std.proofs.lemmas.List.{length_push}
use Rattle.stream_constants.specs.declared.packets.TheConstants.{PACKET_BYTES}
use Rattle.slot_rule.specs.declared.queue_kind.QueueKind.{QueueKind}
use Rattle.slot_rule.specs.Buffers.{packets_in, queue_tb_subticks, slot_subticks, tb_work}
use Rattle.slot_rule.specs.declared.row.Row.{Row}
use Rattle.slot_rule.proofs.RuleFronts.{by_push}
use Rattle.slot_rule.proofs.RuleWork.{tb_work-push, packets_in-le}
use Rattle.tstd_model.specs.Instants.{spaced}
use Rattle.tstd_model.specs.PacketBytes.{byte_subticks}
use Rattle.tstd_model.specs.Private.Server.{last_departure}
use Rattle.tstd_model.proofs.Server.{last_departure-append}
use Rattle.tstd_bridge.specs.Arrivals.{Headers}
use Rattle.tstd_bridge.proofs.ArrivalRows.{bytes_come, bytes_come-nil, bytes_come-none, bytes_come-one}
use Rattle.tstd_bridge.proofs.TbService.{last_departure-packet}

pub tb_work-none : (slot stream : ℕ) (kind : QueueKind) (rows : List Row) (row : Row) → packets_in stream kind row ≡ 0
    → tb_work slot stream kind (rows ++ row ∷ []) ≡ tb_work slot stream kind rows - slot_subticks slot
tb_work-none slot stream kind rows row none = rw (tb_work-push slot stream kind rows row, none) (omega arith)

pub tb_work-one : (slot stream : ℕ) (kind : QueueKind) (rows : List Row) (row : Row) → packets_in stream kind row ≡ 1
    → tb_work slot stream kind (rows ++ row ∷ []) ≡ (tb_work slot stream kind rows + PACKET_BYTES * queue_tb_subticks kind) - slot_subticks slot
tb_work-one slot stream kind rows row one = rw (tb_work-push slot stream kind rows row, one) (omega arith)

-- when TB is free after the rows
abbrev pub tb_free : (slot stream : ℕ) → QueueKind → Headers → List Row → ℕ
tb_free slot stream kind headers rows = last_departure (queue_tb_subticks kind) 0 (bytes_come slot stream kind headers rows)

tb_free-nil : (slot stream : ℕ) (kind : QueueKind) (headers : Headers) → tb_free slot stream kind headers [] ≡ 0
unfolding last_departure
tb_free-nil slot stream kind headers = rw (bytes_come-nil slot stream kind headers) refl

-- TB is free by the end of the rows and the work that the rule counts there
pub tb_free-most : (slot stream : ℕ) (kind : QueueKind) (headers : Headers) (rows : List Row)
    → tb_free slot stream kind headers rows ≤ length rows * slot_subticks slot + tb_work slot stream kind rows
tb_free-most slot stream kind headers =
    by_push (λ rows. tb_free slot stream kind headers rows ≤ length rows * slot_subticks slot + tb_work slot stream kind rows) (rw (tb_free-nil slot stream kind headers) (omega arith)) more
  where
    more : (rows : List Row) (row : Row) → tb_free slot stream kind headers rows ≤ length rows * slot_subticks slot + tb_work slot stream kind rows
        → tb_free slot stream kind headers (rows ++ row ∷ []) ≤ length (rows ++ row ∷ []) * slot_subticks slot + tb_work slot stream kind (rows ++ row ∷ [])
    more rows row before =
        elim (cases_lt 0 (packets_in stream kind row))
        as (λ _. tb_free slot stream kind headers (rows ++ row ∷ []) ≤ length (rows ++ row ∷ []) * slot_subticks slot + tb_work slot stream kind (rows ++ row ∷ [])) [
          | inr nothing ↦
              (let none : packets_in stream kind row ≡ 0 = omega arith in
              rw (bytes_come-none slot stream kind headers rows row none, tb_work-none slot stream kind rows row none, length_push rows row) (omega (arith, before)))
          | inl some ↦
              (let one : packets_in stream kind row ≡ 1 = omega (arith, packets_in-le stream kind row) in
              let first = PACKET_BYTES * length rows * byte_subticks slot in
              let free = tb_free slot stream kind headers rows in
              let work = tb_work slot stream kind rows in
              let t = queue_tb_subticks kind in
              let busy : free ≤ first + work = omega (arith, before) in
              let packet : last_departure t free (spaced first (byte_subticks slot) PACKET_BYTES)
              ≤ (first + byte_subticks slot * PACKET_BYTES) + ((work + t * PACKET_BYTES) - byte_subticks slot * PACKET_BYTES) =
              last_departure-packet t free first (byte_subticks slot) PACKET_BYTES work busy in
              rw (
                bytes_come-one slot stream kind headers rows row one,
                last_departure-append t 0 (bytes_come slot stream kind headers rows) (spaced first (byte_subticks slot) PACKET_BYTES),
                tb_work-one slot stream kind rows row one,
                length_push rows row,
              )
              (omega (arith, packet)))
        ]

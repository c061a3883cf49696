-- TB holds no more than its size where each packet finds little work there.
use Rattle.std.proofs.Common.{◌≡◌, ℕ, ◌+◌, ◌-◌, ◌*◌, ◌<◌, ◌≤◌, List, [], ◌∷◌, ◌++◌, length, refl, arith, inl, inr}
use Rattle.std.proofs.lemmas.Bool.{cases_lt}
use Rattle.stream_constants.specs.declared.packets.TheConstants.{PACKET_BYTES}
use Rattle.stream_constants.specs.declared.decoder.TheConstants.{TB_BYTES}
use Rattle.slot_rule.specs.declared.constants.TheConstants.{AUDIO_TB_GATE}
use Rattle.slot_rule.specs.declared.queue_kind.QueueKind.{QueueKind}
use Rattle.slot_rule.specs.declared.queue_kind.QueueKind.TheVariants.{Video, Audio}
use Rattle.slot_rule.specs.Buffers.{packets_in, queue_tb_subticks, tb_work}
use Rattle.slot_rule.specs.declared.row.Row.{Row}
use Rattle.slot_rule.proofs.RuleFronts.{AtEach, AtEach-front, by_push}
use Rattle.slot_rule.proofs.RuleWork.{packets_in-le}
use Rattle.tstd_model.specs.Instants.{spaced, departures, came}
use Rattle.tstd_model.specs.PacketBytes.{byte_subticks}
use Rattle.tstd_model.specs.Decoder.{IsOverfull, transport_buffer, leave_tb, tb_subticks as decoder_tb_subticks}
use Rattle.tstd_model.specs.Private.Server.{EachWithin}
use Rattle.tstd_model.proofs.Server.{departures-append, departures-spaced, came-occupied}
use Rattle.tstd_bridge.specs.Arrivals.{Headers, buffers_of, arrivals_from}
use Rattle.tstd_bridge.proofs.ArrivalRows.{bytes_come, bytes_come-nil, bytes_come-none, bytes_come-one}
use Rattle.tstd_bridge.proofs.TbService.{departures-packet, EachWithin-append}
use Rattle.tstd_bridge.proofs.TbWork.{tb_free, tb_free-most}

-- bytes of TB that are taken at most where a packet comes, with the packet
abbrev pub tb_most : ℕ
tb_most = AUDIO_TB_GATE + PACKET_BYTES

-- each packet that a row brings finds at most so much work in TB
abbrev pub FindsLittle : (slot stream : ℕ) → QueueKind → List Row → Row → Type 0
FindsLittle slot stream kind rows row = 0 < packets_in stream kind row → tb_work slot stream kind rows ≤ AUDIO_TB_GATE * queue_tb_subticks kind

-- each byte leaves TB soon after it comes
abbrev pub LeavesSoon : (slot stream : ℕ) → QueueKind → Headers → List Row → Type 0
LeavesSoon slot stream kind headers rows =
    EachWithin (tb_most * queue_tb_subticks kind) (departures (queue_tb_subticks kind) 0 (bytes_come slot stream kind headers rows)) (bytes_come slot stream kind headers rows)

leaves_soon-nil : (slot stream : ℕ) (kind : QueueKind) (headers : Headers) → LeavesSoon slot stream kind headers []
unfolding departures
leaves_soon-nil slot stream kind headers = rw (bytes_come-nil slot stream kind headers) tt

leaves_soon-push : (slot stream : ℕ) (kind : QueueKind) (headers : Headers) (rows : List Row) (row : Row)
    → FindsLittle slot stream kind rows row → LeavesSoon slot stream kind headers rows → LeavesSoon slot stream kind headers (rows ++ row ∷ [])
leaves_soon-push slot stream kind headers rows row little soon =
    elim (cases_lt 0 (packets_in stream kind row)) as (λ _. LeavesSoon slot stream kind headers (rows ++ row ∷ [])) [
      | inr nothing ↦ (let none : packets_in stream kind row ≡ 0 = omega arith in rw (bytes_come-none slot stream kind headers rows row none) soon)
      | inl some ↦
          (let one : packets_in stream kind row ≡ 1 = omega (arith, packets_in-le stream kind row) in
          let first = PACKET_BYTES * length rows * byte_subticks slot in
          let come = bytes_come slot stream kind headers rows in
          let own = spaced first (byte_subticks slot) PACKET_BYTES in
          let t = queue_tb_subticks kind in
          let free = tb_free slot stream kind headers rows in
          let busy : free ≤ first + AUDIO_TB_GATE * t = omega (arith, tb_free-most slot stream kind headers rows, little some) in
          rw (bytes_come-one slot stream kind headers rows row one, departures-append t 0 come own)
          (EachWithin-append (tb_most * t) (departures t 0 come) come (departures t free own) own soon
          (departures-packet t free first (byte_subticks slot) PACKET_BYTES (AUDIO_TB_GATE * t) (tb_most * t) busy (omega arith))))
    ]

pub leaves_soon : (slot stream : ℕ) (kind : QueueKind) (headers : Headers) (rows : List Row) → AtEach (FindsLittle slot stream kind) rows → LeavesSoon slot stream kind headers rows
leaves_soon slot stream kind headers =
    by_push (λ rows. AtEach (FindsLittle slot stream kind) rows → LeavesSoon slot stream kind headers rows) (λ each. leaves_soon-nil slot stream kind headers)
    (λ rows row before each. leaves_soon-push slot stream kind headers rows row (each rows row [] refl) (before (AtEach-front (FindsLittle slot stream kind) rows (row ∷ []) each)))

pub same_tb_subticks : (kind : QueueKind) → decoder_tb_subticks (buffers_of kind) ≡ queue_tb_subticks kind
same_tb_subticks (Video program vbv) = refl
same_tb_subticks Audio = refl

-- TB is within its size
pub tb_holds : (slot stream : ℕ) (kind : QueueKind) (headers : Headers) (rows : List Row) → AtEach (FindsLittle slot stream kind) rows
    → (at : ℕ) → IsOverfull (transport_buffer slot (buffers_of kind) (arrivals_from 0 stream kind headers rows)) at → ⊥
unfolding leave_tb
tb_holds slot stream kind headers rows each at over =
    let t = queue_tb_subticks kind in
    let come = bytes_come slot stream kind headers rows in
    let held : came at come ≤ tb_most + came at (departures t 0 come) =
    came-occupied t 0 tb_most (tb_most * t) at come (departures t 0 come) refl (leaves_soon slot stream kind headers rows each) (departures-spaced t 0 come) in
    let over' : TB_BYTES < came at come - came at (departures t 0 come) = rw (← same_tb_subticks kind) over in
    omega (arith, held, over')

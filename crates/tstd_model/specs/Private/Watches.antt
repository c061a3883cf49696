-- What is known of a decoder whose packets are looked at one by one; no public clause cites these.
use Rattle.std.specs.Prelude.{◌≡◌, ℕ, ◌*◌, List, ◌∷◌, ◌++◌, replicate, None}
use Rattle.stream_constants.specs.declared.packets.TheConstants.{PACKET_BYTES}
use Rattle.tstd_model.specs.declared.move_watch.MoveWatch.{MoveWatch}
use Rattle.tstd_model.specs.declared.packet_watch.PacketWatch.{PacketWatch}
use Rattle.tstd_model.specs.declared.tb_watch.TbWatch.{TbWatch}
use Rattle.tstd_model.specs.Decoder.{BufferKind, Removal, transport_buffer}
use Rattle.tstd_model.specs.Keeping.{Keeps}
use Rattle.tstd_model.specs.PacketBytes.{Arrival, byte_subticks, parts, with_headers}
use Rattle.tstd_model.specs.Wanted.{Wanted, DataAlone}
pub use Rattle.tstd_model.specs.Watch.{comes_later, wanted_later, moves_later, KeepsTb, KeepsMain, KeepsFound, KeepsHeld, SureTb, SureMain, SureFound, SureHeld}
use Rattle.tstd_model.specs.Private.Keeps.{wanted_count}
use Rattle.tstd_model.specs.Private.Walks.{main_buffer, first_excess, late_found, old_found}

-- when the first byte of a packet comes
abbrev pub first_of : (slot : ℕ) → Arrival → ℕ
first_of slot packet = PACKET_BYTES * packet.slot_no * byte_subticks slot

-- the bytes of a packet have left TB at an instant
abbrev pub PassesTb : (old : TbWatch) → (packet : Arrival) → (end : ℕ) → (new : TbWatch) → Type 0
PassesTb old packet end new =
    (wanted : Wanted) (later : List Arrival) → Keeps 0 0 (replicate (wanted_count wanted packet) end ++ wanted_later wanted new later) (wanted_later wanted old (packet ∷ later))

-- so many bytes that have come by some instant have moved at another
abbrev pub MovesBy : (old : MoveWatch) → (come count at : ℕ) → (new : MoveWatch) → Type 0
MovesBy old come count at new =
    (comes : List ℕ) → Keeps 0 0 (replicate count at ++ moves_later new comes) (moves_later old (replicate count come ++ comes))

-- the payload of a packet has left a multiplexing buffer at an instant, of which these leave besides
abbrev pub LeavesBy : (old : List ℕ) → (packet : Arrival) → (at : ℕ) → (new : List ℕ) → Type 0
LeavesBy old packet at new =
    (later : List Arrival) (before after : List ℕ) → Keeps 0 0 (replicate (wanted_count DataAlone packet) at ++ after) before
    → Keeps 0 0 (new ++ with_headers (parts later) after) (old ++ with_headers (parts (packet ∷ later)) before)

-- a packet has come: what is sure of those behind it is sure with it
pub record Goes (old : PacketWatch) (packet : Arrival) (new : PacketWatch) : Type 0 where
  pub tb : (later : List Arrival) → SureTb new later → SureTb old (packet ∷ later)
  pub main : (later : List Arrival) → SureMain new later → SureMain old (packet ∷ later)
  pub found : (later : List Arrival) → SureFound new later → SureFound old (packet ∷ later)
  pub held : (later : List Arrival) → SureHeld new later → SureHeld old (packet ∷ later)

-- These packets were watched: whatever packets still come, of what the watch is sure then, all packets have no such fault.
pub record HasWatchedEach (slot : ℕ) (kind : BufferKind) (removals : List Removal) (given : List Arrival) (watch : PacketWatch) : Type 0 where
  pub tb : (later : List Arrival) → SureTb watch later → first_excess (transport_buffer slot kind (given ++ later)) ≡ None
  pub main : (later : List Arrival) → SureMain watch later → first_excess (main_buffer slot kind (given ++ later) removals) ≡ None
  pub found : (later : List Arrival) → SureFound watch later → late_found slot kind (given ++ later) removals ≡ None
  pub held : (later : List Arrival) → SureHeld watch later → old_found slot kind (given ++ later) removals ≡ None

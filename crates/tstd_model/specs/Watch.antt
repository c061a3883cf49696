-- What a look at a decoder packet by packet says of it: each word speaks of the packets that are still to come.
use Rattle.std.specs.Prelude.{ℕ, ◌*◌, List, ◌++◌, None, IsTrue, map}
use Rattle.std.specs.List.Sorted.{IsStrictlyIncreasing, IsNonDecreasing}
use Rattle.stream_constants.specs.declared.decoder.TheConstants.{TB_BYTES, MB_SUBTICKS}
use Rattle.tstd_model.specs.declared.move_watch.MoveWatch.{MoveWatch}
use Rattle.tstd_model.specs.declared.packet_watch.PacketWatch.{PacketWatch}
use Rattle.tstd_model.specs.declared.tb_watch.TbWatch.{TbWatch}
use Rattle.tstd_model.specs.Decoder.{BufferKind, Video, Audio, System, Removal}
use Rattle.tstd_model.specs.Faults.{IsFirstOrNone, hold_subticks}
use Rattle.tstd_model.specs.Instants.{departures, departures_into}
use Rattle.tstd_model.specs.Keeping.{Keeps}
use Rattle.tstd_model.specs.PacketBytes.{Arrival, parts, arrives, kept, with_headers}
use Rattle.tstd_model.specs.Wanted.{Wanted, Payload, DataAlone, is_wanted}

-- when wanted bytes of packets come
abbrev pub comes_later : Wanted → (slot : ℕ) → List Arrival → List ℕ
comes_later wanted slot later = kept (is_wanted wanted) (parts later) (arrives slot later)

-- when wanted bytes of packets leave TB
abbrev pub wanted_later : Wanted → TbWatch → List Arrival → List ℕ
wanted_later wanted tb later = kept (is_wanted wanted) (parts later) (departures tb.subticks tb.before (arrives tb.slot later))

-- when data moves
abbrev pub moves_later : MoveWatch → (comes : List ℕ) → List ℕ
moves_later moves comes = departures_into moves.rooms MB_SUBTICKS moves.before comes

-- ---- the four questions, for packets that are still to come

-- TB is never over its size
abbrev pub KeepsTb : TbWatch → List Arrival → Type 0
KeepsTb tb later = Keeps 0 (tb.subticks * TB_BYTES) (arrives tb.slot later) (departures tb.subticks tb.before (arrives tb.slot later))

-- nor is the buffer behind it
abbrev pub KeepsMain : BufferKind → PacketWatch → List Arrival → Type 0
KeepsMain (Video vbv) watch later =
    Keeps 0 0 (comes_later Payload watch.tb.slot later) (watch.leaves ++ with_headers (parts later) (moves_later watch.moves (wanted_later DataAlone watch.tb later)))
KeepsMain Audio watch later = Keeps 0 0 (comes_later Payload watch.tb.slot later) watch.moves.rooms
KeepsMain System watch later = ⊥

-- each removal finds what it takes
abbrev pub KeepsFound : BufferKind → PacketWatch → List Arrival → Type 0
KeepsFound (Video vbv) watch later = Keeps 1 0 watch.taken (moves_later watch.moves (wanted_later DataAlone watch.tb later))
KeepsFound Audio watch later = Keeps 1 0 watch.taken (wanted_later Payload watch.tb later)
KeepsFound System watch later = ⊥

-- no byte is held past the limit
abbrev pub KeepsHeld : BufferKind → PacketWatch → List Arrival → Type 0
KeepsHeld (Video vbv) watch later = Keeps 0 hold_subticks (comes_later DataAlone watch.tb.slot later) watch.taken
KeepsHeld Audio watch later = Keeps 0 hold_subticks (comes_later Payload watch.tb.slot later) watch.taken
KeepsHeld System watch later = ⊥

-- the watch is sure of the answer so far, and it is so for the packets to come: of TB
abbrev pub SureTb : PacketWatch → List Arrival → Type 0
SureTb watch later = IsTrue watch.sure.tb × KeepsTb watch.tb later

-- of the buffer behind it
abbrev pub SureMain : PacketWatch → List Arrival → Type 0
SureMain watch later = IsTrue watch.sure.main × KeepsMain watch.kind watch later

-- of removals
abbrev pub SureFound : PacketWatch → List Arrival → Type 0
SureFound watch later = IsTrue watch.sure.found × KeepsFound watch.kind watch later

-- of held bytes
abbrev pub SureHeld : PacketWatch → List Arrival → Type 0
SureHeld watch later = IsTrue watch.sure.held × KeepsHeld watch.kind watch later

-- it is sure of all four
abbrev pub IsSure : PacketWatch → List Arrival → Type 0
IsSure watch later = SureTb watch later × SureMain watch later × SureFound watch later × SureHeld watch later

-- These packets of a decoder were watched. Whatever packets still come, in slots that rise, behind removals that don't fall back: where the watch is then
-- sure of all, the decoder of all packets has no fault.
pub record HasWatched (slot : ℕ) (kind : BufferKind) (removals : List Removal) (given : List Arrival) (watch : PacketWatch) : Type 0 where
  pub clean : (later : List Arrival) → IsStrictlyIncreasing (map (λ arrival. arrival.slot_no) (given ++ later)) → IsNonDecreasing (map (λ removal. removal.due) removals)
      → IsSure watch later → IsFirstOrNone slot kind (given ++ later) removals None

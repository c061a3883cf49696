-- Packets that are held to be added to a file.
use Rattle.std.specs.Prelude.{ℕ, [], List}
use Rattle.std.specs.List.{flat_map}
use Rattle.shelf_io.specs.Sink.{Told}
use Rattle.ts_packets.specs.Packet.{written}
use Rattle.slot_rule.specs.declared.sent.Sent.{Sent}
use Rattle.mux_writer.specs.declared.layout.Layout.{Layout}
use Rattle.mux_writer.specs.Output.{packets_of_first}
use Rattle.mux_writer.specs.Pieces.{Pieces}
use Rattle.mux_writer.specs.Writing.{Writing}
use Rattle.mux_writer.specs.Private.Writer.{HoldsRest, IsWriting}

-- the bytes of the packets of the first n slots
abbrev pub front_bytes : Layout → (slot : ℕ) → Pieces → List Sent → ℕ → List ℕ
front_bytes layout slot pieces rows n = flat_map written (packets_of_first layout slot pieces rows n)

-- where the packets of the slots before were added, and nothing was held, these are held of those before the next one
abbrev pub HoldsMore : Pieces → (old new : Writing) → (held : List ℕ) → Type 0
HoldsMore pieces old new held = (layout : Layout) (slot : ℕ) (rows : List Sent) (was now : Told) → IsWriting layout slot rows old
    → HoldsRest was now [] (front_bytes layout slot pieces rows old.at) → HoldsRest was now held (front_bytes layout slot pieces rows new.at)

-- the same rows are written
abbrev pub WritesOn : (old new : Writing) → Type 0
WritesOn old new = (layout : Layout) (slot : ℕ) (rows : List Sent) → IsWriting layout slot rows old → IsWriting layout slot rows new

-- What the writer of a stream keeps.
use Rattle.std.specs.Prelude.{◌≡◌, ℕ, ◌+◌, ◌%◌, ◌<◌, ◌≤◌, List, ◌++◌, length, take, All, slice_index, slice_set}
use Rattle.shelf_io.specs.Sink.{Told, with_bytes}
use Rattle.version_table.specs.declared.limits.TheConstants.{PROGRAMS_MOST, SLOT_MOST}
use Rattle.slot_rule.specs.declared.sent.Sent.{Sent}
use Rattle.slot_rule.specs.declared.sent.Sent.TheVariants.{Null, Pat, Pmt, Pcr, Video, Audio}
use Rattle.mux_writer.specs.declared.counters.TheConstants.{PIDS}
use Rattle.mux_writer.specs.declared.layout.Layout.{Layout}
use Rattle.mux_writer.specs.declared.prepared.Prepared.{Prepared}
use Rattle.mux_writer.specs.declared.stream_writer.StreamWriter.TheInside.{Inside}
use Rattle.mux_writer.specs.Layout.{IsLayout, map_pid, stream_pid, stream_pids}
use Rattle.mux_writer.specs.Output.{payload_count}
use Rattle.mux_writer.specs.Writing.{Writing}
use Rattle.mux_writer.specs.Tables.{pat_payload, pmt_payloads}

-- what is made once for a stream with this layout
pub record IsPrepared (layout : Layout) (prepared : Prepared) : Type 0 where
  pub pat : prepared.pat ≡ pat_payload layout
  pub pmts : prepared.pmts.items ≡ pmt_payloads layout
  pub pids : prepared.pids.items ≡ stream_pids layout
  pub few : length layout.maps.items ≤ PROGRAMS_MOST
  pub counted : All (λ pid. pid < PIDS) (stream_pids layout)

-- for each PID of the stream how many packets with payload it has in some slots, modulo 256
pub record CountersAre (layout : Layout) (rows : List Sent) (counters : List ℕ) : Type 0 where
  pub size : length counters ≡ PIDS
  pub at : (pid : ℕ) → pid < PIDS → slice_index counters pid ≡ payload_count layout pid rows % 256

-- the counts behind one more packet with payload of a PID
abbrev pub one_more : (pid : ℕ) → List ℕ → List ℕ
one_more pid counters = slice_set counters pid ((slice_index counters pid + 1) % 256)

-- the counts behind one more slot
abbrev pub counted : Layout → Sent → List ℕ → List ℕ
counted layout Null counters = counters
counted layout Pat counters = one_more 0 counters
counted layout (Pmt program) counters = one_more (map_pid program) counters
counted layout (Pcr program) counters = counters
counted layout (Video stream unit piece) counters = one_more (stream_pid layout stream) counters
counted layout (Audio stream packet) counters = one_more (stream_pid layout stream) counters

-- of some bytes those in front were added to a sink, and the rest of them is held
pub record HoldsRest (old new : Told) (held bytes : List ℕ) : Type 0 where
  pub front : List ℕ
  pub added : new ≡ with_bytes old front
  pub whole : front ++ held ≡ bytes

-- ---- a writer of one slot after the other

-- what it writes, and where it stands
abbrev pub writing_of : Inside → Writing
writing_of writer = record { layout = writer.layout.now; slot = writer.slot; rows = writer.rows.now; at = writer.next }

-- its counters are those behind the slots before the next one
pub record IsWriter (writer : Inside) : Type 0 where
  pub layout : IsLayout writer.layout.now
  pub slot : writer.slot ≤ SLOT_MOST
  pub slots : length writer.rows.now ≡ writer.slots
  pub within : writer.next ≤ writer.slots
  pub prepared : IsPrepared writer.layout.now writer.prepared
  pub counters : CountersAre writer.layout.now (take writer.next writer.rows.now) writer.counters

-- these rows are written
pub record IsWriting (layout : Layout) (slot : ℕ) (rows : List Sent) (writing : Writing) : Type 0 where
  pub layout_is : writing.layout ≡ layout
  pub slot_is : writing.slot ≡ slot
  pub rows_are : writing.rows ≡ rows
  pub within : writing.at ≤ length rows

-- What a gatherer of PES packets has gathered.
use Rattle.std.specs.Prelude.{◌≡◌, ℕ, Bool, List, [], ◌∷◌, ◌++◌, map, slice_get, Option, Some, None, if◌then◌else◌}
use Rattle.ts_packets.specs.TransportStream.{pid_pieces}
use Rattle.ts_demux.specs.declared.demuxed.AudioStream.{AudioStream}
use Rattle.ts_demux.specs.declared.demuxed.PesUnit.{PesUnit}
use Rattle.ts_demux.specs.declared.pes_gatherer.PesGatherer.{PesGatherer}
use Rattle.ts_demux.specs.Demux.{units_in}

-- the last PES packet, where one has begun
abbrev pub last_of : Option ℕ → List ℕ → List PesUnit
last_of None bytes = []
last_of (Some at) bytes = record { at = at; bytes = bytes } ∷ []

-- the PES packets so far
abbrev pub gathered_of : PesGatherer → List PesUnit
gathered_of gatherer = gatherer.whole.items ++ last_of gatherer.begun gatherer.bytes.items

-- the last PES packet goes on
abbrev pub longer : List PesUnit → List ℕ → List PesUnit
longer [] payload = []
longer (unit ∷ []) payload = record { at = unit.at; bytes = unit.bytes ++ payload } ∷ []
longer (unit ∷ next ∷ units) payload = unit ∷ longer (next ∷ units) payload

-- one payload more
abbrev pub gathered_more : List PesUnit → ℕ → Bool → List ℕ → List PesUnit
gathered_more units at start payload = if start then units ++ record { at = at; bytes = payload } ∷ [] else longer units payload

-- none is whole before the first one has begun
abbrev pub IsInOrder : PesGatherer → Type 0
IsInOrder gatherer = gatherer.begun ≡ None → gatherer.whole.items ≡ []

-- nothing but the PES packets changes
pub record IsSame (gatherer after : PesGatherer) : Type 0 where
  pub pid : after.pid ≡ gatherer.pid

-- the last PES packet is among the whole ones, and no bytes are left of it
pub record IsClosed (gatherer after : PesGatherer) : Type 0 where
  pub same : IsSame gatherer after
  pub whole : after.whole.items ≡ gathered_of gatherer
  pub begun : after.begun ≡ None

-- the gatherer has gathered what its PID carries before a packet of the file
pub record Gathers (file : List ℕ) (packet : ℕ) (gatherer : PesGatherer) : Type 0 where
  pub order : IsInOrder gatherer
  pub units : gathered_of gatherer ≡ units_in (pid_pieces file gatherer.pid 0 packet)

-- each of these gatherers stands before a packet of the file
abbrev pub AllGather : List ℕ → ℕ → List PesGatherer → Type 0
AllGather file packet gatherers = (k : ℕ) (gatherer : PesGatherer) → slice_get gatherers k ≡ Some gatherer → Gathers file packet gatherer

-- their PIDs
abbrev pub gatherer_pids : List PesGatherer → List ℕ
gatherer_pids gatherers = map (λ gatherer. gatherer.pid) gatherers

-- the stream that a gatherer has gathered
abbrev pub stream_gathered : PesGatherer → AudioStream
stream_gathered gatherer = record { pid = gatherer.pid; units = gathered_of gatherer }

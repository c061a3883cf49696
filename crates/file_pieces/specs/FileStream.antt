-- A stream of a file of a shelf that is read again.
use Rattle.std.specs.Prelude.{◌≡◌, ℕ, ◌-◌, ◌<◌, ◌≤◌, List, length, map, slice_index, Option, IfSome, IsSomeAnd}
use Rattle.shelf_io.specs.Files.{Files}
use Rattle.ts_demux.specs.CarriedPackets.{AreDistinct}
use Rattle.ts_demux.specs.Demux.{AreStreamsSound}
use Rattle.es_window.specs.EsWindow.{window_end, window_from}
use Rattle.es_window.specs.PassingBytes.{HasRead, part_read, read_index, read_pids, stream_of}
use Rattle.file_pass.specs.FilePass.{left_to}
use Rattle.file_pieces.specs.declared.file_stream.FileStream.{FileStream}
use Rattle.file_pieces.specs.declared.file_stream.OpenStream.{OpenStream}
use Rattle.file_pieces.specs.declared.limits.TheConstants.{READ_MOST}
use Rattle.file_pieces.specs.declared.stream_place.StreamPlace.{StreamPlace}

-- ---- the stream

-- the PIDs of the streams that are carried
abbrev pub pids_in : StreamPlace → List ℕ
pids_in place = map (λ stream. stream.pid) place.streams.now

-- it is one of these, which have PIDs of their own
pub record IsStreamPlace (place : StreamPlace) : Type 0 where
  pub within : place.index < length place.streams.now
  pub distinct : AreDistinct (pids_in place)

-- its bytes in a file
abbrev pub bytes_of : StreamPlace → (file : List ℕ) → List ℕ
bytes_of place file = stream_of place.part file (slice_index (pids_in place) place.index)

-- where files are told, its file as far as it is read; one that isn't held counts as empty
abbrev pub file_of : Option Files → StreamPlace → Option (List ℕ)
file_of told place = left_to told place.name.now READ_MOST 0

-- no packet of the streams is refused in a file, and the stream has the bytes before a place
pub record HasBytesTo (place : StreamPlace) (to : ℕ) (file : List ℕ) : Type 0 where
  pub sound : AreStreamsSound file (pids_in place)
  pub long : to ≤ length (bytes_of place file)

-- ---- how far it has come

-- it has come so far as the bytes of its file that were taken carry it
pub record IsOpen (told : Option Files) (place : StreamPlace) (open_stream : OpenStream) : Type 0 where
  pub within : open_stream.place ≤ READ_MOST
  pub read : HasRead (file_of told place) (left_to told place.name.now READ_MOST open_stream.place) (READ_MOST - 0) (READ_MOST - open_stream.place) open_stream.buffer open_stream.bytes
  pub pids_are : read_pids open_stream.bytes ≡ pids_in place
  pub index_is : read_index open_stream.bytes ≡ place.index
  pub part_is : part_read open_stream.bytes ≡ place.part

-- nothing of it is held, or it stands so in its file
abbrev pub Follows : Option Files → StreamPlace → FileStream → Type 0
Follows told place stream = IfSome stream.held (IsOpen told place)

-- the bytes between two places are held
abbrev pub Holds : (from to : ℕ) → FileStream → Type 0
Holds from to stream = IsSomeAnd stream.held (λ held. (window_from held.bytes.window ≤ from) × (from ≤ to) × (to ≤ window_end held.bytes.window))

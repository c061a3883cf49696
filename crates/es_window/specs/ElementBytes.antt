-- The bytes of an elementary stream that have come, while the elements of a program stream pass out of a source.
use Rattle.std.specs.Prelude.{ℕ, ◌<◌, ◌≤◌, Bool, true, false, List, [], ◌++◌, length, Option}
use Rattle.std.specs.Option.{option_to_list}
use Rattle.ts_demux.specs.declared.demuxed.PesUnit.{PesUnit}
use Rattle.ts_demux.specs.Pass.{IsWhole}
use Rattle.program_stream.specs.Elements.{Element}
use Rattle.program_stream.specs.Split.{HasElements}
use Rattle.program_stream.specs.Streams.{packets_of}
use Rattle.pes_passing.specs.ElementPackets.{HasPassed, held_of, id_of, StandsAtEnd}
use Rattle.pes_passing.specs.PassingPackets.{size_of}
use Rattle.es_window.specs.declared.element_bytes.ElementBytes.{ElementBytes}
use Rattle.es_window.specs.declared.held_part.HeldPart.{HeldPart}
use Rattle.es_window.specs.EsWindow.{window_end, IsWindowOf}
use Rattle.es_window.specs.PassingBytes.{bytes_in}

-- ---- the stream

-- what is read of all PES packets of an id among some elements
abbrev pub stream_in : HeldPart → List Element → (id : ℕ) → List ℕ
stream_in part elements id = bytes_in part (packets_of elements id)

-- the id of the stream that is held
abbrev pub read_id : ElementBytes → ℕ
read_id bytes = id_of bytes.packets

-- what of each PES packet is held
abbrev pub part_read : ElementBytes → HeldPart
part_read bytes = bytes.part

-- ---- how far it has come

-- The PES packets that have ended have come.
pub record HasSome (left left_after : Option (List ℕ)) (most most_after : ℕ) (bytes : ElementBytes) : Type 0 where
  pub ended : List PesUnit
  pub passed : HasPassed left left_after most most_after ended bytes.packets
  pub window : IsWindowOf (bytes_in bytes.part ended) bytes.window
  pub few : window_end bytes.window ≤ size_of ended

-- It stands at the end of a file, and all PES packets have come.
pub record HasAll (file : List ℕ) (bytes : ElementBytes) : Type 0 where
  pub ended : List PesUnit
  pub stands : StandsAtEnd file ended bytes.packets
  pub window : IsWindowOf (bytes_in bytes.part (ended ++ option_to_list (held_of bytes.packets))) bytes.window

-- what has come before the source's end, and behind it
abbrev pub HasCome : (has_ended : Bool) → (left left_after : Option (List ℕ)) → (most most_after : ℕ) → ElementBytes → Type 0
HasCome false left left_after most most_after bytes = HasSome left left_after most most_after bytes
HasCome true left left_after most most_after bytes = IsWhole left left_after most most_after [] (λ file. HasAll file bytes)

-- The bytes of a stream have come as far as the elements of a source, from its front on, have them.
abbrev pub HasRead : (left left_after : Option (List ℕ)) → (most most_after : ℕ) → ElementBytes → Type 0
HasRead left left_after most most_after bytes = HasCome bytes.has_ended left left_after most most_after bytes

-- the stream of the file that a source gave ends before a place
abbrev pub EndsBefore : (left left_after : Option (List ℕ)) → (most most_after : ℕ) → HeldPart → (id to : ℕ) → Type 0
EndsBefore left left_after most most_after part id to =
    IsWhole left left_after most most_after [] (λ file. (elements : List Element) (cut : ℕ) → HasElements file elements cut → length (stream_in part elements id) < to)

-- Elementary streams in program map sections (ISO/IEC 13818-1, 2.4.4.8).
use Rattle.std.specs.Prelude.{◌≡◌, ℕ, ◌+◌, ◌^◌, ◌<◌, List, ◌∷◌, ◌++◌, length, drop}
use Rattle.std.specs.List.{AllPass}
use Rattle.bit_lists.specs.Fields.{bits}
use Rattle.psi_tables.specs.declared.stream.Stream.{Stream}
use Rattle.psi_tables.specs.Section.{IsItemRow, written_pid, written_length}
use Rattle.psi_tables.specs.Descriptors.{IsDescriptor, is_kept, kept_bytes}

-- all that the section says of it
pub record StreamInfo : Type 0 where
  pub stream_type : ℕ
  pub elementary_PID : ℕ
  pub descriptors : List (List ℕ)

-- bytes of a stream's descriptors
abbrev pub ES_info_length : List ℕ → ℕ
ES_info_length bytes = bits bytes 28 12

-- stream_type, PID and length, each behind bits that may be anything, and the descriptors
pub record IsStreamInfo (info : StreamInfo) (bytes : List ℕ) : Type 0 where
  pub size : length bytes ≡ 5 + ES_info_length bytes
  pub type_is : info.stream_type ≡ bits bytes 0 8
  pub pid : info.elementary_PID ≡ bits bytes 11 13
  pub descriptors_are : IsItemRow IsDescriptor info.descriptors (drop 5 bytes)

-- what is kept of it
abbrev pub stream_of : StreamInfo → Stream
stream_of info = record {
  kind = info.stream_type;
  pid = info.elementary_PID;
  descriptors = record { items = kept_bytes info.descriptors };
}

-- ---- how it is written

-- a PID of 13 bits and whole descriptors of the kept tags
pub record IsStreamWritable (stream : Stream) : Type 0 where
  pub pid : stream.pid < 2 ^ 13
  pub descriptors : List (List ℕ)
  pub descriptors_are : IsItemRow IsDescriptor descriptors stream.descriptors.items
  pub kept : AllPass is_kept descriptors

-- how a stream is written
abbrev pub written_stream : Stream → List ℕ
written_stream stream = stream.kind ∷ written_pid stream.pid ++ written_length (length stream.descriptors.items) ++ stream.descriptors.items

-- The buffers of the system target decoder (ISO/IEC 13818-1, 2.4.2): when each byte comes into each and leaves it.
--
--     video     --> TB --> MB --> EB --> removed
--     audio     --> TB --> B ----------> removed
--     system    --> TB --> main buffer --> leaks
use Rattle.std.specs.Prelude.{ℕ, ◌-◌, ◌*◌, ◌<◌, ◌≤◌, List, [], ◌∷◌, ◌++◌, replicate, Bool, false}
use Rattle.std.specs.List.{flat_map}
use Rattle.stream_constants.specs.declared.clock.TheConstants.{SUBTICKS_PER_TICK}
use Rattle.stream_constants.specs.declared.decoder.TheConstants.{
  TB_BYTES,
  VIDEO_TB_SUBTICKS,
  AUDIO_TB_SUBTICKS,
  SYSTEM_TB_SUBTICKS,
  MB_SUBTICKS,
  EB_UNIT_BYTES,
  VIDEO_BYTES,
  AUDIO_BYTES,
  SYSTEM_BYTES,
  SYSTEM_SUBTICKS,
}
use Rattle.stream_constants.specs.declared.main_level.TheConstants.{VBV_MOST}
pub use Rattle.tstd_model.specs.declared.decoder_input.BufferKind.{BufferKind}
pub use Rattle.tstd_model.specs.declared.decoder_input.BufferKind.TheVariants.{Video, Audio, System}
pub use Rattle.tstd_model.specs.declared.decoder_input.Removal.{Removal}
use Rattle.tstd_model.specs.Instants.{came, departures, departures_into}
use Rattle.tstd_model.specs.PacketBytes.{Arrival, PacketPart, parts, arrives, is_payload, is_data, kept, with_headers}

-- a buffer: its size in bytes, and the instants at which bytes come into it and leave it
pub record DecoderBuffer : Type 0 where
  pub size : ℕ
  pub ins : List ℕ
  pub outs : List ℕ

-- the bytes in a buffer at an instant: a byte is there from when it comes until, not including, when it leaves
abbrev pub bytes_in : DecoderBuffer → (at : ℕ) → ℕ
bytes_in buffer at = came at buffer.ins - came at buffer.outs

-- the buffer is over its size at an instant
abbrev pub IsOverfull : DecoderBuffer → (at : ℕ) → Type 0
IsOverfull buffer at = buffer.size < bytes_in buffer at

-- a video stream's vbv buffer is one of Main level (13818-2, Table 8-14)
abbrev pub IsInLevel : BufferKind → Type 0
IsInLevel (Video vbv) = vbv ≤ VBV_MOST
IsInLevel Audio = Unit {0}
IsInLevel System = Unit {0}

-- subticks that a byte takes to leave TB
abbrev pub tb_subticks : BufferKind → ℕ
tb_subticks (Video vbv) = VIDEO_TB_SUBTICKS
tb_subticks Audio = AUDIO_TB_SUBTICKS
tb_subticks System = SYSTEM_TB_SUBTICKS

-- the instants at which bytes leave TB, one after the other in the order in which they come
unfoldable pub leave_tb : (slot : ℕ) → BufferKind → List Arrival → List ℕ
leave_tb slot kind arrivals = departures (tb_subticks kind) 0 (arrives slot arrivals)

-- the instants at which payload comes into the buffer behind TB
unfoldable pub payload_passes : (slot : ℕ) → BufferKind → List Arrival → List ℕ
payload_passes slot kind arrivals = kept is_payload (parts arrivals) (leave_tb slot kind arrivals)

-- the instants at which data, without PES headers, comes into the buffer behind TB
unfoldable pub data_passes : (slot : ℕ) → BufferKind → List Arrival → List ℕ
data_passes slot kind arrivals = kept is_data (parts arrivals) (leave_tb slot kind arrivals)

-- the instants at which removals take bytes, an entry for each byte
unfoldable pub removed : List Removal → List ℕ
removed removals = flat_map (λ removal. replicate removal.bytes (SUBTICKS_PER_TICK * removal.due)) removals

-- bytes of EB
abbrev pub eb_bytes : (vbv : ℕ) → ℕ
eb_bytes vbv = EB_UNIT_BYTES * vbv

-- the instants from which on EB has room for each byte: at once for as many as it holds, and for each later byte when the
-- byte that came so many before it is removed
unfoldable pub eb_rooms : (vbv : ℕ) → List Removal → List ℕ
eb_rooms vbv removals = replicate (eb_bytes vbv) 0 ++ removed removals

-- the instants at which data moves from MB to EB
unfoldable pub moves : (slot vbv : ℕ) → List Arrival → List Removal → List ℕ
moves slot vbv arrivals removals = departures_into (eb_rooms vbv removals) MB_SUBTICKS 0 (data_passes slot (Video vbv) arrivals)

-- TB: all bytes of the packets come into it
abbrev pub transport_buffer : (slot : ℕ) → BufferKind → List Arrival → DecoderBuffer
transport_buffer slot kind arrivals = record { size = TB_BYTES; ins = arrives slot arrivals; outs = leave_tb slot kind arrivals }

-- MB of video: payload comes into it, data moves on to EB, and PES headers vanish
abbrev pub multiplexing_buffer : (slot vbv : ℕ) → List Arrival → List Removal → DecoderBuffer
multiplexing_buffer slot vbv arrivals removals = record {
  size = VIDEO_BYTES - eb_bytes vbv;
  ins = payload_passes slot (Video vbv) arrivals;
  outs = with_headers (parts arrivals) (moves slot vbv arrivals removals);
}

-- EB of video: units are removed from it
abbrev pub elementary_buffer : (slot vbv : ℕ) → List Arrival → List Removal → DecoderBuffer
elementary_buffer slot vbv arrivals removals = record { size = eb_bytes vbv; ins = moves slot vbv arrivals removals; outs = removed removals }

-- B of audio: frames are removed from it
abbrev pub audio_buffer : (slot : ℕ) → List Arrival → List Removal → DecoderBuffer
audio_buffer slot arrivals removals = record { size = AUDIO_BYTES; ins = payload_passes slot Audio arrivals; outs = removed removals }

-- the main buffer of sections, which leaks
abbrev pub system_buffer : (slot : ℕ) → List Arrival → DecoderBuffer
system_buffer slot arrivals = record {
  size = SYSTEM_BYTES;
  ins = payload_passes slot System arrivals;
  outs = departures SYSTEM_SUBTICKS 0 (payload_passes slot System arrivals);
}

-- the buffers of each kind
abbrev pub buffers : (slot : ℕ) → BufferKind → List Arrival → List Removal → List DecoderBuffer
buffers slot (Video vbv) arrivals removals =
    transport_buffer slot (Video vbv) arrivals
    ∷ multiplexing_buffer slot vbv arrivals removals
    ∷ elementary_buffer slot vbv arrivals removals
    ∷ []
buffers slot Audio arrivals removals = transport_buffer slot Audio arrivals ∷ audio_buffer slot arrivals removals ∷ []
buffers slot System arrivals removals = transport_buffer slot System arrivals ∷ system_buffer slot arrivals ∷ []

-- the bytes that removals take, in order: the data of video, all payload of audio, nothing of system
abbrev pub is_removed : BufferKind → PacketPart → Bool
is_removed (Video vbv) part = is_data part
is_removed Audio part = is_payload part
is_removed System part = false

-- the instants at which these bytes are where removals take them
abbrev pub completes : (slot : ℕ) → BufferKind → List Arrival → List Removal → List ℕ
completes slot (Video vbv) arrivals removals = moves slot vbv arrivals removals
completes slot Audio arrivals removals = payload_passes slot Audio arrivals
completes slot System arrivals removals = []

-- The sizes of the buffers behind TB; no public clause cites these.
use Rattle.std.specs.Prelude.{ℕ, ◌-◌}
use Rattle.stream_constants.specs.declared.decoder.TheConstants.{VIDEO_BYTES, AUDIO_BYTES}
use Rattle.tstd_model.specs.Decoder.{BufferKind, Video, Audio, System, eb_bytes}

-- bytes for which the buffer that removals make room in has room at once
abbrev pub room_bytes : BufferKind → ℕ
room_bytes (Video vbv) = eb_bytes vbv
room_bytes Audio = AUDIO_BYTES
room_bytes System = 0

-- bytes of MB, which video alone has
abbrev pub mb_bytes : BufferKind → ℕ
mb_bytes (Video vbv) = VIDEO_BYTES - eb_bytes vbv
mb_bytes Audio = 0
mb_bytes System = 0

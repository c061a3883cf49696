-- What the code keeps of a header.
use Rattle.std.specs.Prelude.{ℕ, List, Option, Some, None, if◌then◌else◌}
use Rattle.audio_frames.specs.declared.frame_header.FrameHeader.{FrameHeader}
use Rattle.audio_frames.specs.FrameHeader.{id, sampling_index, frame_length, is_header}

-- what is kept of a header that the bytes begin with
abbrev pub header_of : List ℕ → Option FrameHeader
header_of bytes = if is_header bytes then Some (record { id = id bytes; sampling_index = sampling_index bytes; len = frame_length bytes }) else None

-- A header against the one that was kept.
use Rattle.std.specs.Prelude.{◌==◌, Bool, ◌&&◌, ℕ, List}
use Rattle.audio_frames.specs.declared.frame_header.FrameHeader.{FrameHeader}
use Rattle.audio_frames.specs.FrameHeader.{id, sampling_index, is_header}

-- the bytes begin with a header of the format that was kept
abbrev pub has_format : FrameHeader → List ℕ → Bool
has_format header bytes = is_header bytes && ((header.id == id bytes) && (header.sampling_index == sampling_index bytes))

use Rattle.std.proofs.Common.{◌≡◌, ℕ, ◌+◌, ◌<◌, ◌==◌, true, false, drop, length, Option, ap, sym, ◌∙◌}
use Rattle.std.specs.Option.{option_map_or}
use Rattle.audio_frames.specs.FrameHeader.{id}
use Rattle.audio_frames.specs.Frames.{is_first}
use Rattle.audio_frames.proofs.Formats.{first_is_frame, frame_header, kept_id}
use Rattle.audio_frames.proofs.Places.{found_passes}
use Rattle.audio_frames.proofs.low_rate.has_low_rate.Goals as goal

pub header_at-requires : goal.header_at-requires
header_at-requires c =
    let payload = c.args.payload.now in
    let first = c.in-Some.first in
    let found : (is_first payload first ≡ true) × (first < 0 + length payload) = found_passes (is_first payload) (length payload) 0 first (sym c.in-Some.ensures) in
    frame_header payload first first (first_is_frame payload first found.0)

pub returns-in-Some : goal.returns-in-Some
returns-in-Some c =
    let payload = c.args.payload.now in
    ap (λ (n : ℕ). n == 0) (kept_id (drop c.in-Some.first payload) c.header_at.result c.header_at.ensures.header)
    ∙ ap (λ (found : Option ℕ). option_map_or (λ (first : ℕ). id (drop first payload) == 0) found false) c.in-Some.ensures

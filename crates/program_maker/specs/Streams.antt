-- The PES packets of a generated program (ISO/IEC 13818-1, 2.4.3.6 and 2.4.3.7), and their times in units of 1/90,000 s.
use Rattle.std.specs.Prelude.{ℕ, ◌+◌, ◌*◌, ◌/◌, Some, List, ◌∷◌, ◌++◌}
use Rattle.std.specs.List.{range_with_len}
use Rattle.pes_units.specs.declared.times.Times.{Times}
use Rattle.pes_units.specs.VideoHeader.{written_pes_header, time_bytes}
use Rattle.program_maker.specs.declared.format.TheConstants.{FIRST_TIME, PICTURE_TIME, FRAME_TIME, FRAME_DATA_BYTES}
use Rattle.program_maker.specs.Draws.{Drawn, nothing_drawn, ◌>>=◌, pick, draw_each}

-- ---- times

-- when picture k is decoded
abbrev pub picture_dts : ℕ → ℕ
picture_dts k = FIRST_TIME + PICTURE_TIME * k

-- a picture is shown one picture time after it is decoded
abbrev pub picture_times : ℕ → Times
picture_times k = record { pts = Some (picture_dts k + PICTURE_TIME); dts = Some (picture_dts k) }

-- when frame j is decoded and shown
abbrev pub frame_pts : ℕ → ℕ
frame_pts j = FIRST_TIME + FRAME_TIME * j

-- ---- audio frames (ISO/IEC 11172-3, 2.4)

-- bytes below 255, so that no syncword stands within
unfoldable pub drawn_bytes : Drawn (List ℕ)
drawn_bytes = draw_each (range_with_len 0 FRAME_DATA_BYTES) (λ _. pick 255)

-- a header of MPEG-1 Layer II, 192 kbit/s, 48,000 Hz, stereo, and such bytes
unfoldable pub drawn_frame : Drawn (List ℕ)
drawn_frame = do
  bytes ← drawn_bytes
  nothing_drawn (0xFF ∷ 0xFD ∷ 0xA4 ∷ 0x00 ∷ bytes)

-- whole frames during so many pictures: a picture lasts as long as 5/3 frames
abbrev pub number_of_frames : ℕ → ℕ
number_of_frames pictures = 5 * pictures / 3

-- the audio frames of a program of so many pictures
abbrev pub drawn_frames : ℕ → Drawn (List (List ℕ))
drawn_frames pictures = draw_each (range_with_len 0 (number_of_frames pictures)) (λ _. drawn_frame)

-- ---- PES packets

-- picture k with its times
abbrev pub picture_pes : ℕ → List ℕ → List ℕ
picture_pes k bytes = written_pes_header (picture_times k) ++ bytes

-- stream id C0, 584 bytes behind the length, no flag but that of the PTS, five bytes of times
abbrev pub frame_header : ℕ → List ℕ
frame_header j = 0x00 ∷ 0x00 ∷ 0x01 ∷ 0xC0 ∷ 0x02 ∷ 0x48 ∷ 0x80 ∷ 0x80 ∷ 0x05 ∷ time_bytes 2 (frame_pts j)

-- frame j with its time
abbrev pub frame_pes : ℕ → List ℕ → List ℕ
frame_pes j bytes = frame_header j ++ bytes

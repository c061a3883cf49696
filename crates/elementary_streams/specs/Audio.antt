-- An audio stream: the times of its PES packets on one axis, and its frames with theirs (what a PTS belongs to by ISO/IEC 13818-1, 2.4.3.7).
use Rattle.std.specs.Prelude.{◌≡◌, ℕ, false, List, [], ◌∷◌, length, All, Option, Some, None, unwrap_or, ℤ, if◌then◌else◌}
use Rattle.audio_frames.specs.declared.audio_fault.AudioFault.{AudioFault}
use Rattle.audio_frames.specs.declared.audio_fault.AudioFault.TheVariants as audio_faults
use Rattle.audio_frames.specs.declared.frame.Frame.{Frame}
use Rattle.audio_frames.specs.declared.pes_start.PesStart.{PesStart}
use Rattle.audio_frames.specs.Frames.{has_low_rate}
use Rattle.audio_frames.specs.Times.{AreFramesOf, IsAudioRefused}
use Rattle.pes_units.specs.TimeAxis.{IsUnwrapped}
use Rattle.pes_units.specs.Times.{decoding_time}
use Rattle.ts_demux.specs.declared.demuxed.AudioStream.{AudioStream}
use Rattle.ts_demux.specs.declared.demuxed.PesUnit.{PesUnit}
use Rattle.elementary_streams.specs.declared.audio_stream.ReadStream.{ReadStream}
use Rattle.elementary_streams.specs.declared.pes_packets.PlacedPacket.{PlacedPacket}
use Rattle.elementary_streams.specs.declared.stream_fault.StreamFault.{StreamFault}
use Rattle.elementary_streams.specs.declared.stream_fault.StreamFault.TheVariants as faults
use Rattle.elementary_streams.specs.NearTimes.{IsTime}
use Rattle.elementary_streams.specs.Packets.{AreSound, IsPacketFault, joined, packets_dropped, placed_from, taken}

-- ---- times

-- the time of a PES packet on the axis of the last time before it, if it has one
abbrev pub IsOnAxis : (before : ℤ) → Option ℕ → Option ℤ → Type 0
IsOnAxis before None time = time ≡ None
IsOnAxis before (Some value) time = (placed : ℤ) × (time ≡ Some placed) × IsUnwrapped before value placed

-- PES packets with their times on one axis, each behind the last time before it, and where their payloads begin
abbrev pub AreStartsOf : (before : ℤ) → List PlacedPacket → List PesStart → Type 0
AreStartsOf before [] [] = Unit {0}
AreStartsOf before [] (_ ∷ _) = ⊥
AreStartsOf before (_ ∷ _) [] = ⊥
AreStartsOf before (packet ∷ packets) (start ∷ starts) =
    (start.at ≡ packet.from) × IsOnAxis before (decoding_time packet.header.times) start.time × AreStartsOf (unwrap_or start.time before) packets starts

-- ---- a stream

-- the PES packets of an audio stream that are taken
abbrev pub taken_of : AudioStream → List PesUnit
taken_of stream = taken false stream.units

-- The frames of an audio stream of a program whose video begins at this time, in units of 1/90,000 s.
pub record HasFrames (first : ℤ) (stream : AudioStream) (frames : List Frame) : Type 0 where
  pub sound : AreSound false stream.units
  pub starts : List PesStart
  pub starts_are : AreStartsOf first (placed_from 0 (taken_of stream)) starts
  pub frames_are : AreFramesOf (joined (taken_of stream)) starts frames

-- a fault of its frames, or memory that was wanted for them
abbrev pub of_frames : AudioFault → StreamFault
of_frames audio_faults.OutOfMemory = faults.OutOfMemory
of_frames fault = faults.Frames fault

-- What refuses it: first its PES packets, and then its frames.
pub data IsStreamRefused (first : ℤ) (stream : AudioStream) (fault : StreamFault) : Type 0 where
  bad_packet : IsPacketFault false stream.units fault → IsStreamRefused first stream fault
  bad_frames : (starts : List PesStart) (found : AudioFault) → AreSound false stream.units → AreStartsOf first (placed_from 0 (taken_of stream)) starts
      → IsAudioRefused (joined (taken_of stream)) starts found → fault ≡ of_frames found → IsStreamRefused first stream fault

-- stream_type 04 of a stream whose first frame has a low sampling rate (ISO/IEC 13818-3), 03 of every other one (ISO/IEC 11172-3): 13818-1, Table 2-34
abbrev pub audio_type : AudioStream → ℕ
audio_type stream = if has_low_rate (joined (taken_of stream)) then 4 else 3

-- What is read of an audio stream of a program whose video begins at this time: its PES packets are placed, these are its frames, none far from 0, and its type.
pub record IsStreamRead (first : ℤ) (stream : AudioStream) (read : ReadStream) : Type 0 where
  pub placed : read.packets.items ≡ placed_from 0 (taken_of stream)
  pub dropped : read.dropped ≡ packets_dropped false stream.units
  pub bytes : read.bytes ≡ length (joined (taken_of stream))
  pub frames_are : HasFrames first stream read.frames
  pub ticks : All (λ frame. IsTime frame.time) read.frames
  pub kind_is : read.kind ≡ audio_type stream

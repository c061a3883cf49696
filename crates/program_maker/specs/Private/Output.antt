-- What a program in the making holds.
use Rattle.std.specs.Prelude.{◌≡◌, ℕ, ◌+◌, ◌%◌, List, []}
use Rattle.std.specs.List.{flat_map}
use Rattle.ts_packets.specs.Packet.{PacketRecord, written}
use Rattle.program_maker.specs.declared.format.TheConstants.{VIDEO_PID, AUDIO_PID}
use Rattle.program_maker.specs.declared.output.Carried.{Carried}
use Rattle.program_maker.specs.declared.output.Carried.TheVariants.{Video, Audio}
use Rattle.program_maker.specs.declared.output.Output.{Output}
use Rattle.program_maker.specs.Packets.{payloads_of, counted}

-- these packets were written, and the counters go on behind them
pub record IsBehind (packets : List PacketRecord) (out : Output) : Type 0 where
  pub bytes_are : out.bytes.items ≡ flat_map written (counted [] packets)
  pub video_is : out.video ≡ payloads_of VIDEO_PID packets % 16
  pub audio_is : out.audio ≡ payloads_of AUDIO_PID packets % 16

-- the PID of an elementary stream
abbrev pub pid_of : Carried → ℕ
pid_of Video = VIDEO_PID
pid_of Audio = AUDIO_PID

-- its counter is taken, and the other one stays
abbrev pub TakesCounter : Carried → Output → Output → ℕ → Type 0
TakesCounter Video old new counter = (counter ≡ old.video % 16) × (new.video ≡ (old.video % 16 + 1) % 16) × (new.audio ≡ old.audio)
TakesCounter Audio old new counter = (counter ≡ old.audio % 16) × (new.audio ≡ (old.audio % 16 + 1) % 16) × (new.video ≡ old.video)

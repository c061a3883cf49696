use Rattle.std.proofs.Common.{◌≡◌, length, map, take}
use Rattle.run_report.proofs.programs.audio_bytes.Given as goal

abbrev pub invariant-loop-audio : goal.invariant-loop-audio
invariant-loop-audio l = l.bytes ≡ map (λ audio. length audio.bytes) (take l.audio-index l.audios)

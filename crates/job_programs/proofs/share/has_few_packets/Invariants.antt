use Rattle.std.proofs.Common.{◌≡◌, ◌+◌, take}
use Rattle.job_programs.specs.Share.{audio_packets}
use Rattle.job_programs.proofs.share.has_few_packets.Given as goal

abbrev pub invariant-loop-audio : goal.invariant-loop-audio
invariant-loop-audio l = l.room + audio_packets (take l.audio-index l.audios) ≡ l.most

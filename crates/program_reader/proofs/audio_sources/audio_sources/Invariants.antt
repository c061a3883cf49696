use Rattle.std.proofs.Common.{map, take}
use Rattle.program_reader.specs.Audio.{AreAudioSources}
use Rattle.program_reader.proofs.audio_sources.audio_sources.Given as goal

abbrev pub invariant-loop-at : goal.invariant-loop-at
invariant-loop-at l = AreAudioSources l.clock.start l.clock.earliest (take l.at l.streams) (map (λ one. one.frames) (take l.at l.read)) l.sources

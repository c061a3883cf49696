use Rattle.std.proofs.Common.{◌≡◌, ◌++◌, take}
use Rattle.std.specs.List.{flat_map}
use Rattle.program_maker.specs.ProgramStream.{audio_elements}
use Rattle.program_maker.proofs.other_form.put_audios.Given as goal

abbrev pub invariant-loop-audio : goal.invariant-loop-audio
invariant-loop-audio l = l.stream.items ≡ l.initial.stream.items ++ flat_map audio_elements (take l.audio-index l.audios)

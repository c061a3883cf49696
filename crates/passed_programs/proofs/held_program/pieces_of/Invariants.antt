use Rattle.std.proofs.Common.{◌≡◌, map}
use Rattle.program_reader.specs.declared.program.AudioSource.{AudioSource}
use Rattle.passed_programs.proofs.held_program.pieces_of.Given as goal

abbrev pub invariant-loop-audio : goal.invariant-loop-audio
invariant-loop-audio l = l.pieces ≡ map (λ (audio : AudioSource). audio.pieces) l.yielded

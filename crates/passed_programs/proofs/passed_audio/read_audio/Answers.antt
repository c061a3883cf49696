use Rattle.std.proofs.Common.{refl}
use Rattle.passed_programs.proofs.passed_audio.read_audio.Goals as goal

pub pass_stream-requires-clause-begins : goal.pass_stream-requires-clause-begins
pass_stream-requires-clause-begins g c = (c.new.ensures, refl, c.requires.first)

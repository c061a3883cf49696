use Rattle.std.proofs.Common.{refl}
use Rattle.passed_programs.proofs.passed_audio.read_id_audio.Goals as goal

pub pass_elements-requires : goal.pass_elements-requires
pass_elements-requires g c = (c.new.ensures, refl, c.requires)

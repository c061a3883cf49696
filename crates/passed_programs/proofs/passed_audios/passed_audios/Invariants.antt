use Rattle.std.proofs.Common.{take}
use Rattle.std.specs.List.{AllZip}
use Rattle.passed_programs.specs.Private.PassedAudios.{IsCutUp}
use Rattle.passed_programs.proofs.passed_audios.passed_audios.Given as goal

abbrev pub invariant-loop-stream : goal.invariant-loop-stream
invariant-loop-stream l = AllZip (IsCutUp l.clock.start l.clock.earliest) (take l.stream-index l.streams) l.audios

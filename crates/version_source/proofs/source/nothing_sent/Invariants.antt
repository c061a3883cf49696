use Rattle.std.proofs.Common.{◌≡◌, All, replicate, take}
use Rattle.bit_lists.specs.Fields.{AreBytes}
use Rattle.version_source.specs.Private.Kept.{nothing}
use Rattle.version_source.proofs.source.nothing_sent.Given as goal

abbrev pub invariant-loop-program : goal.invariant-loop-program
invariant-loop-program l = record {
  sent : l.sent.items ≡ replicate l.program-index nothing;
  bytes : All (λ program. AreBytes program.video) (take l.program-index l.programs);
}

use Rattle.std.proofs.Common.{◌≡◌, ◌+◌, ◌*◌, ◌≤◌, [], ◌++◌, ℕ, List, length}
use Rattle.ts_demux.specs.PacketBuffer.{Passes}
use Rattle.ts_demux.specs.TableWalk.{IsBetween}
use Rattle.ts_demux.proofs.map_pass.read_map.Given as goal

abbrev pub invariant-loop-fault : goal.invariant-loop-fault
invariant-loop-fault g l = record {
  seen : List ℕ;
  passes : Passes (g.S.Source.left l.fn.source) (g.S.Source.left l.source) (g.S.Source.most l.fn.source) (g.S.Source.most l.source) [] seen l.buffer;
  count : length seen ≡ 188 * l.n;
  between : (more : List ℕ) → IsBetween (seen ++ more) l.n l.walk;
  program : l.walk.program ≡ l.program;
  faults : g.S.Source.faults l.fn.source ≤ g.S.Source.faults l.source;
  absences : g.S.Source.absences l.fn.source ≤ g.S.Source.absences l.source;
  keeps : g.S.Source.keeps l.fn.source l.source;
}

abbrev pub decreases-loop-fault : goal.decreases-loop-fault
decreases-loop-fault g l = g.S.Source.most l.source + length l.buffer

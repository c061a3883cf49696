use Rattle.std.proofs.Common.{◌≡◌, ◌+◌, ◌*◌, ◌≤◌, [], ◌++◌, ℕ, List, All, length}
use Rattle.tstd_model.specs.PacketBytes.{HasHeaderWithin}
use Rattle.ts_demux.specs.PacketBuffer.{Passes}
use Rattle.stream_audit.specs.Private.SectionPass.{ListsBefore}
use Rattle.stream_audit.proofs.section_pass.pass_sections.Given as goal

abbrev pub invariant-packets : goal.invariant-packets
invariant-packets g l = record {
  seen : List ℕ;
  passes : Passes (g.S.Source.left l.fn.source) (g.S.Source.left l.source) (g.S.Source.most l.fn.source) (g.S.Source.most l.source) [] seen l.buffer;
  count : length seen ≡ 188 * l.n;
  every : (more : List ℕ) → ListsBefore (seen ++ more) l.fn.map_pid l.n l.readers l.arrivals;
  headers : All HasHeaderWithin l.arrivals;
  faults : g.S.Source.faults l.fn.source ≤ g.S.Source.faults l.source;
  absences : g.S.Source.absences l.fn.source ≤ g.S.Source.absences l.source;
  keeps : g.S.Source.keeps l.fn.source l.source;
}

abbrev pub decreases-packets : goal.decreases-packets
decreases-packets g l = g.S.Source.most l.source + length l.buffer

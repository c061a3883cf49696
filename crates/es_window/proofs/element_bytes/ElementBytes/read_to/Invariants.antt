use Rattle.std.proofs.Common.{◌≡◌, ◌≤◌, ℕ, List, Option}
use Rattle.es_window.specs.ElementBytes.{HasRead, part_read, read_id}
use Rattle.es_window.specs.EsWindow.{window_from}
use Rattle.es_window.specs.Private.Steps.{element_steps_left}
use Rattle.es_window.proofs.element_bytes.ElementBytes.read_to.Given as goal

abbrev pub invariant-loop-to : goal.invariant-loop-to
invariant-loop-to g l = record {
  read : (left : Option (List ℕ)) (most : ℕ) → HasRead left (g.S.Source.left l.fn.source) most (g.S.Source.most l.fn.source) l.fn.self
      → HasRead left (g.S.Source.left l.source) most (g.S.Source.most l.source) l.self;
  id : read_id l.self ≡ read_id l.fn.self;
  part : part_read l.self ≡ part_read l.fn.self;
  from : window_from l.self.window ≡ window_from l.fn.self.window;
  faults : g.S.Source.faults l.fn.source ≤ g.S.Source.faults l.source;
  absences : g.S.Source.absences l.fn.source ≤ g.S.Source.absences l.source;
  keeps : g.S.Source.keeps l.fn.source l.source;
}

abbrev pub decreases-loop-to : goal.decreases-loop-to
decreases-loop-to g l = element_steps_left l.self

use Rattle.std.proofs.Common.{ℕ, ◌∙◌, subst, refl}
use Rattle.ts_demux.specs.Tables.{StopsFirst, take, refuse}
use Rattle.ts_demux.specs.TableWalk.{IsPidKnown}
use Rattle.ts_demux.proofs.ReadCases.{goes_on, all_read, map_read, knows_pid}
use Rattle.ts_demux.proofs.table_walk.TableWalk.read_sections.Goals as goal

pub loop-map-init : goal.loop-map-init
loop-map-init c file is = (is, refl)

pub loop-map-preserved : goal.loop-map-preserved
loop-map-preserved c file is =
    let was = c.loop-map.invariant file is in
    let on = goes_on file c.loop-map.self.program c.in-Ok-GoesOn.field-0 _ _ (c.in-Ok-GoesOn.ensures.read file was.0) c.in-Ok-GoesOn.field-0-is in
    (on.0, on.1 ∙ was.1)

pub returns-in-Ok-AllRead-clause-ends : goal.returns-in-Ok-AllRead-clause-ends
returns-in-Ok-AllRead-clause-ends c file is =
    let was = c.loop-map.invariant file is in
    let on = all_read file c.loop-map.self.program c.in-Ok-AllRead.field-0 _ _ (c.in-Ok-AllRead.ensures.read file was.0) c.in-Ok-AllRead.field-0-is in
    (on.0, on.1 ∙ was.1)

pub returns-in-Ok-Map-clause-ends : goal.returns-in-Ok-Map-clause-ends
returns-in-Ok-Map-clause-ends c file is =
    let was = c.loop-map.invariant file is in
    subst (λ (program : ℕ). StopsFirst file program (take c.in-Ok-Map.map)) was.1
    (map_read file c.loop-map.self.program c.in-Ok-Map.field-0 _ _ (c.in-Ok-Map.ensures.read file was.0) c.in-Ok-Map.map c.in-Ok-Map.field-0-is)

pub returns-in-Err-clause-ends : goal.returns-in-Err-clause-ends
returns-in-Err-clause-ends c file is =
    let was = c.loop-map.invariant file is in
    subst (λ (program : ℕ). StopsFirst file program (refuse c.in-Err.fault)) was.1 (c.in-Err.ensures.read file was.0)

pub returns-in-Ok-Map-clause-known : goal.returns-in-Ok-Map-clause-known
returns-in-Ok-Map-clause-known c file is =
    let was = c.loop-map.invariant file is in
    subst (λ (program : ℕ). IsPidKnown file program c.read_section.new.self.known) was.1
    (knows_pid file c.loop-map.self.program c.in-Ok-Map.field-0 c.read_section.new.self.known (c.in-Ok-Map.ensures.known file was.0) c.in-Ok-Map.map c.in-Ok-Map.field-0-is)

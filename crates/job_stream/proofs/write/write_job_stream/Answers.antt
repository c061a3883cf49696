use Rattle.std.proofs.Common.{◌≡◌, ℕ, List, Some, All, length, sym, ap, subst, ◌∙◌, arith}
use Rattle.std.proofs.lemmas.Result.{on_err_weaker, on_ok_weaker}
use Rattle.shelf_io.specs.Sink.{AddsPrefix, with_bytes}
use Rattle.job_programs.proofs.Ends.{no_rise}
use Rattle.mux_writer.specs.declared.layout.Layout.{Layout}
use Rattle.mux_writer.specs.Output.{IsOfLayout}
use Rattle.version_source.specs.Pieces.{HasPiece, pieces_of}
use Rattle.job_stream.proofs.NamedVersions.{choice-names}
use Rattle.job_stream.proofs.ReadPrograms.{read-ready}
use Rattle.job_stream.proofs.RowLemmas.{one-row-each, rows-there}
use Rattle.job_stream.proofs.WriteLemmas.{failed-last, has-all, of-stream, sink-causes, some-stream, told-of}
use Rattle.job_stream.proofs.write.write_job_stream.Goals as goal

pub layout_of-layout-requires-clause-as_many : goal.layout_of-layout-requires-clause-as_many
layout_of-layout-requires-clause-as_many g c = (read-ready c.programs_can_be_sent.ensures.taken_out c.args.job.now c.args.programs.now c.requires.programs).as_many

pub layout_of-layout-requires-clause-few : goal.layout_of-layout-requires-clause-few
layout_of-layout-requires-clause-few g c =
    omega (arith, c.requires.job.few_programs, (read-ready c.programs_can_be_sent.ensures.taken_out c.args.job.now c.args.programs.now c.requires.programs).as_many)

pub layout_of-layout-requires-clause-out : goal.layout_of-layout-requires-clause-out
layout_of-layout-requires-clause-out g c = (read-ready c.programs_can_be_sent.ensures.taken_out c.args.job.now c.args.programs.now c.requires.programs).out

pub new-requires-clause-as_many : goal.new-requires-clause-as_many
new-requires-clause-as_many g c =
    ap length c.as_slice.ensures ∙ (read-ready c.programs_can_be_sent.ensures.taken_out c.args.job.now c.args.programs.now c.requires.programs).as_many

pub new-requires-clause-sendable : goal.new-requires-clause-sendable
new-requires-clause-sendable g c = (read-ready c.programs_can_be_sent.ensures.taken_out c.args.job.now c.args.programs.now c.requires.programs).sendable

pub new-requires-clause-names : goal.new-requires-clause-names
new-requires-clause-names g c =
    rw (c.as_slice.ensures, c.as_slice-2.ensures)
    (choice-names c.args.job.now c.args.programs.now c.args.table.now c.args.choice.now c.requires.table c.requires.fits)

pub write_stream-requires-clause-slots : goal.write_stream-requires-clause-slots
write_stream-requires-clause-slots g c = one-row-each c.args.table.now c.args.choice.now c.args.slots.now c.requires.slots

pub write_stream-requires-clause-rows : goal.write_stream-requires-clause-rows
write_stream-requires-clause-rows g c =
    subst (λ (layout : Layout). All (IsOfLayout layout (HasPiece c.in-Ok.pieces)) c.args.slots.now.rows) (sym c.layout_of-layout.ensures.value)
    (rows-there c.args.job.now c.args.programs.now c.args.table.now c.args.choice.now c.args.slots.now (HasPiece c.in-Ok.pieces) c.requires.table c.requires.fits
    (read-ready c.programs_can_be_sent.ensures.taken_out c.args.job.now c.args.programs.now c.requires.programs)
    (has-all c.args.programs.now c.args.job.now.programs c.as_slice.result.now c.args.choice.now c.as_slice-2.result.now (HasPiece c.in-Ok.pieces) c.as_slice.ensures c.as_slice-2.ensures
    c.in-Ok.ensures.has c.requires.table.versions c.requires.table.are_versions)
    (c.slots_name_the_table.ensures c.args.table.now c.args.choice.now c.args.slots.now c.requires.valid c.requires.fits c.requires.slots))

pub returns-in_default-clause-one : goal.returns-in_default-clause-one
returns-in_default-clause-one g c = some-stream c.args.job.now c.args.programs.now c.args.table.now c.args.choice.now c.args.slots.now c.requires.table

pub returns-clause-one : goal.returns-clause-one
returns-clause-one g c = some-stream c.args.job.now c.args.programs.now c.args.table.now c.args.choice.now c.args.slots.now c.requires.table

pub returns-clause-ok : goal.returns-clause-ok
returns-clause-ok g c =
    on_ok_weaker c.write_stream.result
    (λ said. of-stream c.args.job.now c.args.programs.now c.args.choice.now c.args.slots.now c.layout_of-layout.result (Some (pieces_of c.in-Ok.pieces))
    (λ (stream : List ℕ). g.K.Sink.written c.write_stream.new.to ≡ with_bytes (g.K.Sink.written c.args.to.now) stream) c.layout_of-layout.ensures.value
    (told-of c.args.programs.now c.args.job.now.programs c.as_slice.result.now c.args.choice.now c.as_slice-2.result.now (Some (pieces_of c.in-Ok.pieces))
    c.as_slice.ensures c.as_slice-2.ensures c.in-Ok.ensures.told)
    said) c.write_stream.ensures.ok

pub returns-clause-err : goal.returns-clause-err
returns-clause-err g c =
    on_err_weaker c.write_stream.result
    (λ said. of-stream c.args.job.now c.args.programs.now c.args.choice.now c.args.slots.now c.layout_of-layout.result (Some (pieces_of c.in-Ok.pieces))
    (λ (stream : List ℕ). AddsPrefix (g.K.Sink.written c.args.to.now) (g.K.Sink.written c.write_stream.new.to) stream) c.layout_of-layout.ensures.value
    (told-of c.args.programs.now c.args.job.now.programs c.as_slice.result.now c.args.choice.now c.as_slice-2.result.now (Some (pieces_of c.in-Ok.pieces))
    c.as_slice.ensures c.as_slice-2.ensures c.in-Ok.ensures.told)
    said) c.write_stream.ensures.err

pub returns-clause-causes : goal.returns-clause-causes
returns-clause-causes g c =
    sink-causes g.K.Sink.faults g.K.Sink.since_fault _ _ c.args.to.now c.write_stream.new.to c.in-Ok.pieces c.write_stream.new.pieces c.write_stream.ensures.causes

pub returns-clause-failed_last : goal.returns-clause-failed_last
returns-clause-failed_last g c =
    failed-last g.K.Sink.faults g.K.Sink.since_fault _ _ c.args.to.now c.write_stream.new.to c.in-Ok.pieces c.write_stream.new.pieces c.write_stream.ensures.causes

pub returns-in_default-clause-only_failed : goal.returns-in_default-clause-only_failed
returns-in_default-clause-only_failed g c = λ rise. absurd (no_rise (g.K.Sink.faults c.args.to.now) rise)

pub returns-clause-only_failed : goal.returns-clause-only_failed
returns-clause-only_failed g c = λ rise. (c.write_stream.ensures.causes.only_failed rise).0

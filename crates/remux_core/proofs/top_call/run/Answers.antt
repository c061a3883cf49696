use Rattle.std.proofs.Common.{◌∙◌, List, ℕ, Some, None, map, refl, ap, subst, inl, inr, arith, Err}
use Rattle.std.specs.String.{string_bytes}
use Rattle.shelf_io.specs.Sink.{with_bytes, AddsPrefix}
use Rattle.command_words.specs.declared.status.Status.TheVariants.{WriteFault, OutOfMemory}
use Rattle.shelf_io.specs.Facts.{shelf_facts, sink_facts}
use Rattle.command_words.specs.Ended.{answer_of}
use Rattle.remux_core.proofs.Answered.{as_called, outcome_of}
use Rattle.remux_core.proofs.One.{Laws}
use Rattle.shelf_io.proofs.Counted.{never_failed}
use Rattle.command_words.proofs.Ends.{memory_isnt_failed}
use Rattle.remux_core.proofs.FaultsEnd.{faults_end, uncalled_sink}
use Rattle.remux_core.proofs.top_call.run.Goals as goal

pub returns-in_default-clause-outcome : goal.returns-in_default-clause-outcome
returns-in_default-clause-outcome g c =
    let shelf = shelf_facts g.K.Shelf.files g.K.Shelf.counts g.K.Shelf.asked g.K.Shelf.since_fault in
    let sink = sink_facts g.O.Sink.written g.O.Sink.faults g.O.Sink.since_fault c.args.out.now in
    outcome_of (map string_bytes c.args.words.now) (shelf c.args.shelf.now) (shelf c.perform.new.shelf) sink sink None OutOfMemory
    c.in_default.ensures (refl, refl) (omega arith)

pub returns-in-Ok-clause-outcome : goal.returns-in-Ok-clause-outcome
returns-in-Ok-clause-outcome g c =
    let ended = c.in-Some.ended in
    let shelf = shelf_facts g.K.Shelf.files g.K.Shelf.counts g.K.Shelf.asked g.K.Shelf.since_fault in
    let sink = sink_facts g.O.Sink.written g.O.Sink.faults g.O.Sink.since_fault in
    outcome_of (map string_bytes c.args.words.now) (shelf c.args.shelf.now) (shelf c.perform.new.shelf) (sink c.args.out.now) (sink c.put_all.new.sink)
    (answer_of (Some ended)) ended.status c.in-Some.ensures
    (inl (record { same_status = refl; whole_line = c.in-Ok.ensures.ok ∙ ap (with_bytes (g.O.Sink.written c.args.out.now)) c.as_slice.ensures.value }))
    c.in-Ok.ensures.causes.faults_grow

pub returns-in-Err-Failed-clause-outcome : goal.returns-in-Err-Failed-clause-outcome
returns-in-Err-Failed-clause-outcome g c =
    let ended = c.in-Some.ended in
    let shelf = shelf_facts g.K.Shelf.files g.K.Shelf.counts g.K.Shelf.asked g.K.Shelf.since_fault in
    let sink = sink_facts g.O.Sink.written g.O.Sink.faults g.O.Sink.since_fault in
    outcome_of (map string_bytes c.args.words.now) (shelf c.args.shelf.now) (shelf c.perform.new.shelf) (sink c.args.out.now) (sink c.put_all.new.sink)
    (answer_of (Some ended)) WriteFault c.in-Some.ensures
    (inr (
      c.in-Err-Failed.ensures.causes.failed_rose (ap Err c.in-Err-Failed.field-0-is),
      c.in-Err-Failed.ensures.fault_last,
      subst (λ (piece : List ℕ). AddsPrefix (g.O.Sink.written c.args.out.now) (g.O.Sink.written c.put_all.new.sink) piece) c.as_slice.ensures.value c.in-Err-Failed.ensures.err,
    ))
    c.in-Err-Failed.ensures.causes.faults_grow

pub returns-in-Err-OutOfMemory-clause-outcome : goal.returns-in-Err-OutOfMemory-clause-outcome
returns-in-Err-OutOfMemory-clause-outcome g c =
    let ended = c.in-Some.ended in
    let shelf = shelf_facts g.K.Shelf.files g.K.Shelf.counts g.K.Shelf.asked g.K.Shelf.since_fault in
    let sink = sink_facts g.O.Sink.written g.O.Sink.faults g.O.Sink.since_fault in
    outcome_of (map string_bytes c.args.words.now) (shelf c.args.shelf.now) (shelf c.perform.new.shelf) (sink c.args.out.now) (sink c.put_all.new.sink)
    (answer_of (Some ended)) OutOfMemory c.in-Some.ensures
    (inr (subst (λ (piece : List ℕ). AddsPrefix (g.O.Sink.written c.args.out.now) (g.O.Sink.written c.put_all.new.sink) piece) c.as_slice.ensures.value c.in-Err-OutOfMemory.ensures.err))
    c.in-Err-OutOfMemory.ensures.causes.faults_grow

pub returns-in-Ok-clause-called_for : goal.returns-in-Ok-clause-called_for
returns-in-Ok-clause-called_for g c = λ files status told calls none.
    let ended = c.in-Some.ended in
    let shelf = shelf_facts g.K.Shelf.files g.K.Shelf.counts g.K.Shelf.asked g.K.Shelf.since_fault in
    let sink = sink_facts g.O.Sink.written g.O.Sink.faults g.O.Sink.since_fault in
    let laws : Laws = record {
      plan = c.plan_calls_for_one.ensures;
      gen = c.gen_calls_for_one.ensures;
      run = c.run_calls_for_one.ensures;
      check = c.check_calls_for_one.ensures;
      probe = c.probe_calls_for_one.ensures;
      check_plan = c.check_plan_calls_for_one.ensures;
      impossible = c.impossible_calls_for_one.ensures;
      fit = c.fit_calls_for_one.ensures;
      audit = c.audit_calls_for_one.ensures;
    } in
    as_called laws (map string_bytes c.args.words.now) files (shelf c.args.shelf.now) (shelf c.perform.new.shelf) (sink c.args.out.now) (sink c.put_all.new.sink)
    ended.status status (returns-in-Ok-clause-outcome g c) told calls none

pub returns-in_default-clause-faults_end : goal.returns-in_default-clause-faults_end
returns-in_default-clause-faults_end g c =
    let shelf = shelf_facts g.K.Shelf.files g.K.Shelf.counts g.K.Shelf.asked g.K.Shelf.since_fault in
    let sink = sink_facts g.O.Sink.written g.O.Sink.faults g.O.Sink.since_fault in
    faults_end (shelf c.args.shelf.now) (shelf c.perform.new.shelf) (sink c.args.out.now) (sink c.args.out.now) None OutOfMemory c.in_default.ensures.performs.ends
    (λ expected is. inr (inr refl)) (uncalled_sink (sink c.args.out.now) OutOfMemory)

pub returns-in-Ok-clause-faults_end : goal.returns-in-Ok-clause-faults_end
returns-in-Ok-clause-faults_end g c =
    let shelf = shelf_facts g.K.Shelf.files g.K.Shelf.counts g.K.Shelf.asked g.K.Shelf.since_fault in
    let sink = sink_facts g.O.Sink.written g.O.Sink.faults g.O.Sink.since_fault in
    faults_end (shelf c.args.shelf.now) (shelf c.perform.new.shelf) (sink c.args.out.now) (sink c.put_all.new.sink)
    (answer_of (Some c.in-Some.ended)) c.in-Some.ended.status c.in-Some.ensures.performs.ends (λ expected is. inl is)
    (λ rise. absurd (never_failed tt (c.in-Ok.ensures.only_failed rise)))

pub returns-in-Err-Failed-clause-faults_end : goal.returns-in-Err-Failed-clause-faults_end
returns-in-Err-Failed-clause-faults_end g c =
    let shelf = shelf_facts g.K.Shelf.files g.K.Shelf.counts g.K.Shelf.asked g.K.Shelf.since_fault in
    let sink = sink_facts g.O.Sink.written g.O.Sink.faults g.O.Sink.since_fault in
    faults_end (shelf c.args.shelf.now) (shelf c.perform.new.shelf) (sink c.args.out.now) (sink c.put_all.new.sink)
    (answer_of (Some c.in-Some.ended)) WriteFault c.in-Some.ensures.performs.ends (λ expected is. inr (inl refl))
    (λ rise. (refl, c.in-Err-Failed.ensures.fault_last))

pub returns-in-Err-OutOfMemory-clause-faults_end : goal.returns-in-Err-OutOfMemory-clause-faults_end
returns-in-Err-OutOfMemory-clause-faults_end g c =
    let shelf = shelf_facts g.K.Shelf.files g.K.Shelf.counts g.K.Shelf.asked g.K.Shelf.since_fault in
    let sink = sink_facts g.O.Sink.written g.O.Sink.faults g.O.Sink.since_fault in
    faults_end (shelf c.args.shelf.now) (shelf c.perform.new.shelf) (sink c.args.out.now) (sink c.put_all.new.sink)
    (answer_of (Some c.in-Some.ended)) OutOfMemory c.in-Some.ensures.performs.ends (λ expected is. inr (inr refl))
    (λ rise. absurd (memory_isnt_failed c.in-Err-OutOfMemory.field-0 c.in-Err-OutOfMemory.field-0-is (c.in-Err-OutOfMemory.ensures.only_failed rise)))

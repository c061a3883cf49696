-- A fault of the outside ends a run.
use Rattle.std.proofs.Common.{◌≡◌, ◌<◌, Option}
use Rattle.job_programs.proofs.Ends.{no_rise}
use Rattle.command_words.specs.declared.status.Status.{Status}
use Rattle.command_words.specs.declared.status.Status.TheVariants as statuses
use Rattle.command_words.specs.Answer.{Answer}
use Rattle.command_words.specs.Ended.{EndsAtFault, Tells}
use Rattle.shelf_io.specs.Facts.{ShelfFacts, SinkFacts}
use Rattle.remux_core.specs.Promises.{EndsWith, FaultsEnd}

-- what ended a command ended the run
pub faults_end : (old new : ShelfFacts) (out_old out_new : SinkFacts) (answer : Option Answer) (status : Status) → EndsAtFault old new answer
    → ((expected : Status) → Tells expected answer → EndsWith expected status)
    → (out_old.faults < out_new.faults → (status ≡ statuses.WriteFault) × (out_new.since_fault ≡ 0)) → FaultsEnd old new out_old out_new status
faults_end old new out_old out_new answer status ends says out = record {
  reads = λ rise. (says statuses.ReadFault (ends.reads rise).0, (ends.reads rise).1);
  writes = λ rise. (says statuses.WriteFault (ends.writes rise).0, (ends.writes rise).1);
  absences = λ rise. (says statuses.Missing (ends.absences rise).0, (ends.absences rise).1);
  reports = out;
}

-- a sink that wasn't called
pub uncalled_sink : (sink : SinkFacts) (status : Status) → sink.faults < sink.faults → (status ≡ statuses.WriteFault) × (sink.since_fault ≡ 0)
uncalled_sink sink status rise = absurd (no_rise sink.faults rise)

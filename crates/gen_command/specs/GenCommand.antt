-- What `gen SEED PICTURES OUT` does.
use Rattle.std.specs.Prelude.{◌≡◌, ℕ, ◌≤◌, ◌⊎◌, List, length, take}
use Rattle.std.specs.FinMap.{insert}
use Rattle.job_report.specs.Report.{report_line}
use Rattle.program_maker.specs.Program.{IsGeneratedProgram}
use Rattle.shelf_io.specs.Files.{Files}
use Rattle.command_words.specs.declared.status.Status.{Status}
use Rattle.command_words.specs.declared.status.Status.TheVariants.{Ok}
use Rattle.command_words.specs.declared.command.GenWords.{GenWords}
use Rattle.command_words.specs.Task.{Task}
use Rattle.gen_command.specs.Report.{gen_report}

-- whatever the files hold, the work is called for
abbrev pub GenCallsFor : Status → Type 0
GenCallsFor Ok = Unit {0}
GenCallsFor status = ⊥

-- the line prints length and pictures of the program of the seed
abbrev pub TellsProgram : (seed pictures : ℕ) → (line : List ℕ) → Type 0
TellsProgram seed pictures line = (program : List ℕ) × IsGeneratedProgram seed pictures program × (line ≡ report_line (gen_report program pictures))

-- OUT holds the program of the seed, whose length and number of pictures the line prints, and every other file stays
abbrev pub GenDone : (seed pictures : ℕ) → (out : List ℕ) → Files → (line : List ℕ) → (after : Files) → Type 0
GenDone seed pictures out files line after =
    (program : List ℕ) × IsGeneratedProgram seed pictures program × (line ≡ report_line (gen_report program pictures)) × (after ≡ insert files out program)

-- files are as they were, or OUT holds a front of the program of the seed, and every other file stays
abbrev pub GenLeaves : (seed pictures : ℕ) → (out : List ℕ) → Files → (after : Files) → Type 0
GenLeaves seed pictures out files after =
    (after ≡ files)
    ⊎ ((program : List ℕ) × IsGeneratedProgram seed pictures program × (k : ℕ) × (k ≤ length program) × (after ≡ insert files out (take k program)))

-- what `gen` has to do: it reads nothing, refuses nothing, and writes OUT
abbrev pub gen_task : (seed pictures : ℕ) → (out : List ℕ) → Task
gen_task seed pictures out = record {
  calls_for = λ told status. GenCallsFor status;
  may_refuse = λ status. ⊥;
  tells_work = λ told line. TellsProgram seed pictures line;
  fits_none = λ told slots. ⊥;
  is_done = GenDone seed pictures out;
  leaves = GenLeaves seed pictures out;
  reads = λ told name limit. ⊥;
  writes = λ name. name ≡ out;
}

-- that of the words that were read
abbrev pub gen_task_of : GenWords → Task
gen_task_of words = gen_task words.seed words.pictures words.out.now

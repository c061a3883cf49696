-- The commands, as words: what each is called.
use Rattle.std.specs.Prelude.{◌≡◌, ◌≢◌, ◌<◌, ◌≤◌, ◌^◌, ℕ, List, [], ◌∷◌, Option, Some, None, codes, decimal}
use Rattle.job_report.specs.declared.limits.TheConstants.{NUMBER_MOST}
use Rattle.program_maker.specs.declared.format.TheConstants.{PICTURES_MOST}
use Rattle.version_table.specs.declared.limits.TheConstants.{SLOT_LEAST, SLOT_MOST}

-- a command with its numbers and the names of its files
pub data Command : Type 0 where
  -- plan a table
  Plan : (table certificate : List ℕ) → Command
  -- make the program of a seed with so many pictures
  Gen : (seed pictures : ℕ) → (out : List ℕ) → Command
  -- plan the programs of a job, and write their stream
  Run : (job out certificate : List ℕ) → Command
  -- check a certificate for the programs of a job
  Check : (job certificate : List ℕ) → Command
  -- make the table of one program of a file
  Probe : (file : List ℕ) → (number : ℕ) → (table : List ℕ) → Command
  -- check a certificate for a table
  CheckPlan : (table certificate : List ℕ) → Command
  -- whether it is shown of a table that no choice is scheduled
  Impossible : (table : List ℕ) → Command
  -- in which slots of a list the programs of a job fit
  Fit : (job list : List ℕ) → Command
  -- judge one program of a file by the decoder's model, in slots of so many ticks
  Audit : (file : List ℕ) → (number slot : ℕ) → Command

-- the words `plan TABLE CERT`: two different file names that aren't empty
pub record IsPlanCommand (words : List (List ℕ)) (table certificate : List ℕ) : Type 0 where
  pub words_are : words ≡ codes "plan" ∷ table ∷ certificate ∷ []
  pub table_named : table ≢ []
  pub certificate_named : certificate ≢ []
  pub apart : table ≢ certificate

-- the words `gen SEED PICTURES OUT`: a seed below 2^64 and 1 to 4,096 pictures, both in decimal without sign or needless leading zero, and a
-- file name that isn't empty
pub record IsGenCommand (words : List (List ℕ)) (seed pictures : ℕ) (out : List ℕ) : Type 0 where
  pub words_are : words ≡ codes "gen" ∷ decimal seed ∷ decimal pictures ∷ out ∷ []
  pub seed_below : seed < 2 ^ 64
  pub some_pictures : 1 ≤ pictures
  pub few_pictures : pictures ≤ PICTURES_MOST
  pub out_named : out ≢ []

-- the words `run JOB OUT CERT`: three different file names that aren't empty
pub record IsRunCommand (words : List (List ℕ)) (job out certificate : List ℕ) : Type 0 where
  pub words_are : words ≡ codes "run" ∷ job ∷ out ∷ certificate ∷ []
  pub job_named : job ≢ []
  pub out_named : out ≢ []
  pub certificate_named : certificate ≢ []
  pub job_out_apart : job ≢ out
  pub job_certificate_apart : job ≢ certificate
  pub out_certificate_apart : out ≢ certificate

-- the words `check JOB CERT`: two different file names that aren't empty
pub record IsCheckCommand (words : List (List ℕ)) (job certificate : List ℕ) : Type 0 where
  pub words_are : words ≡ codes "check" ∷ job ∷ certificate ∷ []
  pub job_named : job ≢ []
  pub certificate_named : certificate ≢ []
  pub apart : job ≢ certificate

-- the words `probe FILE PROGRAM TABLE`: a number from 1 to 65,535 in decimal without sign or needless leading zero, and two different file
-- names that aren't empty
pub record IsProbeCommand (words : List (List ℕ)) (file : List ℕ) (number : ℕ) (table : List ℕ) : Type 0 where
  pub words_are : words ≡ codes "probe" ∷ file ∷ decimal number ∷ table ∷ []
  pub some_number : 1 ≤ number
  pub number_most : number ≤ NUMBER_MOST
  pub file_named : file ≢ []
  pub table_named : table ≢ []
  pub apart : file ≢ table

-- the words `check-plan TABLE CERT`: two different file names that aren't empty
pub record IsCheckPlanCommand (words : List (List ℕ)) (table certificate : List ℕ) : Type 0 where
  pub words_are : words ≡ codes "check-plan" ∷ table ∷ certificate ∷ []
  pub table_named : table ≢ []
  pub certificate_named : certificate ≢ []
  pub apart : table ≢ certificate

-- the words `impossible TABLE`: a file name that isn't empty
pub record IsImpossibleCommand (words : List (List ℕ)) (table : List ℕ) : Type 0 where
  pub words_are : words ≡ codes "impossible" ∷ table ∷ []
  pub table_named : table ≢ []

-- the words `fit JOB LIST`: two different file names that aren't empty
pub record IsFitCommand (words : List (List ℕ)) (job list : List ℕ) : Type 0 where
  pub words_are : words ≡ codes "fit" ∷ job ∷ list ∷ []
  pub job_named : job ≢ []
  pub list_named : list ≢ []
  pub apart : job ≢ list

-- the words `audit FILE PROGRAM SLOT`: a file name that isn't empty, and a number from 1 to 65,535 and the ticks of a slot, from 1,016 to 40,000, both in
-- decimal without sign or needless leading zero
pub record IsAuditCommand (words : List (List ℕ)) (file : List ℕ) (number slot : ℕ) : Type 0 where
  pub words_are : words ≡ codes "audit" ∷ file ∷ decimal number ∷ decimal slot ∷ []
  pub some_number : 1 ≤ number
  pub number_most : number ≤ NUMBER_MOST
  pub slot_least : SLOT_LEAST ≤ slot
  pub slot_most : slot ≤ SLOT_MOST
  pub file_named : file ≢ []

-- the words of a command
abbrev pub IsWordsOf : Command → List (List ℕ) → Type 0
IsWordsOf (Plan table certificate) words = IsPlanCommand words table certificate
IsWordsOf (Gen seed pictures out) words = IsGenCommand words seed pictures out
IsWordsOf (Run job out certificate) words = IsRunCommand words job out certificate
IsWordsOf (Check job certificate) words = IsCheckCommand words job certificate
IsWordsOf (Probe file number table) words = IsProbeCommand words file number table
IsWordsOf (CheckPlan table certificate) words = IsCheckPlanCommand words table certificate
IsWordsOf (Impossible table) words = IsImpossibleCommand words table
IsWordsOf (Fit job list) words = IsFitCommand words job list
IsWordsOf (Audit file number slot) words = IsAuditCommand words file number slot

-- the words are those of a command
abbrev pub IsCommand : List (List ℕ) → Type 0
IsCommand words = (command : Command) × IsWordsOf command words

-- the command that words say, or none where they are those of no command
abbrev pub IsSaid : List (List ℕ) → Option Command → Type 0
IsSaid words (Some command) = IsWordsOf command words
IsSaid words None = IsCommand words → ⊥

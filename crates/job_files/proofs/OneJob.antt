-- On told files a job's file has one answer: a table, a refusal of its text, a refused program, or a next file that isn't there.
use Rattle.std.proofs.Common.{◌≡◌, ℕ, List, [], ◌∷◌, ◌++◌, length, Some, None, sym, ap, subst, ◌∙◌, inl, inr, arith}
use Rattle.std.proofs.lemmas.Option.{same_Some, none-some}
use Rattle.std.specs.FinMap.{get}
use Rattle.shelf_io.specs.Files.{Files}
use Rattle.version_table.specs.declared.table.Table.{Table}
use Rattle.job_report.specs.declared.job.Job.{Job}
use Rattle.job_report.specs.declared.job.ProgramJob.{ProgramJob}
use Rattle.job_report.specs.JobText.{SpellsJob, HasAnswer, Spelled, NoDocument, Refused}
use Rattle.job_report.specs.Refusal.{FieldRefusal, OfField, OfLimit, first_refusal}
use Rattle.job_report.specs.SharedFile.{refusals_of_files}
use Rattle.job_report.proofs.OneAnswer.{one_answer}
use Rattle.program_reader.specs.declared.program.Program.{Program}
use Rattle.program_table.specs.Table.{IsTableOf}
use Rattle.job_programs.specs.declared.source_fault.SourceFault.{SourceFault}
use Rattle.job_programs.specs.Told.{AreProgramsOn, IsMissingOn, IsRefusedOn}
use Rattle.job_files.specs.declared.job_stop.TextRefusal.{TextRefusal}
use Rattle.job_files.specs.declared.job_stop.TextRefusal.TheVariants as texts
use Rattle.job_files.specs.declared.job_table.JobTable.{JobTable}
use Rattle.job_files.specs.JobFile.{HoldsJob, HoldsRefused, IsJobOfText, IsTextRefused, SharesFile, StandsApart}
use Rattle.job_files.specs.JobTable.{IsJobTable}
use Rattle.job_files.specs.Same.{IsSameText}
use Rattle.job_files.specs.Stops.{HoldsRefusedProgram, IsNextFile, IsNextProgramFile}

-- the laws that told files hold the programs of a job, or one of them is refused, or one isn't there, and that programs have one table
pub record ProgramLaws : Type 0 where
  pub programs : (files : Files) (job : Job) (one other : List Program) → AreProgramsOn (Some files) job one → AreProgramsOn (Some files) job other → one ≡ other
  pub refused : (files : Files) (job : Job) (one other : SourceFault) → IsRefusedOn (Some files) job one → IsRefusedOn (Some files) job other → one ≡ other
  pub never_both : (files : Files) (job : Job) (programs : List Program) (fault : SourceFault) → AreProgramsOn (Some files) job programs → IsRefusedOn (Some files) job fault → ⊥
  pub missing : (files : Files) (job : Job) (one other : ℕ) → IsMissingOn files job one → IsMissingOn files job other → one ≡ other
  pub missing_without_programs : (files : Files) (job : Job) (number : ℕ) (programs : List Program) → IsMissingOn files job number → AreProgramsOn (Some files) job programs → ⊥
  pub missing_without_refusal : (files : Files) (job : Job) (number : ℕ) (fault : SourceFault) → IsMissingOn files job number → IsRefusedOn (Some files) job fault → ⊥
  pub table : (job : Job) (programs : List Program) (a b : Table) → IsTableOf job programs a → IsTableOf job programs b → a ≡ b

-- ---- a text

-- a text spells one job
one_spelled : (text : List ℕ) (j k : Job) → SpellsJob text j → SpellsJob text k → j ≡ k
one_spelled text j k a b = let same : Spelled j ≡ Spelled k = one_answer text (Spelled j) (Spelled k) a b in cc

-- a text that spells a job is a document
spelled_or_none : (text : List ℕ) (job : Job) → SpellsJob text job → HasAnswer text NoDocument → ⊥
spelled_or_none text job a b = let same : Spelled job ≡ NoDocument = one_answer text (Spelled job) NoDocument a b in cc

-- a text that spells a job isn't refused
spelled_or_refused : (text : List ℕ) (job : Job) (r : FieldRefusal) → SpellsJob text job → HasAnswer text (Refused r) → ⊥
spelled_or_refused text job r a b = let same : Spelled job ≡ Refused r = one_answer text (Spelled job) (Refused r) a b in cc

-- a text that is no document isn't refused
none_or_refused : (text : List ℕ) (r : FieldRefusal) → HasAnswer text NoDocument → HasAnswer text (Refused r) → ⊥
none_or_refused text r a b = let same : NoDocument ≡ Refused r = one_answer text NoDocument (Refused r) a b in cc

-- a text is refused for one name
one_refused : (text : List ℕ) (r s : FieldRefusal) → HasAnswer text (Refused r) → HasAnswer text (Refused s) → r ≡ s
one_refused text r s a b = let same : Refused r ≡ Refused s = one_answer text (Refused r) (Refused s) a b in cc

-- a job that stands apart from a command's own files shares none with it
apart_or_shared : (text : List ℕ) (named : List (List ℕ)) (job : Job) (field : List ℕ) → IsJobOfText text named job → SharesFile text named field → ⊥
apart_or_shared text named job field is shares =
    let same : job ≡ shares.job = one_spelled text job shares.job is.spells shares.spells in
    let apart : StandsApart named shares.job = subst (λ (j : Job). StandsApart named j) same is.apart in
    none-some (OfField field) (sym apart ∙ shares.first)

-- the first field that shares a file is one
one_shared : (text : List ℕ) (named : List (List ℕ)) (field other : List ℕ) → SharesFile text named field → SharesFile text named other → field ≡ other
one_shared text named field other a b =
    let same : b.job ≡ a.job = one_spelled text b.job a.job b.spells a.spells in
    let first : first_refusal (refusals_of_files named 0 a.job.programs) ≡ Some (OfField other) =
    subst (λ (j : Job). first_refusal (refusals_of_files named 0 j.programs) ≡ Some (OfField other)) same b.first in
    let fields : OfField field ≡ OfField other = same_Some _ _ (sym a.first ∙ first) in
    cc

-- the text of a job isn't refused
job_or_refused : (text : List ℕ) (named : List (List ℕ)) (job : Job) (refusal : TextRefusal) → IsJobOfText text named job → IsTextRefused text named refusal → ⊥
job_or_refused text named job texts.NoDocument is refused = spelled_or_none text job is.spells refused
job_or_refused text named job (texts.Field name) is (inl refused) = spelled_or_refused text job (OfField name.bytes) is.spells refused
job_or_refused text named job (texts.Field name) is (inr shares) = apart_or_shared text named job name.bytes is shares
job_or_refused text named job (texts.Limit name) is refused = spelled_or_refused text job (OfLimit name.bytes) is.spells refused

-- a text has one refusal
one_text_refusal : (text : List ℕ) (named : List (List ℕ)) (a b : TextRefusal) → IsTextRefused text named a → IsTextRefused text named b → IsSameText a b
one_text_refusal text named texts.NoDocument texts.NoDocument a b = tt
one_text_refusal text named texts.NoDocument (texts.Field name) a (inl b) = none_or_refused text (OfField name.bytes) a b
one_text_refusal text named texts.NoDocument (texts.Field name) a (inr b) = spelled_or_none text b.job b.spells a
one_text_refusal text named texts.NoDocument (texts.Limit name) a b = none_or_refused text (OfLimit name.bytes) a b
one_text_refusal text named (texts.Field name) texts.NoDocument (inl a) b = none_or_refused text (OfField name.bytes) b a
one_text_refusal text named (texts.Field name) texts.NoDocument (inr a) b = spelled_or_none text a.job a.spells b
one_text_refusal text named (texts.Field name) (texts.Field other) (inl a) (inl b) =
    let same : OfField name.bytes ≡ OfField other.bytes = one_refused text (OfField name.bytes) (OfField other.bytes) a b in
    cc
one_text_refusal text named (texts.Field name) (texts.Field other) (inl a) (inr b) = absurd (spelled_or_refused text b.job (OfField name.bytes) b.spells a)
one_text_refusal text named (texts.Field name) (texts.Field other) (inr a) (inl b) = absurd (spelled_or_refused text a.job (OfField other.bytes) a.spells b)
one_text_refusal text named (texts.Field name) (texts.Field other) (inr a) (inr b) = one_shared text named name.bytes other.bytes a b
one_text_refusal text named (texts.Field name) (texts.Limit other) (inl a) b =
    let same : OfField name.bytes ≡ OfLimit other.bytes = one_refused text (OfField name.bytes) (OfLimit other.bytes) a b in
    cc
one_text_refusal text named (texts.Field name) (texts.Limit other) (inr a) b = spelled_or_refused text a.job (OfLimit other.bytes) a.spells b
one_text_refusal text named (texts.Limit name) texts.NoDocument a b = none_or_refused text (OfLimit name.bytes) b a
one_text_refusal text named (texts.Limit name) (texts.Field other) a (inl b) =
    let same : OfLimit name.bytes ≡ OfField other.bytes = one_refused text (OfLimit name.bytes) (OfField other.bytes) a b in
    cc
one_text_refusal text named (texts.Limit name) (texts.Field other) a (inr b) = spelled_or_refused text b.job (OfLimit name.bytes) b.spells a
one_text_refusal text named (texts.Limit name) (texts.Limit other) a b =
    let same : OfLimit name.bytes ≡ OfLimit other.bytes = one_refused text (OfLimit name.bytes) (OfLimit other.bytes) a b in
    cc

-- ---- lists

-- the item at one place of a list is one
same_item : {X : Type 0} (xs : List X) (x : X) (us ys : List X) (y : X) (vs : List X) → xs ++ x ∷ us ≡ ys ++ y ∷ vs → length xs ≡ length ys → x ≡ y
same_item [] x us [] y vs e same = cc
same_item [] x us (z ∷ ys) y vs e same = absurd (omega (arith, same))
same_item (w ∷ ws) x us [] y vs e same = absurd (omega (arith, same))
same_item (w ∷ ws) x us (z ∷ ys) y vs e same =
    let tail : ws ++ x ∷ us ≡ ys ++ y ∷ vs = cc in
    same_item ws x us ys y vs tail (omega (arith, same))

-- ---- a file

-- a file holds one text
pub one_text : (files : Files) (name text other : List ℕ) → get files name ≡ Some text → get files name ≡ Some other → text ≡ other
one_text files name text other a b = same_Some _ _ (sym a ∙ b)

-- a file holds one job
pub one_job : (files : Files) (name : List ℕ) (named : List (List ℕ)) (j k : Job) → HoldsJob (Some files) name named j → HoldsJob (Some files) name named k → j ≡ k
one_job files name named j k a b =
    let same : a.text ≡ b.text = one_text files name a.text b.text a.held b.held in
    one_spelled b.text j k (subst (λ (text : List ℕ). SpellsJob text j) same a.is_job.spells) b.is_job.spells

-- a file that holds a job isn't refused
pub held_or_refused : (files : Files) (name : List ℕ) (named : List (List ℕ)) (job : Job) (refusal : TextRefusal)
    → HoldsJob (Some files) name named job → HoldsRefused (Some files) name named refusal → ⊥
held_or_refused files name named job refusal a b =
    let same : a.text ≡ b.text = one_text files name a.text b.text a.held b.held in
    job_or_refused b.text named job refusal (subst (λ (text : List ℕ). IsJobOfText text named job) same a.is_job) b.refused

-- a file that holds a text is there
pub held_or_lacked : (files : Files) (name text : List ℕ) → get files name ≡ Some text → get files name ≡ None → ⊥
held_or_lacked files name text held lacks = none-some text (sym lacks ∙ held)

-- the program that isn't there
is_missing : (files : Files) (name : List ℕ) (named : List (List ℕ)) (file : List ℕ) (next : IsNextProgramFile (Some files) name named file) → get files file ≡ None
    → IsMissingOn files next.job next.number
is_missing files name named file next lacks =
    record { stopped = next.program; stops = next.stops; lacks = subst (λ (f : List ℕ). get files f ≡ None) next.file_is lacks }

-- the next file that isn't there is the job's own, which then isn't there, or that of the job's next program
missing_with_job : (files : Files) (name : List ℕ) (named : List (List ℕ)) (job : Job) (file : List ℕ) → HoldsJob (Some files) name named job
    → IsNextFile (Some files) name named file → get files file ≡ None → (number : ℕ) × IsMissingOn files job number
missing_with_job files name named job file holds (inl is) lacks =
    absurd (held_or_lacked files name holds.text holds.held (subst (λ (f : List ℕ). get files f ≡ None) is lacks))
missing_with_job files name named job file holds (inr next) lacks =
    let same : next.job ≡ job = one_job files name named next.job job next.holds holds in
    (next.number, subst (λ (j : Job). IsMissingOn files j next.number) same (is_missing files name named file next lacks))

-- two next files of programs that aren't there are one
one_missing_program : ProgramLaws → (files : Files) (name : List ℕ) (named : List (List ℕ)) (one other : List ℕ) (a : IsNextProgramFile (Some files) name named one)
    (b : IsNextProgramFile (Some files) name named other) → get files one ≡ None → get files other ≡ None → one ≡ other
one_missing_program laws files name named one other a b lacks lacked =
    let jobs : a.job ≡ b.job = one_job files name named a.job b.job a.holds b.holds in
    let first : IsMissingOn files b.job a.number = subst (λ (j : Job). IsMissingOn files j a.number) jobs (is_missing files name named one a lacks) in
    let numbers : a.number ≡ b.number = laws.missing files b.job a.number b.number first (is_missing files name named other b lacked) in
    let lists = sym a.stops.split ∙ ap (λ (j : Job). j.programs) jobs ∙ b.stops.split in
    let at = same_item a.stops.before a.program a.stops.after b.stops.before b.program b.stops.after lists (sym a.stops.number_is ∙ numbers ∙ b.stops.number_is) in
    a.file_is ∙ ap (λ (p : ProgramJob). p.file) at ∙ sym b.file_is

-- ---- laws

-- two tables of a job are made of equal parts
same_parts : (a b : JobTable) → a.job ≡ b.job → a.programs ≡ b.programs → a.table ≡ b.table → a ≡ b
same_parts a b job programs table = λ i. record { job = job i; programs = programs i; table = table i }

pub one_table : ProgramLaws → (files : Files) (name : List ℕ) (named : List (List ℕ)) (one other : JobTable) → IsJobTable (Some files) name named one
    → IsJobTable (Some files) name named other → one ≡ other
one_table laws files name named one other a b =
    let jobs : one.job ≡ other.job = one_job files name named one.job other.job a.holds b.holds in
    let moved : AreProgramsOn (Some files) other.job one.programs = subst (λ (j : Job). AreProgramsOn (Some files) j one.programs) jobs a.programs in
    let programs : one.programs ≡ other.programs = laws.programs files other.job one.programs other.programs moved b.programs in
    let first : IsTableOf other.job one.programs one.table = subst (λ (j : Job). IsTableOf j one.programs one.table) jobs a.table in
    let second : IsTableOf other.job other.programs one.table = subst (λ (ps : List Program). IsTableOf other.job ps one.table) programs first in
    same_parts one other jobs programs (laws.table other.job other.programs one.table other.table second b.table)

pub one_refusal : (files : Files) (name : List ℕ) (named : List (List ℕ)) (one other : TextRefusal) → HoldsRefused (Some files) name named one
    → HoldsRefused (Some files) name named other → IsSameText one other
one_refusal files name named one other a b =
    let same : a.text ≡ b.text = one_text files name a.text b.text a.held b.held in
    one_text_refusal b.text named one other (subst (λ (text : List ℕ). IsTextRefused text named one) same a.refused) b.refused

pub one_program : ProgramLaws → (files : Files) (name : List ℕ) (named : List (List ℕ)) (one other : SourceFault) → HoldsRefusedProgram (Some files) name named one
    → HoldsRefusedProgram (Some files) name named other → one ≡ other
one_program laws files name named one other a b =
    let jobs : a.job ≡ b.job = one_job files name named a.job b.job a.holds b.holds in
    laws.refused files b.job one other (subst (λ (j : Job). IsRefusedOn (Some files) j one) jobs a.refused) b.refused

pub one_missing : ProgramLaws → (files : Files) (name : List ℕ) (named : List (List ℕ)) (one other : List ℕ) → IsNextFile (Some files) name named one → get files one ≡ None
    → IsNextFile (Some files) name named other → get files other ≡ None → one ≡ other
one_missing laws files name named one other (inl a) lacks (inl b) lacked = a ∙ sym b
one_missing laws files name named one other (inl a) lacks (inr b) lacked =
    absurd (held_or_lacked files name b.holds.text b.holds.held (subst (λ (f : List ℕ). get files f ≡ None) a lacks))
one_missing laws files name named one other (inr a) lacks (inl b) lacked =
    absurd (held_or_lacked files name a.holds.text a.holds.held (subst (λ (f : List ℕ). get files f ≡ None) b lacked))
one_missing laws files name named one other (inr a) lacks (inr b) lacked = one_missing_program laws files name named one other a b lacks lacked

pub table_or_text : (files : Files) (name : List ℕ) (named : List (List ℕ)) (made : JobTable) (refusal : TextRefusal) → IsJobTable (Some files) name named made
    → HoldsRefused (Some files) name named refusal → ⊥
table_or_text files name named made refusal a b = held_or_refused files name named made.job refusal a.holds b

pub table_or_program : ProgramLaws → (files : Files) (name : List ℕ) (named : List (List ℕ)) (made : JobTable) (fault : SourceFault) → IsJobTable (Some files) name named made
    → HoldsRefusedProgram (Some files) name named fault → ⊥
table_or_program laws files name named made fault a b =
    let jobs : b.job ≡ made.job = one_job files name named b.job made.job b.holds a.holds in
    laws.never_both files made.job made.programs fault a.programs (subst (λ (j : Job). IsRefusedOn (Some files) j fault) jobs b.refused)

pub table_or_missing : ProgramLaws → (files : Files) (name : List ℕ) (named : List (List ℕ)) (made : JobTable) (file : List ℕ) → IsJobTable (Some files) name named made
    → IsNextFile (Some files) name named file → get files file ≡ None → ⊥
table_or_missing laws files name named made file a next lacks =
    let missing = missing_with_job files name named made.job file a.holds next lacks in
    laws.missing_without_programs files made.job missing.0 made.programs missing.1 a.programs

pub text_or_program : (files : Files) (name : List ℕ) (named : List (List ℕ)) (refusal : TextRefusal) (fault : SourceFault) → HoldsRefused (Some files) name named refusal
    → HoldsRefusedProgram (Some files) name named fault → ⊥
text_or_program files name named refusal fault a b = held_or_refused files name named b.job refusal b.holds a

pub text_or_missing : (files : Files) (name : List ℕ) (named : List (List ℕ)) (refusal : TextRefusal) (file : List ℕ) → HoldsRefused (Some files) name named refusal
    → IsNextFile (Some files) name named file → get files file ≡ None → ⊥
text_or_missing files name named refusal file a (inl is) lacks = held_or_lacked files name a.text a.held (subst (λ (f : List ℕ). get files f ≡ None) is lacks)
text_or_missing files name named refusal file a (inr next) lacks = held_or_refused files name named next.job refusal next.holds a

pub program_or_missing : ProgramLaws → (files : Files) (name : List ℕ) (named : List (List ℕ)) (fault : SourceFault) (file : List ℕ) → HoldsRefusedProgram (Some files) name named fault
    → IsNextFile (Some files) name named file → get files file ≡ None → ⊥
program_or_missing laws files name named fault file a next lacks =
    let missing = missing_with_job files name named a.job file a.holds next lacks in
    laws.missing_without_refusal files a.job missing.0 fault missing.1 a.refused

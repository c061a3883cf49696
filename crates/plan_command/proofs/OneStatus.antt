-- What TABLE holds calls for one status.
use Rattle.std.proofs.Common.{◌≡◌, ℕ, List, Some, refl, subst}
use Rattle.std.specs.FinMap.{get}
use Rattle.shelf_io.specs.Files.{Files}
use Rattle.version_table.specs.declared.table.Table.{Table}
use Rattle.version_table.specs.Choice.{IsSmallestChoice}
use Rattle.version_table.specs.Text.{IsTableRead, TextReading, Holds, RefusedAt, RefusedFor}
use Rattle.slot_rule.specs.declared.sent.Miss.{Miss}
use Rattle.slot_rule.specs.Schedule.{IsScheduled, IsFirstMiss}
use Rattle.command_words.specs.declared.status.Status.{Status}
use Rattle.command_words.specs.declared.status.Status.TheVariants as statuses
use Rattle.command_words.specs.declared.status.JobRefusal.{JobRefusal}
use Rattle.command_words.specs.declared.status.JobRefusal.TheVariants.{TableSyntax, TableLimit, JobSyntax, JobField, JobLimit, ListSyntax}
use Rattle.command_words.specs.Status.{IsSameRefusal, IsSameStatus}
use Rattle.plan_command.specs.PlanCommand.{HoldsTable, IsTableRefused, PlanCallsFor}

-- the law that each text is read in one way
abbrev pub OneReading : Type 0
OneReading = (text : List ℕ) (a b : TextReading) → IsTableRead text a → IsTableRead text b → a ≡ b

-- the laws that each text is read in one way, each table has one smallest choice, and a choice is scheduled or has one first miss
pub record PlanLaws : Type 0 where
  pub reading : OneReading
  pub smallest : (table : Table) (a b : List ℕ) → IsSmallestChoice table a → IsSmallestChoice table b → a ≡ b
  pub scheduled : (table : Table) (choice : List ℕ) (miss : Miss) → IsScheduled table choice → IsFirstMiss table choice miss → ⊥
  pub miss : (table : Table) (choice : List ℕ) (a b : Miss) → IsFirstMiss table choice a → IsFirstMiss table choice b → a ≡ b

-- a file holds one table
pub one_table : OneReading → (files : Files) (name : List ℕ) (s t : Table) → HoldsTable (Some files) name s → HoldsTable (Some files) name t → s ≡ t
one_table reading files name s t a b =
    let x = a.held in
    let y = b.held in
    let texts : a.text ≡ b.text = cc in
    let same : Holds s ≡ Holds t = reading b.text (Holds s) (Holds t) (subst (λ (x : List ℕ). IsTableRead x (Holds s)) texts a.read) b.read in
    cc

-- the text of a table isn't refused
no_refusal : OneReading → (text : List ℕ) (table : Table) (refusal : JobRefusal) → IsTableRead text (Holds table) → IsTableRefused text refusal → ⊥
no_refusal reading text table (TableSyntax n) read refused =
    let same : Holds table ≡ RefusedAt n = reading text (Holds table) (RefusedAt n) read refused in
    cc
no_refusal reading text table JobSyntax read refused = absurd refused
no_refusal reading text table (JobField name) read refused = absurd refused
no_refusal reading text table (JobLimit name) read refused = absurd refused
no_refusal reading text table (ListSyntax n) read refused = absurd refused
no_refusal reading text table (TableLimit name) read refused =
    let same : Holds table ≡ RefusedFor refused.0 = reading text (Holds table) (RefusedFor refused.0) read refused.1 in
    cc

-- a file that holds a table isn't refused
pub table_or_refusal : OneReading → (files : Files) (name : List ℕ) (table : Table) (refusal : JobRefusal) → HoldsTable (Some files) name table
    → (text : List ℕ) × (get files name ≡ Some text) × IsTableRefused text refusal → ⊥
table_or_refusal reading files name table refusal holds (text, held, refused) =
    let there = holds.held in
    let texts : holds.text ≡ text = cc in
    no_refusal reading text table refusal (subst (λ (x : List ℕ). IsTableRead x (Holds table)) texts holds.read) refused

-- a text has one refusal
pub one_refusal : OneReading → (text : List ℕ) (a b : JobRefusal) → IsTableRefused text a → IsTableRefused text b → IsSameRefusal a b
one_refusal reading text JobSyntax other a b = absurd a
one_refusal reading text (JobField name) other a b = absurd a
one_refusal reading text (JobLimit name) other a b = absurd a
one_refusal reading text (ListSyntax n) other a b = absurd a
one_refusal reading text other JobSyntax a b = absurd b
one_refusal reading text other (JobField name) a b = absurd b
one_refusal reading text other (JobLimit name) a b = absurd b
one_refusal reading text other (ListSyntax n) a b = absurd b
one_refusal reading text (TableSyntax n) (TableSyntax m) a b =
    let same : RefusedAt n ≡ RefusedAt m = reading text (RefusedAt n) (RefusedAt m) a b in
    cc
one_refusal reading text (TableSyntax n) (TableLimit name) a b =
    let same : RefusedAt n ≡ RefusedFor b.0 = reading text (RefusedAt n) (RefusedFor b.0) a b.1 in
    cc
one_refusal reading text (TableLimit name) (TableSyntax m) a b =
    let same : RefusedFor a.0 ≡ RefusedAt m = reading text (RefusedFor a.0) (RefusedAt m) a.1 b in
    cc
one_refusal reading text (TableLimit name) (TableLimit other) a b =
    let same : RefusedFor a.0 ≡ RefusedFor b.0 = reading text (RefusedFor a.0) (RefusedFor b.0) a.1 b.1 in
    let x = a.2 in
    let y = b.2 in
    cc

-- no smallest choice misses, or one has a first miss
scheduled_or_missed : PlanLaws → (files : Files) (name : List ℕ) (miss : Miss) → PlanCallsFor name (Some files) statuses.Ok → PlanCallsFor name (Some files) (statuses.Unschedulable miss) → ⊥
scheduled_or_missed laws files name miss (table, holds, scheduled) (other, choice, has, small, first) =
    let tables : other ≡ table = one_table laws.reading files name other table has holds in
    let least : IsSmallestChoice table choice = subst (λ (t : Table). IsSmallestChoice t choice) tables small in
    laws.scheduled table choice miss (scheduled choice least) (subst (λ (t : Table). IsFirstMiss t choice miss) tables first)

-- the first miss of the smallest choice is one
one_miss : PlanLaws → (files : Files) (name : List ℕ) (a b : Miss) → PlanCallsFor name (Some files) (statuses.Unschedulable a) → PlanCallsFor name (Some files) (statuses.Unschedulable b) → a ≡ b
one_miss laws files name a b (table, choice, holds, small, first) (other, least, has, smallest, missed) =
    let tables : other ≡ table = one_table laws.reading files name other table has holds in
    let moved : IsSmallestChoice table least = subst (λ (t : Table). IsSmallestChoice t least) tables smallest in
    let choices : least ≡ choice = laws.smallest table least choice moved small in
    let here : IsFirstMiss table least b = subst (λ (t : Table). IsFirstMiss t least b) tables missed in
    laws.miss table choice a b first (subst (λ (c : List ℕ). IsFirstMiss table c b) choices here)

-- what TABLE holds calls for one status
pub plan_calls_for_one : PlanLaws → (files : Files) (name : List ℕ) (s t : Status) → PlanCallsFor name (Some files) s → PlanCallsFor name (Some files) t → IsSameStatus s t
plan_calls_for_one laws files name statuses.Ok statuses.Ok a b = refl
plan_calls_for_one laws files name statuses.Ok (statuses.JobRefused refusal) a b = absurd (table_or_refusal laws.reading files name a.0 refusal a.1 b)
plan_calls_for_one laws files name statuses.Ok (statuses.Unschedulable miss) a b = absurd (scheduled_or_missed laws files name miss a b)
plan_calls_for_one laws files name statuses.Ok statuses.Missing a b = let x = a.1.held in cc
plan_calls_for_one laws files name (statuses.JobRefused refusal) statuses.Ok a b = absurd (table_or_refusal laws.reading files name b.0 refusal b.1 a)
plan_calls_for_one laws files name (statuses.JobRefused refusal) (statuses.JobRefused other) (text, held, refused) (same, holds, is) =
    let texts : same ≡ text = cc in
    one_refusal laws.reading text refusal other refused (subst (λ (x : List ℕ). IsTableRefused x other) texts is)
plan_calls_for_one laws files name (statuses.JobRefused refusal) (statuses.Unschedulable miss) a b = absurd (table_or_refusal laws.reading files name b.0 refusal b.2 a)
plan_calls_for_one laws files name (statuses.JobRefused refusal) statuses.Missing a b = let x = a.1 in cc
plan_calls_for_one laws files name (statuses.Unschedulable miss) statuses.Ok a b = absurd (scheduled_or_missed laws files name miss b a)
plan_calls_for_one laws files name (statuses.Unschedulable miss) (statuses.JobRefused refusal) a b = absurd (table_or_refusal laws.reading files name a.0 refusal a.2 b)
plan_calls_for_one laws files name (statuses.Unschedulable miss) (statuses.Unschedulable other) a b =
    let same : miss ≡ other = one_miss laws files name miss other a b in
    cc
plan_calls_for_one laws files name (statuses.Unschedulable miss) statuses.Missing a b = let x = a.2.held in cc
plan_calls_for_one laws files name statuses.Missing statuses.Ok a b = let x = b.1.held in cc
plan_calls_for_one laws files name statuses.Missing (statuses.JobRefused refusal) a b = let x = b.1 in cc
plan_calls_for_one laws files name statuses.Missing (statuses.Unschedulable miss) a b = let x = b.2.held in cc
plan_calls_for_one laws files name statuses.Missing statuses.Missing a b = refl
plan_calls_for_one laws files name statuses.Usage t a b = absurd a
plan_calls_for_one laws files name statuses.ReadFault t a b = absurd a
plan_calls_for_one laws files name statuses.WriteFault t a b = absurd a
plan_calls_for_one laws files name statuses.OutOfMemory t a b = absurd a
plan_calls_for_one laws files name (statuses.AuditFault finding) t a b = absurd a
plan_calls_for_one laws files name statuses.NoFit t a b = absurd a
plan_calls_for_one laws files name (statuses.SourceRefused fault) t a b = absurd a
plan_calls_for_one laws files name (statuses.CertRefused refusal) t a b = absurd a
plan_calls_for_one laws files name s (statuses.SourceRefused fault) a b = absurd b
plan_calls_for_one laws files name s (statuses.CertRefused refusal) a b = absurd b
plan_calls_for_one laws files name s statuses.Usage a b = absurd b
plan_calls_for_one laws files name s statuses.ReadFault a b = absurd b
plan_calls_for_one laws files name s statuses.WriteFault a b = absurd b
plan_calls_for_one laws files name s statuses.OutOfMemory a b = absurd b
plan_calls_for_one laws files name s (statuses.AuditFault finding) a b = absurd b
plan_calls_for_one laws files name s statuses.NoFit a b = absurd b

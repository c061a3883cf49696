-- Words that are parsed, one command at a time.
use Rattle.std.specs.Prelude.{◌≡◌, ◌≤◌, ℕ, List, Option, Some, None, decimal}
use Rattle.command_words.specs.declared.command.GenWords.{GenWords}
use Rattle.command_words.specs.declared.command.ProbeWords.{ProbeWords}
use Rattle.command_words.specs.declared.command.AuditWords.{AuditWords}
use Rattle.command_words.specs.Command.{IsAuditCommand, IsGenCommand, IsProbeCommand}

-- the words are those of `gen` with these numbers and this name, or of no `gen`
abbrev pub IsGenSaid : List (List ℕ) → Option GenWords → Type 0
IsGenSaid words (Some gen) = IsGenCommand words gen.seed gen.pictures gen.out.now
IsGenSaid words None = (seed pictures : ℕ) (out : List ℕ) → IsGenCommand words seed pictures out → ⊥

-- the words are those of `probe` with these names and this number, or of no `probe`
abbrev pub IsProbeSaid : List (List ℕ) → Option ProbeWords → Type 0
IsProbeSaid words (Some probe) = IsProbeCommand words probe.file.now probe.program probe.table.now
IsProbeSaid words None = (file : List ℕ) (number : ℕ) (table : List ℕ) → IsProbeCommand words file number table → ⊥

-- the words are those of `audit` with this name and these numbers, or of no `audit`
abbrev pub IsAuditSaid : List (List ℕ) → Option AuditWords → Type 0
IsAuditSaid words (Some audit) = IsAuditCommand words audit.file.now audit.program audit.slot
IsAuditSaid words None = (file : List ℕ) (number slot : ℕ) → IsAuditCommand words file number slot → ⊥

-- a word is this number in decimal, from one number up to another, or none of them
abbrev pub IsDecimalWithin : (word : List ℕ) → (least most : ℕ) → Option ℕ → Type 0
IsDecimalWithin word least most (Some n) = (word ≡ decimal n) × (least ≤ n) × (n ≤ most)
IsDecimalWithin word least most None = (n : ℕ) → least ≤ n → n ≤ most → word ≡ decimal n → ⊥

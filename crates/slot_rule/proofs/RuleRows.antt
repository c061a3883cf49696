-- Rows that follow the rule, and rows after which nothing misses: none, one more, a front, the row at a place.
use Rattle.std.proofs.Common.{ℕ, ◌<◌, List, [], ◌∷◌, ◌++◌, length, get_or, take, drop, refl, sym, subst}
use Rattle.version_table.specs.declared.table.Table.{Table}
use Rattle.slot_rule.specs.Queues.{QueuedPacket, Queue, queues_of}
use Rattle.slot_rule.specs.Buffers.{Row}
use Rattle.slot_rule.specs.Schedule.{IsRow, FollowRule, Misses, NoMiss}
use Rattle.slot_rule.proofs.RuleFronts.{AtEach-nil, AtEach-push, AtEach-front, AtEach-at}
use Rattle.std.proofs.lemmas.List.{take-append-drop}

-- the row of the slot after the rows before it, in a table under a choice
abbrev pub IsNext : Table → List ℕ → List Row → Row → Type 0
IsNext table choice = IsRow table.slot (length table.programs) (queues_of table choice)

-- nothing misses after the rows and one more
abbrev pub NoneMisses : ℕ → List Queue → List Row → Row → Type 0
NoneMisses slot queues rows row = (stream : ℕ) (packet : QueuedPacket) → Misses slot queues (rows ++ row ∷ []) stream packet → ⊥

pub FollowRule-nil : (table : Table) (choice : List ℕ) → FollowRule table choice []
FollowRule-nil table choice = AtEach-nil (IsNext table choice)

pub FollowRule-push : (table : Table) (choice : List ℕ) (rows : List Row) (row : Row)
    → FollowRule table choice rows → IsNext table choice rows row → FollowRule table choice (rows ++ row ∷ [])
FollowRule-push table choice = AtEach-push (IsNext table choice)

pub FollowRule-front : (table : Table) (choice : List ℕ) (rows more : List Row) → FollowRule table choice (rows ++ more) → FollowRule table choice rows
FollowRule-front table choice = AtEach-front (IsNext table choice)

pub FollowRule-take : (table : Table) (choice : List ℕ) (n : ℕ) (rows : List Row) → FollowRule table choice rows → FollowRule table choice (take n rows)
FollowRule-take table choice n rows follows =
    FollowRule-front table choice (take n rows) (drop n rows) (subst (λ (all : List Row). FollowRule table choice all) (sym (take-append-drop n rows)) follows)

pub FollowRule-last : (table : Table) (choice : List ℕ) (rows : List Row) (row : Row) → FollowRule table choice (rows ++ row ∷ []) → IsNext table choice rows row
FollowRule-last table choice rows row follows = follows rows row [] refl

pub FollowRule-at : (table : Table) (choice : List ℕ) (rows : List Row) → FollowRule table choice rows
    → (n : ℕ) (d : Row) → n < length rows → IsNext table choice (take n rows) (get_or rows n d)
FollowRule-at table choice = AtEach-at (IsNext table choice)

pub NoMiss-nil : (slot : ℕ) (queues : List Queue) → NoMiss slot queues []
NoMiss-nil slot queues before row after stream packet e = AtEach-nil (NoneMisses slot queues) before row after e stream packet

pub NoMiss-push : (slot : ℕ) (queues : List Queue) (rows : List Row) (row : Row)
    → NoMiss slot queues rows → NoneMisses slot queues rows row → NoMiss slot queues (rows ++ row ∷ [])
NoMiss-push slot queues rows row none at before x after stream packet e =
    AtEach-push (NoneMisses slot queues) rows row (λ before' x' after' e' stream' packet'. none before' x' after' stream' packet' e') at before x after e stream packet

pub NoMiss-last : (slot : ℕ) (queues : List Queue) (rows : List Row) (row : Row) → NoMiss slot queues (rows ++ row ∷ []) → NoneMisses slot queues rows row
NoMiss-last slot queues rows row none stream packet = none rows row [] stream packet refl

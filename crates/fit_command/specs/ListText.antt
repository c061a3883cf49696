-- The text of a list of slots: a line for each, in decimal, rising. (This project's.)
use Rattle.std.specs.Prelude.{◌≡◌, ◌≢◌, ℕ, ◌+◌, ◌<◌, ◌≤◌, ◌⊎◌, List, [], ◌∷◌, ◌++◌, length, All, decimal}
use Rattle.std.specs.List.{flat_map}
use Rattle.std.specs.List.Sorted.{IsStrictlyIncreasing}
use Rattle.version_table.specs.declared.limits.TheConstants.{SLOT_LEAST, SLOT_MOST}
use Rattle.fit_command.specs.declared.limits.TheConstants.{LIST_BYTES_MOST, LIST_LINES_MOST}

-- the line of a slot
abbrev pub slot_line : ℕ → List ℕ
slot_line slot = decimal slot ++ 10 ∷ []

-- the one spelling of a list
abbrev pub list_spelling : List ℕ → List ℕ
list_spelling slots = flat_map slot_line slots

-- these slots may stand one behind the other in a list
pub record MayBeSlots (slots : List ℕ) : Type 0 where
  pub few : length slots ≤ LIST_LINES_MOST
  pub within : All (λ slot. (SLOT_LEAST ≤ slot) × (slot ≤ SLOT_MOST)) slots
  pub rising : IsStrictlyIncreasing slots

-- a text is the list of these slots
pub record IsListText (text : List ℕ) (slots : List ℕ) : Type 0 where
  pub short : length text ≤ LIST_BYTES_MOST
  pub some : 1 ≤ length slots
  pub stand : MayBeSlots slots
  pub spelled : text ≡ list_spelling slots

-- line n, counted from 1, is the first that no list has there: no line that may stand behind those before it comes, and it isn't that the text
-- ends as a list's may
pub record IsLineRefused (text : List ℕ) (n : ℕ) : Type 0 where
  pub before : List ℕ
  pub rest : List ℕ
  pub parts : text ≡ list_spelling before ++ rest
  pub stand : MayBeSlots before
  pub number : n ≡ length before + 1
  pub no_line : (slot : ℕ) (more : List ℕ) → MayBeSlots (before ++ slot ∷ []) → rest ≢ slot_line slot ++ more
  pub owed : 1 ≤ length before → rest ≢ []

-- a text is refused at this line; one that is too long at line 0, before all else
abbrev pub IsListRefused : (text : List ℕ) → (line : ℕ) → Type 0
IsListRefused text line = ((LIST_BYTES_MOST < length text) × (line ≡ 0)) ⊎ ((length text ≤ LIST_BYTES_MOST) × IsLineRefused text line)

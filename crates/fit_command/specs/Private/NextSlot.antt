-- The line at the front of what is left of a list's text.
use Rattle.std.specs.Prelude.{◌≡◌, ◌≢◌, ◌<◌, ◌^◌, ◌-◌, ◌⊎◌, ℕ, List, [], ◌∷◌, ◌++◌, length, get_or, Option, Some, None, option_map}
use Rattle.std.specs.Borrow.{Bor}
use Rattle.fit_command.specs.ListText.{MayBeSlots, slot_line}

-- what a function returned, with the text in place of a reference to it
abbrev pub seen : Option (ℕ × Bor (List ℕ)) → Option (ℕ × List ℕ)
seen result = option_map (λ x. (x.0, x.1.now)) result

-- a line of a number below 2^64 in decimal, and what follows it; none where there is no such line
abbrev pub IsNextNumber : List ℕ → Option (ℕ × List ℕ) → Type 0
IsNextNumber text (Some found) = (found.0 < 2 ^ 64) × (text ≡ slot_line found.0 ++ found.1)
IsNextNumber text None = (number : ℕ) (behind : List ℕ) → number < 2 ^ 64 → text ≢ slot_line number ++ behind

-- the line of a slot that may stand behind these; none where there is no such line
abbrev pub IsNextSlot : List ℕ → (before : List ℕ) → Option (ℕ × List ℕ) → Type 0
IsNextSlot text before (Some found) = MayBeSlots (before ++ found.0 ∷ []) × (text ≡ slot_line found.0 ++ found.1)
IsNextSlot text before None = (slot : ℕ) (behind : List ℕ) → MayBeSlots (before ++ slot ∷ []) → text ≢ slot_line slot ++ behind

-- the place of the first line end, or none
abbrev pub IsLineEnd : List ℕ → Option ℕ → Type 0
IsLineEnd text (Some k) = (k < length text) × (get_or text k 0 ≡ 10) × ((j : ℕ) → j < k → get_or text j 0 ≡ 10 → ⊥)
IsLineEnd text None = (j : ℕ) → j < length text → get_or text j 0 ≡ 10 → ⊥

-- a number is greater than the last of some slots
abbrev pub Rises : List ℕ → ℕ → Type 0
Rises before number = (length before ≡ 0) ⊎ (get_or before (length before - 1) 0 < number)

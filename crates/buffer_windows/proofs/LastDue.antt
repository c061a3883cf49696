-- The last due time of a program's units in a window.
use Rattle.std.proofs.Common.{◌≡◌, ℕ, zero, suc, ◌+◌, ◌-◌, ◌<◌, ◌≤◌, nat_le, List, [], ◌∷◌, length, map, take, drop, filter, fold, max, get_or, refl, sym, ap, ◌∙◌, inl, inr, arith}
use Rattle.std.specs.List.Sorted.{IsStrictlyIncreasing}
use Rattle.std.proofs.lemmas.Bool.{cases_lt, le-leb, lt-leb}
use Rattle.std.proofs.lemmas.List.{get_or-map, length-map}
use Rattle.version_table.specs.declared.table.Unit.{Unit as CodedUnit}
use Rattle.version_table.specs.declared.table.ProgramRow.{ProgramRow}
use Rattle.buffer_windows.specs.declared.windows.BufferWindow.{BufferWindow}
use Rattle.buffer_windows.specs.Room.{last_due}
use Rattle.buffer_windows.proofs.Fronts.{filter_places, max_rising}

abbrev dues_of : List CodedUnit → List ℕ
dues_of units = map (λ (unit : CodedUnit). unit.due) units

abbrev no_unit : CodedUnit
no_unit = record { due = 0; versions = record { items = [] } }

-- each of some numbers that rise is no more than a later one
stay : (xs : List ℕ) → IsStrictlyIncreasing xs → (i j : ℕ) → i ≤ j → j < length xs → get_or xs i 0 ≤ get_or xs j 0
stay xs rise i zero upto within = (let same : i ≡ 0 = omega arith in omega (arith, ap (λ k. get_or xs k 0) same))
stay xs rise i (suc j) upto within = elim (cases_lt i (suc j)) as (λ _. get_or xs i 0 ≤ get_or xs (suc j) 0) [
  | inl less ↦
      (let next : j + 1 ≡ suc j = omega arith in
      let more : get_or xs j 0 < get_or xs (j + 1) 0 = rise j (omega arith) in
      omega (arith, stay xs rise i j (omega arith) (omega arith), ap (λ k. get_or xs k 0) next))
  | inr more ↦ (let same : i ≡ suc j = omega arith in omega (arith, ap (λ k. get_or xs k 0) same))
]

-- due times that rise don't fall
pub dues_stay : (units : List CodedUnit) → IsStrictlyIncreasing (map (λ (unit : CodedUnit). unit.due) units) → (i j : ℕ) (d : CodedUnit) → i ≤ j → j < length units
    → (get_or units i d).due ≤ (get_or units j d).due
dues_stay units rise i j d upto within =
    let size : length (dues_of units) ≡ length units = length-map units (λ (unit : CodedUnit). unit.due) in
    let low : get_or (dues_of units) i 0 ≡ (get_or units i d).due = get_or-map (λ (unit : CodedUnit). unit.due) units i d 0 (omega arith) in
    let high : get_or (dues_of units) j 0 ≡ (get_or units j d).due = get_or-map (λ (unit : CodedUnit). unit.due) units j d 0 within in
    omega (arith, stay (dues_of units) rise i j upto (omega arith))

-- the due times in the window are the first ones
in_window : (window : BufferWindow) (units : List CodedUnit) (n : ℕ) → ((k : ℕ) (d : CodedUnit) → k < n → k < length units → (get_or units k d).due ≤ window.due)
    → ((k : ℕ) (d : CodedUnit) → n ≤ k → k < length units → window.due < (get_or units k d).due)
    → filter (λ due. nat_le due window.due) (map (λ (unit : CodedUnit). unit.due) units) ≡ take n (drop 0 (map (λ (unit : CodedUnit). unit.due) units))
in_window window units n by later =
    let size : length (dues_of units) ≡ length units = length-map units (λ (unit : CodedUnit). unit.due) in
    filter_places (λ due. nat_le due window.due) (dues_of units) 0 n
    (λ k d within low high.
    let own : get_or (dues_of units) k d ≡ (get_or units k no_unit).due = get_or-map (λ (unit : CodedUnit). unit.due) units k no_unit d (omega arith) in
    le-leb (get_or (dues_of units) k d) window.due (omega (arith, own, by k no_unit (omega arith) (omega arith))))
    (λ k d within low. absurd (omega arith))
    (λ k d within high.
    let own : get_or (dues_of units) k d ≡ (get_or units k no_unit).due = get_or-map (λ (unit : CodedUnit). unit.due) units k no_unit d (omega arith) in
    lt-leb (get_or (dues_of units) k d) window.due (omega (arith, own, later k no_unit (omega arith) (omega arith))))

whole : {X : Type 0} (xs : List X) (n : ℕ) → take n (drop 0 xs) ≡ take n xs
whole [] n = refl
whole (x ∷ xs) n = refl

-- none is in it
pub last_due-none : (window : BufferWindow) (row : ProgramRow) → ((k : ℕ) (d : CodedUnit) → 0 ≤ k → k < length row.units → window.due < (get_or row.units k d).due)
    → last_due window row ≡ 0
last_due-none window row later =
    ap (fold max 0) (in_window window row.units 0 (λ k d low within. absurd (omega arith)) later ∙ whole (dues_of row.units) 0 ∙ none (dues_of row.units))
  where
    none : (xs : List ℕ) → take 0 xs ≡ []
    none [] = refl
    none (x ∷ xs) = refl

-- the first ones are
pub last_due-is : (window : BufferWindow) (row : ProgramRow) (n : ℕ) (d : CodedUnit) → IsStrictlyIncreasing (map (λ (unit : CodedUnit). unit.due) row.units) → 1 ≤ n
    → n ≤ length row.units → ((k : ℕ) (d : CodedUnit) → k < n → k < length row.units → (get_or row.units k d).due ≤ window.due)
    → ((k : ℕ) (d : CodedUnit) → n ≤ k → k < length row.units → window.due < (get_or row.units k d).due) → last_due window row ≡ (get_or row.units (n - 1) d).due
last_due-is window row n d rise some within by later =
    let dues = dues_of row.units in
    let size : length (dues_of row.units) ≡ length row.units = length-map row.units (λ (unit : CodedUnit). unit.due) in
    let front : (n - 1) + 1 ≡ n = omega arith in
    ap (fold max 0) (in_window window row.units n by later ∙ whole (dues_of row.units) n ∙ ap (λ k. take k (dues_of row.units)) (sym front))
    ∙ max_rising (dues_of row.units) (stay (dues_of row.units) rise) (n - 1) (omega arith)
    ∙ get_or-map (λ (unit : CodedUnit). unit.due) row.units (n - 1) d 0 (omega arith)

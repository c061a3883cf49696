-- Where a stream stands among those of programs.
use Rattle.std.specs.Prelude.{◌≡◌, ℕ, suc, zero, ◌+◌, ◌<◌, ◌≤◌, List, [], ◌∷◌, length, drop, slice_index_or}
use Rattle.program_reader.specs.declared.program.Program.{Program}
use Rattle.version_source.specs.declared.place.Place.{Place}

-- the choice has a number for each unit of the programs
abbrev pub Covers : List Program → (choice : List ℕ) → Type 0
Covers [] choice = Unit {0}
Covers (program ∷ programs) choice = (length program.units ≤ length choice) × Covers programs (drop (length program.units) choice)

-- behind the streams and the units of so many programs this number is left of the stream's, and this part of the choice
abbrev pub Skips : List Program → (choice : List ℕ) → (stream count left : ℕ) → (rest : List ℕ) → Type 0
Skips programs choice stream zero left rest = (left ≡ stream) × (rest ≡ choice)
Skips [] choice stream (suc count) left rest = ⊥
Skips (program ∷ programs) choice stream (suc count) left rest =
    (below : ℕ) × (stream ≡ suc (length program.audios) + below) × Skips programs (drop (length program.units) choice) below count left rest

-- the stream is one of this program's
pub record IsPlace (programs : List Program) (choice : List ℕ) (stream : ℕ) (place : Place) : Type 0 where
  pub skips : Skips programs choice stream place.program place.stream place.choice.now
  pub within : place.program < length programs
  pub one : (other : Program) → place.stream ≤ length (slice_index_or programs place.program other).audios

-- the stream is none of them
pub record IsNoPlace (programs : List Program) (choice : List ℕ) (stream : ℕ) : Type 0 where
  pub left : ℕ
  pub rest : List ℕ
  pub skips : Skips programs choice stream (length programs) left rest

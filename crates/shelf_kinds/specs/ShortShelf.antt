-- What a shelf in memory that moves few bytes a call is, as contracts see it.
use Rattle.std.specs.Prelude.{ℕ, Result, refl}
use Rattle.std.specs.Coded.{Coded, code_by, coded×, coded_ℕ}
use Rattle.shelf_io.specs.declared.fault.Fault.{Fault}
use Rattle.shelf_kinds.specs.CalmShelf.{CalmState, after_read as calm_after_read, calm_code, calm_counts}
use Rattle.shelf_io.specs.Counts.{ShelfCounts}
use Rattle.shelf_io.specs.Files.{Files}

-- a shelf that never fails, and the most bytes that a call of it moves
pub record ShortState : Type 0 where
  pub calm : CalmState
  pub limit : ℕ

-- by this code a proof tells shelves apart
abbrev pub short_code : Coded ShortState
short_code = code_by (CalmState × ℕ) (coded× calm_code coded_ℕ) (λ s. (s.calm, s.limit)) (λ p. record { calm = p.0; limit = p.1 }) (λ _. refl)

-- its counts: no call fails
abbrev pub short_counts : ShortState → ShelfCounts
short_counts shelf = calm_counts shelf.calm

-- after a call of read
abbrev pub after_read : ShortState → Result ℕ Fault → ShortState
after_read shelf result = record shelf { calm = calm_after_read shelf.calm result }

-- it holds these files now
abbrev pub with_files : ShortState → Files → ShortState
with_files shelf files = record shelf { calm = record shelf.calm { files = files } }

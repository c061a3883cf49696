-- What a shelf in memory is, as contracts see it.
use Rattle.std.specs.Prelude.{ℕ, List, Result, Ok, Err, Contains, refl}
use Rattle.std.specs.Coded.{Coded, code_by, coded×, coded_ℕ, coded_list}
use Rattle.shelf_io.specs.declared.fault.Fault.{Fault}
use Rattle.shelf_kinds.specs.Counted.{counts_after_read, counts_after_write, since_fault_after}
use Rattle.shelf_io.specs.Counts.{ShelfCounts, counts_code, one_more}
use Rattle.shelf_io.specs.Files.{Files, files_code}

-- its files, its counts, how many calls of Shelf there were, how many of them after the last fault, and the numbers of
-- the calls that fail
pub record ShelfState : Type 0 where
  pub files : Files
  pub counts : ShelfCounts
  pub calls : ℕ
  pub since_fault : ℕ
  pub failing : List ℕ

-- by this code a proof tells shelves apart
abbrev pub shelf_code : Coded ShelfState
shelf_code =
    code_by (Files × (ShelfCounts × (ℕ × (ℕ × List ℕ)))) (coded× files_code (coded× counts_code (coded× coded_ℕ (coded× coded_ℕ (coded_list coded_ℕ)))))
    (λ s. (s.files, (s.counts, (s.calls, (s.since_fault, s.failing)))))
    (λ p. record { files = p.0; counts = p.1.0; calls = p.1.1.0; since_fault = p.1.1.1.0; failing = p.1.1.1.1 }) (λ _. refl)

-- the next call is one of those that fail
abbrev pub FailsNext : ShelfState → Type 0
FailsNext shelf = Contains shelf.failing (one_more shelf.calls)

-- after a call of read
abbrev pub after_read : ShelfState → Result ℕ Fault → ShelfState
after_read shelf result = record shelf {
  counts = counts_after_read shelf.counts result;
  calls = one_more shelf.calls;
  since_fault = since_fault_after shelf.since_fault result;
}

-- after a call of start or append that left these files
abbrev pub after_write : {T : Type 0} → ShelfState → Result T Fault → Files → ShelfState
after_write shelf (Ok n) files = record shelf { files = files; calls = one_more shelf.calls; since_fault = one_more shelf.since_fault }
after_write shelf (Err fault) files = record shelf {
  counts = counts_after_write {T = ℕ} shelf.counts (Err fault);
  calls = one_more shelf.calls;
  since_fault = 0;
}

-- Counts of failures, which are numbers of 64 bits that never fall.
use Rattle.std.specs.Prelude.{ℕ, ◌+◌, ◌-◌, ◌<◌, ◌^◌, nat_lt, if◌then◌else◌, refl}
use Rattle.std.specs.Coded.{Coded, code_by, coded×, coded_ℕ}

-- in a call a count went up; one that stands at its type's end counts as risen
abbrev pub Rose : ℕ → ℕ → Type 0
Rose old new = old < 2 ^ 64 - 1 → old < new

-- a count after one more, which stands still at its type's end
abbrev pub one_more : ℕ → ℕ
one_more n = if nat_lt n (2 ^ 64 - 1) then n + 1 else n

-- the counts of a shelf: reads that failed, writes that failed, and reads of a name that isn't held
pub record ShelfCounts : Type 0 where
  pub faults : ℕ
  pub write_faults : ℕ
  pub absences : ℕ

-- the counts after one more failed read, which has no other trace
abbrev pub with_fault : ShelfCounts → ShelfCounts
with_fault counts = record counts { faults = one_more counts.faults }

-- by this code a proof tells counts apart
abbrev pub counts_code : Coded ShelfCounts
counts_code =
    code_by (ℕ × (ℕ × ℕ)) (coded× coded_ℕ (coded× coded_ℕ coded_ℕ)) (λ s. (s.faults, (s.write_faults, s.absences)))
    (λ p. record { faults = p.0; write_faults = p.1.0; absences = p.1.1 }) (λ _. refl)

-- the counts that a new shelf has
abbrev pub no_counts : ShelfCounts
no_counts = record { faults = 0; write_faults = 0; absences = 0 }

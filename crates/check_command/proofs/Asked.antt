-- Which files `check` asks for.
use Rattle.std.proofs.Common.{◌≡◌, ◌+◌, ◌≤◌, ℕ, List, Option, max, refl, sym, subst, inl, inr, arith}
use Rattle.bound_certificate.specs.declared.limits.TheConstants.{CERT_BYTES_MOST}
use Rattle.command_words.specs.Task.{AsksOnly}
use Rattle.job_files.specs.Stops.{AsksForJob, IsJobFile}
use Rattle.job_files.proofs.Asked.{held_apart}
use Rattle.shelf_io.specs.Asked.{AsksUpTo}
use Rattle.shelf_io.specs.Files.{Files}
use Rattle.check_command.specs.CheckCommand.{check_task, files_of_check}

-- CERT is none of the files that `check` reads for its job
not_job_file : (told : Option Files) (job certificate : List ℕ) → (job ≡ certificate → ⊥) → (limit : ℕ)
    → IsJobFile told job (files_of_check job certificate) certificate limit → ⊥
not_job_file told job certificate apart limit (inl own) = apart (sym own.0)
not_job_file told job certificate apart limit (inr (made, holds, among, most)) =
    held_apart told job (files_of_check job certificate) certificate (1, omega arith, refl) made holds among

-- `check` asks for what the job in JOB is read from
pub asks_check_job : (told : Option Files) (job certificate : List ℕ) (old new : List ℕ → ℕ) → (job ≡ certificate → ⊥)
    → AsksForJob told job (files_of_check job certificate) old new → AsksOnly (check_task job certificate) told old new
asks_check_job told job certificate old new apart asks = record {
  within = λ name limit reads. elim reads [
    | inl read ↦ asks.within name limit read
    | inr own ↦
        let kept = asks.others certificate (λ l is. not_job_file told job certificate apart l is) in
        subst (λ (n : List ℕ). new n ≤ max (old n) (limit + 1)) (sym own.0) (omega arith)
  ];
  others = λ name none. asks.others name (λ limit read. none limit (inl read));
}

-- and then for CERT
pub asks_cert : (told : Option Files) (job certificate : List ℕ) (old new : List ℕ → ℕ) → (job ≡ certificate → ⊥) → AsksUpTo certificate (CERT_BYTES_MOST + 1) old new
    → AsksOnly (check_task job certificate) told old new
asks_cert told job certificate old new apart asks = record {
  within = λ name limit reads. elim reads [
    | inl read ↦
        let less = asks.others name (λ same. not_job_file told job certificate apart limit
        (subst (λ (n : List ℕ). IsJobFile told job (files_of_check job certificate) n limit) same read)) in
        omega arith
    | inr own ↦
        subst (λ (n : List ℕ). new n ≤ max (old n) (limit + 1)) (sym own.0)
        (subst (λ (l : ℕ). new certificate ≤ max (old certificate) (l + 1)) (sym own.1) asks.here)
  ];
  others = λ name none. asks.others name (λ same. none CERT_BYTES_MOST (inr (same, refl)));
}

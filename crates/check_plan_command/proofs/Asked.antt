-- Which files `check-plan` asks for.
use Rattle.std.proofs.Common.{◌≡◌, ◌∙◌, ◌+◌, ◌≤◌, ℕ, List, Option, max, refl, sym, subst, inl, inr, arith}
use Rattle.bound_certificate.specs.declared.limits.TheConstants.{CERT_BYTES_MOST}
use Rattle.version_table.specs.declared.limits.TheConstants.{TABLE_TEXT_MOST}
use Rattle.command_words.specs.Task.{AsksOnly}
use Rattle.shelf_io.specs.Asked.{AsksUpTo}
use Rattle.shelf_io.specs.Files.{Files}
use Rattle.check_plan_command.specs.CheckPlanCommand.{check_plan_task}

-- `check-plan` asks for TABLE
pub asks_table : (told : Option Files) (table certificate : List ℕ) (old new : List ℕ → ℕ) → (table ≡ certificate → ⊥) → AsksUpTo table (TABLE_TEXT_MOST + 1) old new
    → AsksOnly (check_plan_task table certificate) told old new
asks_table told table certificate old new apart asks = record {
  within = λ name limit reads. elim reads [
    | inl own ↦
        subst (λ (n : List ℕ). new n ≤ max (old n) (limit + 1)) (sym own.0)
        (subst (λ (l : ℕ). new table ≤ max (old table) (l + 1)) (sym own.1) asks.here)
    | inr cert ↦
        let less = asks.others name (λ same. apart (sym same ∙ cert.0)) in
        omega arith
  ];
  others = λ name none. asks.others name (λ same. none TABLE_TEXT_MOST (inl (same, refl)));
}

-- and then for CERT
pub asks_cert : (told : Option Files) (table certificate : List ℕ) (old new : List ℕ → ℕ) → (table ≡ certificate → ⊥) → AsksUpTo certificate (CERT_BYTES_MOST + 1) old new
    → AsksOnly (check_plan_task table certificate) told old new
asks_cert told table certificate old new apart asks = record {
  within = λ name limit reads. elim reads [
    | inl text ↦
        let less = asks.others name (λ same. apart (sym text.0 ∙ same)) in
        omega arith
    | inr own ↦
        subst (λ (n : List ℕ). new n ≤ max (old n) (limit + 1)) (sym own.0)
        (subst (λ (l : ℕ). new certificate ≤ max (old certificate) (l + 1)) (sym own.1) asks.here)
  ];
  others = λ name none. asks.others name (λ same. none CERT_BYTES_MOST (inr (same, refl)));
}

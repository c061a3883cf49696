-- There is one verdict on a table.
use Rattle.std.proofs.Common.{◌≡◌, ℕ, List, refl, ap, subst}
use Rattle.slot_rule.specs.declared.sent.Miss.{Miss}
use Rattle.slot_rule.specs.Schedule.{IsFirstMiss, IsScheduled}
use Rattle.version_table.specs.declared.table.Table.{Table}
use Rattle.version_table.specs.Choice.{IsSmallestChoice}
use Rattle.rate_fit.specs.declared.verdict.Verdict.{Verdict}
use Rattle.rate_fit.specs.declared.verdict.Verdict.TheVariants.{Scheduled, Missed, Limit}
use Rattle.rate_fit.specs.Fit.{IsSlotVerdict}

-- the laws of the crates below
pub record RuleLaws : Type 0 where
  pub smallest : (table : Table) (a b : List ℕ) → IsSmallestChoice table a → IsSmallestChoice table b → a ≡ b
  pub miss : (table : Table) (choice : List ℕ) (a b : Miss) → IsFirstMiss table choice a → IsFirstMiss table choice b → a ≡ b
  pub apart : (table : Table) (choice : List ℕ) (miss : Miss) → IsScheduled table choice → IsFirstMiss table choice miss → ⊥

missed_or_scheduled : RuleLaws → (table : Table) (miss : Miss) → IsSlotVerdict table (Missed miss) → IsSlotVerdict table Scheduled → ⊥
missed_or_scheduled laws table miss (within, (choice, small, first)) (again, (other, least, scheduled)) =
    laws.apart table choice miss (subst (λ (c : List ℕ). IsScheduled table c) (laws.smallest table other choice least small) scheduled) first

one_miss : RuleLaws → (table : Table) (miss other : Miss) → IsSlotVerdict table (Missed miss) → IsSlotVerdict table (Missed other) → miss ≡ other
one_miss laws table miss other (within, (choice, small, first)) (again, (second, least, found)) =
    laws.miss table choice miss other first (subst (λ (c : List ℕ). IsFirstMiss table c other) (laws.smallest table second choice least small) found)

pub one_verdict : RuleLaws → (table : Table) (one other : Verdict) → IsSlotVerdict table one → IsSlotVerdict table other → one ≡ other
one_verdict laws table Limit Limit a b = refl
one_verdict laws table Limit (Missed miss) a b = absurd (a b.0)
one_verdict laws table Limit Scheduled a b = absurd (a b.0)
one_verdict laws table (Missed miss) Limit a b = absurd (b a.0)
one_verdict laws table (Missed miss) (Missed other) a b = ap Missed (one_miss laws table miss other a b)
one_verdict laws table (Missed miss) Scheduled a b = absurd (missed_or_scheduled laws table miss a b)
one_verdict laws table Scheduled Limit a b = absurd (b a.0)
one_verdict laws table Scheduled (Missed miss) a b = absurd (missed_or_scheduled laws table miss b a)
one_verdict laws table Scheduled Scheduled a b = refl

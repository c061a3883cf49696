-- What single changes owe, and what is left of it where runs are spent.
use Rattle.std.proofs.Common.{
  ◌≡◌,
  ◌≢◌,
  ℕ,
  ◌+◌,
  ◌-◌,
  ◌*◌,
  ◌/◌,
  ◌%◌,
  ◌<◌,
  ◌≤◌,
  Bool,
  true,
  false,
  cond,
  List,
  length,
  true≢false,
  refl,
  sym,
  subst,
  inl,
  inr,
  arith,
}
use Rattle.std.proofs.Math.Nat.{add-mul, div-mul-le_self, mul-le-mul_right}
use Rattle.std.proofs.lemmas.Bool.{cases_lt}
use Rattle.version_table.specs.declared.table.Table.{Table}
use Rattle.version_table.specs.Table.{units_of}
use Rattle.branch_plan.specs.declared.changes.Tried.TheVariants.{Better, Nothing, Spent}
use Rattle.branch_plan.specs.declared.debt.Debt.{Debt}
use Rattle.branch_plan.specs.declared.known.Known.{Known}
use Rattle.branch_plan.specs.declared.owing.Owing.{Owing}
use Rattle.branch_plan.specs.Changes.{EndsBestAlone, change_count}
use Rattle.branch_plan.specs.Private.Changes.{GainsOver, IsTriedFrom}
use Rattle.branch_plan.specs.Private.Debt.{CanPay, IsDebtOf, IsOwing, runs_for_all}
use Rattle.branch_plan.proofs.Counting.{before_all, before_none}
use Rattle.branch_plan.proofs.Trying.{best_alone}

-- ---- rounds
-- a round of at most M runs leaves all whole rounds but one
fewer_rounds : (left rest M : ℕ) → M ≢ 0 → left ≤ rest + M → left / M ≤ rest / M + 1
fewer_rounds left rest M some used =
    elim (cases_lt (rest / M + 1) (left / M)) as (λ _. left / M ≤ rest / M + 1) [
      | inl more ↦
          let up : (rest / M + 2) * M ≤ left / M * M = mul-le-mul_right M (omega (arith, more)) in
          let whole : M * (rest / M) + rest % M ≡ rest = omega (arith, some) in
          let less : rest % M < M = omega (arith, some) in
          let turned : M * (rest / M) ≡ rest / M * M = omega arith in
          absurd (omega (arith, up, whole, less, turned, used, div-mul-le_self left M, add-mul (rest / M) 2 M))
      | inr same ↦ omega (arith, same)
    ]

-- fewer runs than a round make none
no_round : (left M : ℕ) → left < M → left / M ≡ 0
no_round left M few =
    elim (cases_lt 0 (left / M)) as (λ _. left / M ≡ 0) [
      | inl more ↦
          let up : 1 * M ≤ left / M * M = mul-le-mul_right M (omega (arith, more)) in
          absurd (omega (arith, up, few, div-mul-le_self left M))
      | inr none ↦ omega (arith, none)
    ]

none_of_false : ◌≡◌ {A = ℕ} (cond false 1 0) 0
none_of_false = refl

one_of_true : ◌≡◌ {A = ℕ} (cond true 1 0) 1
one_of_true = refl

-- ---- what can be paid
-- behind a round of single changes of which one has helped
pub pays_behind : (changes evaluations start distortion less left rest : ℕ) → evaluations < runs_for_all changes → left ≤ rest + changes → less < distortion
    → CanPay changes evaluations start distortion left false → CanPay changes evaluations start less rest false
pays_behind changes evaluations start distortion less left rest few used below pays = record {
  for_all = λ enough. absurd (omega (arith, enough, few));
  rounds = λ some fewer. omega (arith, pays.rounds some fewer, below, fewer_rounds left rest changes some used, none_of_false);
}

-- behind a round that has failed
pub pays_failed : (changes evaluations start distortion left rest : ℕ) → evaluations < runs_for_all changes → left ≤ rest + changes
    → CanPay changes evaluations start distortion left false → CanPay changes evaluations start distortion rest true
pays_failed changes evaluations start distortion left rest few used pays = record {
  for_all = λ enough. absurd (omega (arith, enough, few));
  rounds = λ some fewer. omega (arith, pays.rounds some fewer, fewer_rounds left rest changes some used, none_of_false, one_of_true);
}

-- where fewer runs than a round are left, nothing is owed
pub pays_spent : (changes evaluations start distortion left : ℕ) → evaluations < runs_for_all changes → left < changes → CanPay changes evaluations start distortion left false
    → CanPay changes evaluations start distortion 0 false
pays_spent changes evaluations start distortion left few short pays = record {
  for_all = λ enough. absurd (omega (arith, enough, few));
  rounds = λ some fewer. omega (arith, pays.rounds some fewer, no_round left changes short, none_of_false);
}

-- the least rounds that make up for what is owed are left
pub rounds_left : (changes evaluations start distortion rounds left : ℕ) (failed : Bool) → changes ≢ 0 → evaluations < runs_for_all changes
    → ((n : ℕ) → distortion + evaluations / changes ≤ start + (n + cond failed 1 0) → rounds ≤ n) → CanPay changes evaluations start distortion left failed → rounds * changes ≤ left
rounds_left changes evaluations start distortion rounds left failed some few least pays =
    let fit : rounds ≤ left / changes = least (left / changes) (pays.rounds some few) in
    let up : rounds * changes ≤ left / changes * changes = mul-le-mul_right changes fit in
    omega (arith, up, div-mul-le_self left changes)

-- ---- what single changes come to
-- with the runs that are left they come to what is owed for all
pub alone_paid : (table : Table) (changes evaluations left : ℕ) (choice : List ℕ) → changes ≡ change_count table → (runs_for_all changes ≤ evaluations → runs_for_all changes ≤ left)
    → EndsBestAlone table left choice → EndsBestAlone table evaluations choice
alone_paid table changes evaluations left choice is for_all ends =
    subst (λ (m : ℕ). (runs_for_all m ≤ evaluations → runs_for_all m ≤ left) → EndsBestAlone table evaluations choice) (sym is) (λ fits enough. ends (fits enough)) for_all

rounds_gained : (table : Table) (evaluations left start distortion gained : ℕ) (choice : List ℕ) → CanPay (change_count table) evaluations start distortion left false
    → EndsBestAlone table left choice → GainsOver table left choice gained distortion → GainsOver table evaluations choice gained start
rounds_gained table evaluations left start distortion gained choice pays alone over changed some helps =
    elim (cases_lt evaluations (runs_for_all (change_count table))) as (λ _. gained + evaluations / change_count table ≤ start) [
      | inl below ↦ omega (arith, pays.rounds some below, over changed some helps, none_of_false)
      | inr above ↦ absurd (alone (pays.for_all above) changed helps)
    ]

pub rounds_paid : (table : Table) (changes evaluations left start distortion gained : ℕ) (choice : List ℕ) → changes ≡ change_count table
    → CanPay changes evaluations start distortion left false → EndsBestAlone table left choice → GainsOver table left choice gained distortion
    → GainsOver table evaluations choice gained start
rounds_paid table changes evaluations left start distortion gained choice is pays alone over =
    rounds_gained table evaluations left start distortion gained choice (subst (λ (m : ℕ). CanPay m evaluations start distortion left false) is pays) alone over

-- what can be paid with all runs that are left can be with none of them spent
pub pays_unspent : (debt : Debt) (owing : Owing) → CanPay debt.changes debt.evaluations debt.start owing.known.distortion owing.left owing.alone
    → CanPay debt.changes debt.evaluations debt.start owing.known.distortion (owing.left - 0) owing.alone
pays_unspent debt owing pays =
    let whole : owing.left ≡ owing.left - 0 = omega arith in
    subst (λ (left : ℕ). CanPay debt.changes debt.evaluations debt.start owing.known.distortion left owing.alone) whole pays

-- ---- the same behind a round of single changes
pub unfailed : (table : Table) (debt : Debt) (owing : Owing) → owing.alone ≡ false → IsOwing table debt owing
    → CanPay debt.changes debt.evaluations debt.start owing.known.distortion owing.left false
unfailed table debt owing fresh is = subst (λ (failed : Bool). CanPay debt.changes debt.evaluations debt.start owing.known.distortion owing.left failed) fresh is.pays

pub helped_owing : (table : Table) (debt : Debt) (owing : Owing) (known : Known) (place rest : ℕ) → debt.evaluations < runs_for_all debt.changes → owing.alone ≡ false
    → IsDebtOf table debt → IsOwing table debt owing → IsTriedFrom table owing.known owing.left 0 (length (units_of table)) (Better known place rest)
    → IsOwing table debt (record { known = known; left = rest; alone = false; found = owing.found; place = place })
helped_owing table debt owing known place rest few fresh owed is tried =
    let used : owing.left ≤ rest + debt.changes = omega (arith, tried.5, before_none table, before_all table, owed.changes) in
    record {
      known = tried.0;
      kept = omega (arith, tried.1, is.kept);
      place = omega (arith, tried.4);
      alone = λ wrong. absurd (true≢false (sym wrong));
      pays =
          pays_behind debt.changes debt.evaluations debt.start owing.known.distortion known.distortion owing.left rest few used tried.1 (unfailed table debt owing fresh is);
    }

pub failed_owing : (table : Table) (debt : Debt) (owing : Owing) (known : Known) (rest : ℕ) → debt.evaluations < runs_for_all debt.changes → owing.alone ≡ false
    → IsDebtOf table debt → IsOwing table debt owing → IsTriedFrom table owing.known owing.left 0 (length (units_of table)) (Nothing known rest)
    → IsOwing table debt (record { known = known; left = rest; alone = true; found = owing.found; place = owing.place })
failed_owing table debt owing known rest few fresh owed is tried =
    let used : owing.left ≤ rest + debt.changes = omega (arith, tried.2, before_none table, before_all table, owed.changes) in
    let pays = pays_failed debt.changes debt.evaluations debt.start owing.known.distortion owing.left rest few used (unfailed table debt owing fresh is) in
    subst (λ (k : Known). IsOwing table debt (record { known = k; left = rest; alone = true; found = owing.found; place = owing.place })) (sym tried.0)
    (record { known = is.known; kept = is.kept; place = is.place; alone = λ same. best_alone table owing.known.choice tried.3; pays = pays })

pub spent_owing : (table : Table) (debt : Debt) (owing : Owing) (known : Known) → debt.evaluations < runs_for_all debt.changes → owing.alone ≡ false
    → IsDebtOf table debt → IsOwing table debt owing → IsTriedFrom table owing.known owing.left 0 (length (units_of table)) (Spent known)
    → IsOwing table debt (record { known = known; left = 0; alone = false; found = owing.found; place = owing.place })
spent_owing table debt owing known few fresh owed is tried =
    let short : owing.left < debt.changes = omega (arith, tried.1, before_none table, before_all table, owed.changes) in
    let pays = pays_spent debt.changes debt.evaluations debt.start owing.known.distortion owing.left few short (unfailed table debt owing fresh is) in
    subst (λ (k : Known). IsOwing table debt (record { known = k; left = 0; alone = false; found = owing.found; place = owing.place })) (sym tried.0)
    (record { known = is.known; kept = is.kept; place = is.place; alone = λ wrong. absurd (true≢false (sym wrong)); pays = pays })

-- Words that are those of no command.
use Rattle.std.proofs.Common.{◌≡◌, ℕ, List, [], ◌∷◌, subst}
use Rattle.command_words.specs.Command.{Plan, Gen, Run, Check, Probe, CheckPlan, Impossible, Fit, Audit, IsCommand, IsAuditCommand, IsPlanCommand, IsGenCommand, IsRunCommand, IsCheckCommand, IsCheckPlanCommand, IsFitCommand, IsImpossibleCommand, IsProbeCommand}

-- a verb and a word that aren't `impossible`
pub no_one : (verb name : List ℕ) → (IsImpossibleCommand (verb ∷ name ∷ []) name → ⊥) → IsCommand (verb ∷ name ∷ []) → ⊥
no_one verb name no_impossible (Impossible table, said) =
    let are = said.words_are in
    let a : table ≡ name = cc in
    no_impossible (subst (λ (x : List ℕ). IsImpossibleCommand (verb ∷ name ∷ []) x) a said)
no_one verb name no_impossible (Plan table certificate, said) = let are = said.words_are in cc
no_one verb name no_impossible (Gen seed pictures out, said) = let are = said.words_are in cc
no_one verb name no_impossible (Run job out certificate, said) = let are = said.words_are in cc
no_one verb name no_impossible (Check job certificate, said) = let are = said.words_are in cc
no_one verb name no_impossible (Probe file number table, said) = let are = said.words_are in cc
no_one verb name no_impossible (CheckPlan table certificate, said) = let are = said.words_are in cc
no_one verb name no_impossible (Fit job list, said) = let are = said.words_are in cc
no_one verb name no_impossible (Audit file number slot, said) = let are = said.words_are in cc

-- a verb and two words that are none of `plan`, `check`, `check-plan` and `fit`
pub no_pair : (verb first second : List ℕ) → (IsPlanCommand (verb ∷ first ∷ second ∷ []) first second → ⊥)
    → (IsCheckCommand (verb ∷ first ∷ second ∷ []) first second → ⊥) → (IsCheckPlanCommand (verb ∷ first ∷ second ∷ []) first second → ⊥)
    → (IsFitCommand (verb ∷ first ∷ second ∷ []) first second → ⊥) → IsCommand (verb ∷ first ∷ second ∷ []) → ⊥
no_pair verb first second no_plan no_check no_check_plan no_fit (Plan table certificate, said) =
    let are = said.words_are in
    let a : table ≡ first = cc in
    let b : certificate ≡ second = cc in
    let words : List (List ℕ) = verb ∷ first ∷ second ∷ [] in
    no_plan (subst (λ (x : List ℕ). IsPlanCommand words x second) a (subst (λ (x : List ℕ). IsPlanCommand words table x) b said))
no_pair verb first second no_plan no_check no_check_plan no_fit (Gen seed pictures out, said) = let are = said.words_are in cc
no_pair verb first second no_plan no_check no_check_plan no_fit (Run job out certificate, said) = let are = said.words_are in cc
no_pair verb first second no_plan no_check no_check_plan no_fit (Probe file number table, said) = let are = said.words_are in cc
no_pair verb first second no_plan no_check no_check_plan no_fit (Impossible table, said) = let are = said.words_are in cc
no_pair verb first second no_plan no_check no_check_plan no_fit (Audit file number slot, said) = let are = said.words_are in cc
no_pair verb first second no_plan no_check no_check_plan no_fit (Check job certificate, said) =
    let are = said.words_are in
    let a : job ≡ first = cc in
    let b : certificate ≡ second = cc in
    let words : List (List ℕ) = verb ∷ first ∷ second ∷ [] in
    no_check (subst (λ (x : List ℕ). IsCheckCommand words x second) a (subst (λ (x : List ℕ). IsCheckCommand words job x) b said))
no_pair verb first second no_plan no_check no_check_plan no_fit (CheckPlan table certificate, said) =
    let are = said.words_are in
    let a : table ≡ first = cc in
    let b : certificate ≡ second = cc in
    let words : List (List ℕ) = verb ∷ first ∷ second ∷ [] in
    no_check_plan (subst (λ (x : List ℕ). IsCheckPlanCommand words x second) a (subst (λ (x : List ℕ). IsCheckPlanCommand words table x) b said))
no_pair verb first second no_plan no_check no_check_plan no_fit (Fit job list, said) =
    let are = said.words_are in
    let a : job ≡ first = cc in
    let b : list ≡ second = cc in
    let words : List (List ℕ) = verb ∷ first ∷ second ∷ [] in
    no_fit (subst (λ (x : List ℕ). IsFitCommand words x second) a (subst (λ (x : List ℕ). IsFitCommand words job x) b said))

-- a verb and three words that are none of `run`, `gen`, `probe` and `audit`
pub no_three : (verb first second third : List ℕ) → (IsRunCommand (verb ∷ first ∷ second ∷ third ∷ []) first second third → ⊥)
    → ((seed pictures : ℕ) (out : List ℕ) → IsGenCommand (verb ∷ first ∷ second ∷ third ∷ []) seed pictures out → ⊥)
    → ((file : List ℕ) (number : ℕ) (table : List ℕ) → IsProbeCommand (verb ∷ first ∷ second ∷ third ∷ []) file number table → ⊥)
    → ((file : List ℕ) (number slot : ℕ) → IsAuditCommand (verb ∷ first ∷ second ∷ third ∷ []) file number slot → ⊥)
    → IsCommand (verb ∷ first ∷ second ∷ third ∷ []) → ⊥
no_three verb first second third no_run no_gen no_probe no_audit (Plan table certificate, said) = let are = said.words_are in cc
no_three verb first second third no_run no_gen no_probe no_audit (Gen seed pictures out, said) = no_gen seed pictures out said
no_three verb first second third no_run no_gen no_probe no_audit (Run job out certificate, said) =
    let are = said.words_are in
    let a : job ≡ first = cc in
    let b : out ≡ second = cc in
    let c : certificate ≡ third = cc in
    let words : List (List ℕ) = verb ∷ first ∷ second ∷ third ∷ [] in
    no_run (subst (λ (x : List ℕ). IsRunCommand words x second third) a
    (subst (λ (x : List ℕ). IsRunCommand words job x third) b (subst (λ (x : List ℕ). IsRunCommand words job out x) c said)))
no_three verb first second third no_run no_gen no_probe no_audit (Check job certificate, said) = let are = said.words_are in cc
no_three verb first second third no_run no_gen no_probe no_audit (CheckPlan table certificate, said) = let are = said.words_are in cc
no_three verb first second third no_run no_gen no_probe no_audit (Probe file number table, said) = no_probe file number table said
no_three verb first second third no_run no_gen no_probe no_audit (Impossible table, said) = let are = said.words_are in cc
no_three verb first second third no_run no_gen no_probe no_audit (Fit job list, said) = let are = said.words_are in cc
no_three verb first second third no_run no_gen no_probe no_audit (Audit file number slot, said) = no_audit file number slot said

-- The sizes of the programs of a job, one more behind the others.
use Rattle.std.proofs.Common.{◌≡◌, ℕ, ◌+◌, ◌<◌, List, [], ◌∷◌, ◌++◌, length, take, get_or, sym, ap, subst, ◌∙◌}
use Rattle.std.proofs.lemmas.List.{take_more}
use Rattle.job_report.specs.declared.job.ProgramJob.{ProgramJob}
use Rattle.program_reader.specs.declared.program.Program.{Program}
use Rattle.program_reader.specs.declared.unit_sizes.UnitSizes.{UnitSizes}
use Rattle.program_reader.specs.Sizes.{AreProgramSizes}
use Rattle.job_programs.specs.Sizes.{AreJobSizes}

sizes_push : (jobs : List ProgramJob) (programs : List Program) (sizes : List (List UnitSizes)) (job : ProgramJob) (program : Program) (own : List UnitSizes) → AreJobSizes jobs programs sizes →
    AreProgramSizes program job.coarser.items own → AreJobSizes (jobs ++ job ∷ []) (programs ++ program ∷ []) (sizes ++ own ∷ [])
sizes_push [] [] [] job program own are is = (is, tt)
sizes_push [] [] (s ∷ ss) job program own are is = absurd are
sizes_push [] (p ∷ ps) sizes job program own are is = absurd are
sizes_push (j ∷ js) [] sizes job program own are is = absurd are
sizes_push (j ∷ js) (p ∷ ps) [] job program own are is = absurd are
sizes_push (j ∷ js) (p ∷ ps) (s ∷ ss) job program own are is = (are.0, sizes_push js ps ss job program own are.1 is)

pub job_sizes_more : (jobs : List ProgramJob) (i : ℕ) (job : ProgramJob) (programs : List Program) (program : Program) (more : List Program) (sizes : List (List UnitSizes)) (own : List UnitSizes)
    (further : List (List UnitSizes)) (coarser : List ℕ) → i < length jobs → job ≡ get_or jobs i job → coarser ≡ job.coarser.items → more ≡ programs ++ program ∷ [] → further ≡ sizes ++ own ∷ [] →
    AreJobSizes (take i jobs) programs sizes → AreProgramSizes program coarser own → AreJobSizes (take (i + 1) jobs) more further
job_sizes_more jobs i job programs program more sizes own further coarser within is ratios more_is further_is so_far here =
    let step : take (i + 1) jobs ≡ take i jobs ++ job ∷ [] = take_more jobs i job within ∙ ap (λ (j : ProgramJob). take i jobs ++ j ∷ []) (sym is) in
    let all = sizes_push (take i jobs) programs sizes job program own so_far (subst (λ (those : List ℕ). AreProgramSizes program those own) ratios here) in
    subst (λ (js : List ProgramJob). AreJobSizes js more further) (sym step)
    (subst (λ (ps : List Program). AreJobSizes (take i jobs ++ job ∷ []) ps further) (sym more_is)
    (subst (λ (ss : List (List UnitSizes)). AreJobSizes (take i jobs ++ job ∷ []) (programs ++ program ∷ []) ss) (sym further_is) all))

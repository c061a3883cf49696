-- One program more with its versions.
use Rattle.std.proofs.Common.{◌≡◌, ℕ, ◌+◌, ◌≤◌, List, [], ◌∷◌, ◌++◌, All, length, map, None, refl, sym, ap, subst, ◌∙◌, append_assoc, append-nil, length-append}
use Rattle.std.proofs.lemmas.List.{map-append}
use Rattle.std.proofs.lemmas.List.Elements.{All-append, All-cons, All-nil}
use Rattle.job_report.specs.declared.job.ProgramJob.{ProgramJob}
use Rattle.program_reader.specs.declared.program.Program.{Program}
use Rattle.program_reader.specs.declared.program.UnitSource.{UnitSource}
use Rattle.version_maker.specs.declared.version.UnitVersion.{UnitVersion}
use Rattle.version_source.specs.Sendable.{IsSendable}
use Rattle.version_source.specs.Versions.{AreAllVersions, AreVideoVersions, NamesVersions, ratios_of}
use Rattle.version_source_tests.specs.Private.Kept.{AreKept}

names-grow : (programs : List Program) (ratios : List (List ℕ)) (choice : List ℕ) (program : Program) (coarser own : List ℕ) → NamesVersions programs ratios choice
    → length own ≡ length program.units → All (λ index. index ≤ length coarser) own → NamesVersions (programs ++ program ∷ []) (ratios ++ coarser ∷ []) (choice ++ own)
names-grow [] [] choice program coarser own names count few =
    (own, [], ap (λ (xs : List ℕ). xs ++ own) names ∙ sym (append-nil own), count, few, refl)
names-grow [] (r ∷ rs) choice program coarser own names count few = absurd names
names-grow (p ∷ ps) [] choice program coarser own names count few = absurd names
names-grow (p ∷ ps) (r ∷ rs) choice program coarser own (first, rest, split, size, small, names) count few =
    (first, rest ++ own, ap (λ (xs : List ℕ). xs ++ own) split ∙ append_assoc first rest own, size, small, names-grow ps rs rest program coarser own names count few)

versions-grow : (programs : List Program) (ratios : List (List ℕ)) (versions : List (List (List UnitVersion))) (program : Program) (coarser : List ℕ) (own : List (List UnitVersion))
    → AreAllVersions programs ratios versions → AreVideoVersions program.video coarser None program.units own
    → AreAllVersions (programs ++ program ∷ []) (ratios ++ coarser ∷ []) (versions ++ own ∷ [])
versions-grow [] [] [] program coarser own are here = (here, tt)
versions-grow [] [] (v ∷ vs) program coarser own are here = absurd are
versions-grow [] (r ∷ rs) versions program coarser own are here = absurd are
versions-grow (p ∷ ps) [] versions program coarser own are here = absurd are
versions-grow (p ∷ ps) (r ∷ rs) [] program coarser own are here = absurd are
versions-grow (p ∷ ps) (r ∷ rs) (v ∷ vs) program coarser own (first, are) here = (first, versions-grow ps rs vs program coarser own are here)

grown : (programs : List Program) (jobs : List ProgramJob) (versions : List (List (List UnitVersion))) (choice : List ℕ) (program : Program) (job : ProgramJob)
    (made : List (List UnitVersion)) (own : List ℕ) → AreKept programs jobs versions choice → IsSendable program
    → AreVideoVersions program.video job.coarser.items None program.units made → length own ≡ length program.units → All (λ index. index ≤ length job.coarser.items) own
    → AreKept (programs ++ program ∷ []) (jobs ++ job ∷ []) (versions ++ made ∷ []) (choice ++ own)
grown programs jobs versions choice program job made own kept sendable are count few =
    let ratios : ratios_of (jobs ++ job ∷ []) ≡ ratios_of jobs ++ job.coarser.items ∷ [] = map-append (λ (j : ProgramJob). j.coarser.items) jobs (job ∷ []) in record {
      as_many = length-append jobs (job ∷ []) ∙ ap (λ (n : ℕ). n + 1) kept.as_many ∙ sym (length-append programs (program ∷ []));
      sendable = All-append IsSendable programs (program ∷ []) kept.sendable (All-cons IsSendable program [] sendable (All-nil IsSendable));
      names = subst (λ (rs : List (List ℕ)). NamesVersions (programs ++ program ∷ []) rs (choice ++ own)) (sym ratios)
          (names-grow programs (ratios_of jobs) choice program job.coarser.items own kept.names count few);
      are_versions = subst (λ (rs : List (List ℕ)). AreAllVersions (programs ++ program ∷ []) rs (versions ++ made ∷ [])) (sym ratios)
          (versions-grow programs (ratios_of jobs) versions program job.coarser.items made kept.are_versions are);
    }

-- the same where the lists are known by equations
pub one-more : (programs all : List Program) (jobs every : List ProgramJob) (versions those : List (List (List UnitVersion))) (choice numbers : List ℕ) (program : Program) (job : ProgramJob)
    (made : List (List UnitVersion)) (own es first second : List ℕ) (units : List UnitSource) (count : ℕ) → all ≡ programs ++ program ∷ [] → every ≡ jobs ++ job ∷ []
    → those ≡ versions ++ made ∷ [] → numbers ≡ choice ++ own → es ≡ program.video → units ≡ program.units → first ≡ job.coarser.items → second ≡ job.coarser.items
    → count ≡ length program.units → AreKept programs jobs versions choice → IsSendable program → AreVideoVersions es first None units made → length own ≡ count
    → All (λ index. index ≤ length second) own → AreKept all every those numbers
one-more programs all jobs every versions those choice numbers program job made own es first second units count all_is every_is those_are numbers_are es_is units_are first_is second_is count_is
    kept sendable are many few =
    let versions_are : AreVideoVersions program.video job.coarser.items None program.units made =
    subst (λ (xs : List UnitSource). AreVideoVersions program.video job.coarser.items None xs made) units_are
    (subst (λ (rs : List ℕ). AreVideoVersions program.video rs None units made) first_is (subst (λ (xs : List ℕ). AreVideoVersions xs first None units made) es_is are)) in
    let here : AreKept (programs ++ program ∷ []) (jobs ++ job ∷ []) (versions ++ made ∷ []) (choice ++ own) =
    grown programs jobs versions choice program job made own kept sendable versions_are (many ∙ count_is) (subst (λ (rs : List ℕ). All (λ index. index ≤ length rs) own) second_is few) in
    subst (λ (xs : List Program). AreKept xs every those numbers) (sym all_is)
    (subst (λ (xs : List ProgramJob). AreKept (programs ++ program ∷ []) xs those numbers) (sym every_is)
    (subst (λ (xs : List (List (List UnitVersion))). AreKept (programs ++ program ∷ []) (jobs ++ job ∷ []) xs numbers) (sym those_are)
    (subst (AreKept (programs ++ program ∷ []) (jobs ++ job ∷ []) (versions ++ made ∷ [])) (sym numbers_are) here)))

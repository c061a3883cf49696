-- There is one list of the versions of programs.
use Rattle.std.specs.Prelude.{◌≡◌, ℕ, List, [], ◌∷◌, Option, Some, None, refl}
use Rattle.std.proofs.Common.{ap, ap₂, subst, sym, ◌∙◌}
use Rattle.bit_lists.specs.Fields.{bit_list}
use Rattle.syntax_types.specs.declared.picture.Picture.{Picture}
use Rattle.syntax_types.specs.declared.picture.SeqState.{SeqState}
use Rattle.picture_grammar.proofs.HeaderLaws.{exact-picture_unit}
use Rattle.program_reader.specs.declared.program.Program.{Program}
use Rattle.program_reader.specs.declared.program.UnitSource.{UnitSource}
use Rattle.version_maker.specs.declared.version.UnitVersion.{UnitVersion}
use Rattle.version_maker.proofs.Lists.{one-list}
use Rattle.version_source.specs.Sendable.{LeavesState, bytes_of_unit}
use Rattle.version_source.specs.Versions.{AreAllVersions, AreVideoVersions}

-- a unit that spells a picture leaves one state alone
pub one-state : (before : Option SeqState) (unit : List ℕ) (a b : SeqState) → LeavesState before unit a → LeavesState before unit b → a ≡ b
one-state before unit a b p q =
    let same : p.picture ≡ q.picture = ((exact-picture_unit before).one_value p.picture q.picture (bit_list unit) [] [] p.whole.spelled q.whole.spelled).0 in
    sym p.after_is ∙ ap (λ (picture : Picture). picture.seq) same ∙ q.after_is

-- the versions of a video
pub one-video : (es coarser : List ℕ) (before : Option SeqState) (units : List UnitSource) (a b : List (List UnitVersion)) → AreVideoVersions es coarser before units a
    → AreVideoVersions es coarser before units b → a ≡ b
one-video es coarser before [] [] [] p q = refl
one-video es coarser before [] [] (v ∷ vs) p q = absurd q
one-video es coarser before [] (v ∷ vs) b p q = absurd p
one-video es coarser before (unit ∷ units) [] b p q = absurd p
one-video es coarser before (unit ∷ units) (v ∷ vs) [] p q = absurd q
one-video es coarser before (unit ∷ units) (v ∷ vs) (w ∷ ws) (after, leaves, here, rest) (other, left, there, others) =
    let same : after ≡ other = one-state before (bytes_of_unit es unit) after other leaves left in
    ap₂ (λ (x : List UnitVersion) (xs : List (List UnitVersion)). x ∷ xs) (one-list before (bytes_of_unit es unit) coarser v w here there)
    (one-video es coarser (Some other) units vs ws (subst (λ (s : SeqState). AreVideoVersions es coarser (Some s) units vs) same rest) others)

-- of all programs
pub one-all : (programs : List Program) (ratios : List (List ℕ)) (a b : List (List (List UnitVersion))) → AreAllVersions programs ratios a → AreAllVersions programs ratios b → a ≡ b
one-all [] [] [] [] p q = refl
one-all [] [] [] (v ∷ vs) p q = absurd q
one-all [] [] (v ∷ vs) b p q = absurd p
one-all [] (r ∷ rs) a b p q = absurd p
one-all (program ∷ programs) [] a b p q = absurd p
one-all (program ∷ programs) (r ∷ rs) [] b p q = absurd p
one-all (program ∷ programs) (r ∷ rs) (v ∷ vs) [] p q = absurd q
one-all (program ∷ programs) (r ∷ rs) (v ∷ vs) (w ∷ ws) p q =
    ap₂ (λ (x : List (List UnitVersion)) (xs : List (List (List UnitVersion))). x ∷ xs) (one-video program.video r None program.units v w p.0 q.0) (one-all programs rs vs ws p.1 q.1)

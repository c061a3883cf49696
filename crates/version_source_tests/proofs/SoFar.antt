-- The versions of units, one behind the other.
use Rattle.std.proofs.Common.{◌≡◌, ℕ, ◌+◌, ◌<◌, List, [], ◌∷◌, ◌++◌, length, drop, get_or, Option, Some, None, sym, ap, subst, ◌∙◌, append_assoc, append-nil}
use Rattle.std.proofs.lemmas.List.{drop_more}
use Rattle.syntax_types.specs.declared.picture.SeqState.{SeqState}
use Rattle.program_reader.specs.declared.program.UnitSource.{UnitSource}
use Rattle.version_maker.specs.declared.version.UnitVersion.{UnitVersion}
use Rattle.version_maker.specs.Versions.{AreVersions}
use Rattle.version_source.specs.Sendable.{LeavesState, SpellInOrder, bytes_of_unit}
use Rattle.version_source.specs.Versions.{AreVideoVersions}
use Rattle.version_source.specs.Private.OneVersions.{one-state}
use Rattle.version_source.proofs.StateLemmas.{state-left}
use Rattle.version_source_tests.specs.Private.Kept.{AreVersionsSoFar}

more-versions : (es coarser : List ℕ) (units left rest : List UnitSource) (before : Option SeqState) (unit : UnitSource) (after : SeqState) (kept more : List (List UnitVersion))
    (versions : List UnitVersion) → left ≡ unit ∷ rest → more ≡ kept ++ versions ∷ [] → AreVersionsSoFar es coarser units left before kept
    → AreVersions before (bytes_of_unit es unit) coarser versions → LeavesState before (bytes_of_unit es unit) after → AreVersionsSoFar es coarser units rest (Some after) more
more-versions es coarser units left rest before unit after kept more versions split pushed far are leaves =
    let here : AreVersionsSoFar es coarser units (unit ∷ rest) before kept =
    subst (λ (those : List UnitSource). AreVersionsSoFar es coarser units those before kept) split far in
    let next : SpellInOrder es before (unit ∷ rest) = here.spelled in
    record {
      may_precede = state-left before (bytes_of_unit es unit) after here.may_precede leaves;
      spelled = subst (λ (s : SeqState). SpellInOrder es (Some s) rest) (one-state before (bytes_of_unit es unit) next.0 after next.1 leaves) next.2;
      all = λ later those.
          subst (AreVideoVersions es coarser None units) (sym (append_assoc kept (versions ∷ []) later) ∙ ap (λ (xs : List (List UnitVersion)). xs ++ later) (sym pushed))
          (here.all (versions ∷ later) (after, leaves, are, those));
    }

-- one more unit, whose versions and state were made behind copies of the state
pub one-more-unit : (es coarser : List ℕ) (units : List UnitSource) (k : ℕ) (bytes : List ℕ) (before first second : Option SeqState) (after : SeqState)
    (kept more : List (List UnitVersion)) (versions : List UnitVersion) (d : UnitSource) → k < length units → bytes ≡ bytes_of_unit es (get_or units k d) → first ≡ before → second ≡ before
    → more ≡ kept ++ versions ∷ [] → AreVersionsSoFar es coarser units (drop k units) before kept → AreVersions first bytes coarser versions
    → LeavesState second (bytes_of_unit es (get_or units k d)) after → AreVersionsSoFar es coarser units (drop (k + 1) units) (Some after) more
one-more-unit es coarser units k bytes before first second after kept more versions d within bytes_are one two pushed far are leaves =
    more-versions es coarser units (drop k units) (drop (k + 1) units) before (get_or units k d) after kept more versions (drop_more units k d within) pushed far
    (subst (λ (b : List ℕ). AreVersions before b coarser versions) bytes_are (subst (λ (s : Option SeqState). AreVersions s bytes coarser versions) one are))
    (subst (λ (s : Option SeqState). LeavesState s (bytes_of_unit es (get_or units k d)) after) two leaves)

-- where none is left they are all
pub all-units : (es coarser : List ℕ) (units left : List UnitSource) (before : Option SeqState) (kept : List (List UnitVersion)) → left ≡ []
    → AreVersionsSoFar es coarser units left before kept → AreVideoVersions es coarser None units kept
all-units es coarser units left before kept none far =
    let here : AreVersionsSoFar es coarser units [] before kept = subst (λ (those : List UnitSource). AreVersionsSoFar es coarser units those before kept) none far in
    subst (AreVideoVersions es coarser None units) (append-nil kept) (here.all [] tt)

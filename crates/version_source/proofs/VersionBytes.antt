-- A version of a unit has bytes: those of its head, at least.
use Rattle.std.proofs.Common.{◌≡◌, ℕ, ◌+◌, ◌*◌, ◌≤◌, Option, List, [], ◌∷◌, ◌++◌, All, length, sym, ap, subst, ◌∙◌, arith, length-append}
use Rattle.std.specs.List.{AllZip}
use Rattle.std.proofs.lemmas.List.Elements.{All-cons, All-nil}
use Rattle.bit_lists.specs.Bits.{bits_of}
use Rattle.bit_lists.specs.Fields.{bit_list}
use Rattle.bit_lists.proofs.BitLemmas.{length-bits_of}
use Rattle.bit_lists.proofs.ByteLemmas.{length-bit_list}
use Rattle.syntax_types.specs.declared.picture.Picture.{Picture}
use Rattle.syntax_types.specs.declared.picture.SeqState.{SeqState}
use Rattle.picture_grammar.specs.Written.{written_picture}
use Rattle.picture_heads.specs.Heads.{IsHeadWithoutDelay}
use Rattle.program_reader.specs.declared.program.UnitSource.{UnitSource}
use Rattle.version_maker.specs.declared.version.UnitVersion.{UnitVersion}
use Rattle.version_maker.specs.Versions.{AreVersions, IsCoarserVersion, IsSourceVersion}
use Rattle.version_source.specs.Versions.{AreVideoVersions}

-- a version has a byte
abbrev pub HasBytes : UnitVersion → Type 0
HasBytes version = 1 ≤ length version.bytes

-- a head has its vbv_delay
head-some : (from to : List ℕ) → IsHeadWithoutDelay from to → 1 ≤ length to
head-some from to is =
    let no : List ℕ = bits_of 16 65535 in
    let new : 8 * length to ≡ length is.front + length no + length is.back =
    sym (length-bit_list to) ∙ ap length is.without ∙ length-append (is.front ++ no) is.back ∙ ap (λ (n : ℕ). n + length is.back) (length-append is.front no) in
    omega (arith, new, length-bits_of 16 65535)

source-some : (picture : Picture) (unit : List ℕ) (version : UnitVersion) → IsSourceVersion picture unit version → HasBytes version
source-some picture unit version is = omega (arith, ap length is.bytes, length-append is.head is.behind, head-some picture.head is.head is.without)

first-part : (a b c : List ℕ) → length a ≤ length (a ++ b ++ c)
first-part a b c = omega (arith, length-append (a ++ b) c, length-append a b)

written-head : (made : Picture) → 8 * length made.head ≤ length (written_picture made)
unfolding written_picture
written-head made =
    let part : length (bit_list made.head) ≤ length (written_picture made) = first-part (bit_list made.head) _ _ in omega (arith, part, length-bit_list made.head)

coarser-some : (picture : Picture) (m : ℕ) (version : UnitVersion) → IsCoarserVersion picture m version → HasBytes version
coarser-some picture m version is =
    let bits : 8 * length version.bytes ≡ length (written_picture is.made) = sym (length-bit_list version.bytes) ∙ ap length is.written.1 in
    omega (arith, bits, written-head is.made, head-some picture.head is.made.head is.coarser.head)

others-some : (picture : Picture) (coarser : List ℕ) (others : List UnitVersion) → AllZip (IsCoarserVersion picture) coarser others → All HasBytes others
others-some picture [] [] are = All-nil HasBytes
others-some picture [] (v ∷ vs) are = absurd are
others-some picture (m ∷ ms) [] are = absurd are
others-some picture (m ∷ ms) (v ∷ vs) are = All-cons HasBytes v vs (coarser-some picture m v are.0) (others-some picture ms vs are.1)

-- each version of a unit has bytes
versions-some : (before : Option SeqState) (unit coarser : List ℕ) (versions : List UnitVersion) → AreVersions before unit coarser versions → All HasBytes versions
versions-some before unit coarser versions are =
    let of = are.of_picture in
    subst (All HasBytes) (sym of.in_order)
    (All-cons HasBytes of.first of.others (source-some are.picture unit of.first of.source) (others-some are.picture coarser of.others of.coarser_ones))

-- each version of each unit of a video
abbrev pub HaveBytes : List (List UnitVersion) → Type 0
HaveBytes [] = Unit {0}
HaveBytes (versions ∷ more) = All HasBytes versions × HaveBytes more

pub video-versions-some : (es coarser : List ℕ) (before : Option SeqState) (units : List UnitSource) (versions : List (List UnitVersion)) → AreVideoVersions es coarser before units versions
    → HaveBytes versions
video-versions-some es coarser before [] [] are = tt
video-versions-some es coarser before [] (v ∷ vs) are = absurd are
video-versions-some es coarser before (u ∷ us) [] are = absurd are
video-versions-some es coarser before (u ∷ us) (v ∷ vs) (after, leaves, here, rest) = (versions-some before _ coarser v here, video-versions-some es coarser _ us vs rest)

-- Each version of a unit spells a picture of the unit's state and coding, but for its vbv_delay.
use Rattle.std.proofs.Common.{◌≡◌, ℕ, ◌<◌, List, [], ◌∷◌, All, get_or, length, Option, refl, sym, ap, subst}
use Rattle.std.specs.List.{AllZip}
use Rattle.std.specs.Option.{option_map_or}
use Rattle.std.proofs.lemmas.List.Elements.{All-cons, All-get_or, All-nil}
use Rattle.std.proofs.lemmas.Option.{slice_get-get_or}
use Rattle.bit_lists.specs.Fields.{bit_list}
use Rattle.syntax_types.specs.declared.picture.Picture.{Picture}
use Rattle.syntax_types.specs.declared.picture.SeqState.{SeqState}
use Rattle.picture_grammar.specs.Picture.{IsCovered, IsState, MayPrecede, SpellsPicture}
use Rattle.picture_grammar.specs.Written.{IsWritten}
use Rattle.picture_grammar.proofs.HeaderLaws.{exact-picture_unit}
use Rattle.picture_reader.specs.Picture.{IsPictureOf}
use Rattle.requantiser.specs.Version.{IsLawfulBehind, IsVersion}
use Rattle.version_maker.specs.declared.version.UnitVersion.{UnitVersion}
use Rattle.version_maker.specs.Versions.{AreVersions, IsCoarserVersion, IsSourceVersion}
use Rattle.version_source.specs.Versions.{chosen_bytes}
use Rattle.time_laws.proofs.WithoutDelay.{HeadIsRead, covered-without, spelled-without, with_head}
use Rattle.picture_heads.proofs.ReadHeads.{without_delay}

-- ---- the laws below, as this proof calls them

abbrev pub LawfulBehind : Type 0
LawfulBehind =
    (m : ℕ) (before : Option SeqState) (from to : Picture) (bytes : List ℕ) → MayPrecede before → SpellsPicture before from bytes → IsCovered from → IsVersion m from to → IsLawfulBehind before to

abbrev pub WrittenIsRead : Type 0
WrittenIsRead = (before : Option SeqState) (picture : Picture) (bytes written : List ℕ) → SpellsPicture before picture bytes → IsWritten picture written → SpellsPicture before picture written

abbrev pub HasState : Type 0
HasState = (before : Option SeqState) (picture : Picture) (bytes : List ℕ) → MayPrecede before → SpellsPicture before picture bytes → IsState picture.seq

-- the laws that a version spells a picture by
pub record SpellingLaws : Type 0 where
  pub head : HeadIsRead
  pub lawful : LawfulBehind
  pub written : WrittenIsRead
  pub state : HasState

-- ---- a version

-- bytes spell a picture of this one's state and coding, but for its vbv_delay
pub record SpellsAlike (before : Option SeqState) (picture : Picture) (bytes : List ℕ) : Type 0 where
  pub spelled : Picture
  pub whole : IsPictureOf before bytes spelled
  pub seq_is : spelled.seq ≡ picture.seq
  pub coding_is : spelled.coding ≡ without_delay picture.coding

source-alike : SpellingLaws → (before : Option SeqState) (picture : Picture) (unit : List ℕ) (version : UnitVersion) → IsPictureOf before unit picture → IsSourceVersion picture unit version
    → SpellsAlike before picture version.bytes
source-alike laws before picture unit version whole is = record {
  spelled = with_head picture is.head;
  whole = record {
    spelled = subst (SpellsPicture before (with_head picture is.head)) (sym is.bytes)
        (spelled-without laws.head before picture is.head is.behind is.without (subst (SpellsPicture before picture) is.source whole.spelled));
    covered = covered-without picture is.head whole.covered;
  };
  seq_is = refl;
  coding_is = refl;
}

coarser-alike : SpellingLaws → (before : Option SeqState) (picture : Picture) (unit : List ℕ) (m : ℕ) (version : UnitVersion) → MayPrecede before → IsPictureOf before unit picture
    → IsCoarserVersion picture m version → SpellsAlike before picture version.bytes
coarser-alike laws before picture unit m version may whole is =
    let lawful : IsLawfulBehind before is.made = laws.lawful m before picture is.made unit may whole.spelled whole.covered is.coarser in
    record {
      spelled = is.made;
      whole = record { spelled = laws.written before is.made lawful.bytes version.bytes lawful.spelled is.written; covered = lawful.covered };
      seq_is = is.coarser.seq;
      coding_is = is.coarser.coding;
    }

abbrev IsAlike : Option SeqState → Picture → UnitVersion → Type 0
IsAlike before picture version = SpellsAlike before picture version.bytes

others-alike : SpellingLaws → (before : Option SeqState) (picture : Picture) (unit coarser : List ℕ) (others : List UnitVersion) → MayPrecede before → IsPictureOf before unit picture
    → AllZip (IsCoarserVersion picture) coarser others → All (IsAlike before picture) others
others-alike laws before picture unit [] [] may whole are = All-nil (IsAlike before picture)
others-alike laws before picture unit [] (v ∷ vs) may whole are = absurd are
others-alike laws before picture unit (m ∷ ms) [] may whole are = absurd are
others-alike laws before picture unit (m ∷ ms) (v ∷ vs) may whole are =
    All-cons (IsAlike before picture) v vs (coarser-alike laws before picture unit m v may whole are.0) (others-alike laws before picture unit ms vs may whole are.1)

no_version : UnitVersion
no_version = record { bytes = []; distortion = 0 }

pub chosen-alike : SpellingLaws → (before : Option SeqState) (unit coarser : List ℕ) (versions : List UnitVersion) (k : ℕ) → MayPrecede before → (are : AreVersions before unit coarser versions)
    → k < length versions → SpellsAlike before are.picture (chosen_bytes versions k)
chosen-alike laws before unit coarser versions k may are within =
    let of = are.of_picture in
    let all : All (IsAlike before are.picture) versions =
    subst (All (IsAlike before are.picture)) (sym of.in_order)
    (All-cons (IsAlike before are.picture) of.first of.others (source-alike laws before are.picture unit of.first are.whole of.source)
    (others-alike laws before are.picture unit coarser of.others may are.whole of.coarser_ones)) in
    let chosen : chosen_bytes versions k ≡ (get_or versions k no_version).bytes =
    ap (λ (found : Option UnitVersion). option_map_or (λ (version : UnitVersion). version.bytes) found []) (slice_get-get_or versions k no_version within) in
    subst (SpellsAlike before are.picture) (sym chosen) (All-get_or (IsAlike before are.picture) versions k no_version within all)

-- a unit spells one picture
pub one-picture : (before : Option SeqState) (unit : List ℕ) (a b : Picture) → IsPictureOf before unit a → IsPictureOf before unit b → a ≡ b
one-picture before unit a b p q = ((exact-picture_unit before).one_value a b (bit_list unit) [] [] p.spelled q.spelled).0

-- What the last coded I or P frame is shown for, by the picture before in place of all earlier ones.
use Rattle.std.proofs.Common.{◌≡◌, Bool, true, false, List, [], ◌∷◌, map, Option, None, Some, IfSome, refl, sym, ap, ◌∙◌}
use Rattle.syntax_types.specs.declared.picture.PicCoding.{PicCoding}
use Rattle.syntax_types.specs.declared.picture.SeqState.{SeqState}
use Rattle.picture_grammar.specs.Macroblock.{is_frame}
use Rattle.program_reader.specs.declared.timed_picture.Role.{Role}
use Rattle.program_reader.specs.declared.timed_picture.Role.TheVariants.{Frame, FirstField, SecondField}
use Rattle.program_reader.specs.declared.timed_picture.TimedPicture.{TimedPicture}
use Rattle.program_reader.specs.Intervals.{before_frame, begins_reference, nearest, reference_shown, shown_as}
use Rattle.program_reader.specs.Units.{TellsReference, coded_as, role_behind, role_of}
use Rattle.program_reader.specs.Private.TimedPictures.{IsShown, LastTells, reference_before, reference_behind, reference_told}

-- ---- up to the picture before

told : (earlier : List TimedPicture) → LastTells earlier → reference_shown (map coded_as earlier) ≡ reference_told (nearest earlier)
told [] tells = refl
told (picture ∷ earlier) tells = sym tells.behind

-- ---- before the picture's own frame

-- a second field stands behind a first one
second_behind : (b : Bool) (last : Option Role) → SecondField ≡ role_behind b last → last ≡ Some FirstField
second_behind true last is = absurd cc
second_behind false None is = absurd cc
second_behind false (Some Frame) is = absurd cc
second_behind false (Some FirstField) is = refl
second_behind false (Some SecondField) is = absurd cc

pub before_is : (earlier : List TimedPicture) (coding : PicCoding) (role : Role) → LastTells earlier → role ≡ role_of (nearest earlier) coding →
    reference_before role (nearest earlier) ≡ reference_shown (before_frame role (map coded_as earlier))
before_is [] coding Frame tells is = refl
before_is [] coding FirstField tells is = refl
before_is [] coding SecondField tells is = refl
before_is (p ∷ ps) coding Frame tells is = tells.behind
before_is (p ∷ ps) coding FirstField tells is = tells.behind
before_is (p ∷ ps) coding SecondField tells is =
    let first : Some p.role ≡ Some FirstField = second_behind (is_frame coding) (Some p.role) is in
    let first_role : p.role ≡ FirstField = cc in
    tells.before ∙ ap (λ (r : Role). reference_shown (before_frame r (map coded_as ps))) first_role

-- ---- up to the picture's own frame

pub behind_is : (earlier : List TimedPicture) (picture : TimedPicture) → LastTells earlier →
    reference_behind picture.role picture.seq picture.coding (nearest earlier) ≡ reference_shown (map coded_as (picture ∷ earlier))
behind_is earlier picture tells = by_test (begins_reference picture.role picture.coding) refl
  where
    by_test : (begins : Bool) → begins_reference picture.role picture.coding ≡ begins →
        reference_behind picture.role picture.seq picture.coding (nearest earlier) ≡ reference_shown (map coded_as (picture ∷ earlier))
    by_test true is = rw is refl
    by_test false is = rw is (sym (told earlier tells))

pub tells_more : (earlier : List TimedPicture) (picture : TimedPicture) → LastTells earlier → picture.role ≡ role_of (nearest earlier) picture.coding →
    picture.reference_before ≡ reference_before picture.role (nearest earlier) →
    picture.reference_behind ≡ reference_behind picture.role picture.seq picture.coding (nearest earlier) → TellsReference earlier picture
tells_more earlier picture tells role before behind = record {
  before = before ∙ before_is earlier picture.coding picture.role tells role;
  behind = behind ∙ behind_is earlier picture tells;
}

-- ---- how long a frame is shown at most

pub before_shown : (role : Role) (before : Option TimedPicture) → IfSome before (λ picture. IfSome picture.reference_before IsShown) →
    IfSome before (λ picture. IfSome picture.reference_behind IsShown) → IfSome (reference_before role before) IsShown
before_shown role None before behind = tt
before_shown Frame (Some b) before behind = behind
before_shown FirstField (Some b) before behind = behind
before_shown SecondField (Some b) before behind = before

pub behind_shown : (role : Role) (seq : SeqState) (coding : PicCoding) (before : Option TimedPicture) → IsShown (shown_as role seq coding) →
    IfSome before (λ picture. IfSome picture.reference_behind IsShown) → IfSome (reference_behind role seq coding before) IsShown
behind_shown role seq coding before own behind = by_test (begins_reference role coding) refl
  where
    by_before : (before : Option TimedPicture) → IfSome before (λ picture. IfSome picture.reference_behind IsShown) → IfSome (reference_told before) IsShown
    by_before None behind = tt
    by_before (Some b) behind = behind

    by_test : (begins : Bool) → begins_reference role coding ≡ begins → IfSome (reference_behind role seq coding before) IsShown
    by_test true is = rw is own
    by_test false is = rw is (by_before before behind)

-- Each version of a unit spells its picture, behind the state that the unit is read behind.
use Rattle.std.proofs.Common.{◌≡◌, Bool, ◌%◌, ℕ, Option, List, [], ◌∷◌, ◌++◌, length, refl, sym, ap, subst, ◌∙◌, arith}
use Rattle.std.proofs.lemmas.List.{append_cancel_left}
use Rattle.bit_lists.specs.Fields.{bit_list}
use Rattle.bit_lists.proofs.ByteLemmas.{bit_list-append, length-bit_list}
use Rattle.syntax_types.specs.declared.picture.PicCoding.{PicCoding}
use Rattle.syntax_types.specs.declared.picture.Picture.{Picture}
use Rattle.syntax_types.specs.declared.picture.SeqState.{SeqState}
use Rattle.syntax_types.specs.declared.slice.Slice.{Slice}
use Rattle.picture_grammar.specs.Grammar.{Grammar, Next, SpellsList, with_spelling}
use Rattle.picture_grammar.specs.Grammar.Next.{more, last}
use Rattle.picture_grammar.specs.Head.{head as head_of}
use Rattle.picture_grammar.specs.Picture.{next_slice, picture_unit, IsCovered, MayPrecede, SpellsPicture}
use Rattle.picture_grammar.specs.Slice.{slice}
use Rattle.picture_grammar.specs.Macroblock.{macroblock}
use Rattle.picture_grammar.specs.Written.{IsWritten}
use Rattle.picture_laws.proofs.WrittenPicture.{picture-read, slices-of_picture}
use Rattle.picture_heads.specs.declared.TheConstants.{NO_DELAY}
use Rattle.picture_heads.specs.Heads.{IsHeadWithoutDelay}
use Rattle.picture_heads.proofs.ReadHeads.{without-read, without_delay as coding_without_delay}
use Rattle.requantiser.specs.Version.{IsVersion}
use Rattle.requantiser.proofs.LawfulVersions.{version-behind}

-- ---- vbv_delay plays no part in slices

same-slice : (seq : SeqState) (coding : PicCoding) (before : List Slice) → next_slice seq (coding_without_delay coding) before ≡ next_slice seq coding before
unfolding slice macroblock
same-slice seq coding before = refl

same-slices : (seq : SeqState) (coding : PicCoding) (before values : List Slice) (end : Bool) (bits rest : List ℕ) → SpellsList (next_slice seq coding) before values end bits rest
    → SpellsList (next_slice seq (coding_without_delay coding)) before values end bits rest
same-slices seq coding before [] end bits rest t = subst (λ (g : Grammar (Next Slice Bool)). g.Spells (last end) bits rest) (sym (same-slice seq coding before)) t
same-slices seq coding before (v ∷ vs) end bits rest (mid, t, u) =
    (mid, subst (λ (g : Grammar (Next Slice Bool)). g.Spells (more v) bits mid) (sym (same-slice seq coding before)) t, same-slices seq coding (before ++ v ∷ []) vs end mid rest u)

-- ---- the source version

-- the same picture without a vbv_delay
abbrev pub without_delay : Picture → (head : List ℕ) → Picture
without_delay picture head = record picture { coding = coding_without_delay picture.coding; head = head }

pub source-spelled : (before : Option SeqState) (picture : Picture) (unit head behind : List ℕ) → SpellsPicture before picture unit → unit ≡ picture.head ++ behind
    → IsHeadWithoutDelay picture.head head → SpellsPicture before (without_delay picture head) (head ++ behind)
unfolding picture_unit
source-spelled before picture unit head behind spelled source w =
    let (headers, m, (hs, are_head, split), (slices, m', t, (e, f))) = spelled in
    let same_head : picture.head ≡ headers.1 = ap (λ (p : Picture). p.head) e in
    let joined : bit_list headers.1 ++ m ≡ bit_list headers.1 ++ bit_list behind =
    sym split ∙ ap bit_list source ∙ bit_list-append picture.head behind ∙ ap (λ (x : List ℕ). bit_list x ++ bit_list behind) same_head in
    let rest : m ≡ bit_list behind = append_cancel_left (bit_list headers.1) m (bit_list behind) joined in
    let whole : length m % 8 ≡ 0 = omega (arith, ap length rest, length-bit_list behind) in
    let there : (with_spelling (head_of before)).Spells ((headers.0.0, headers.0.1), headers.1) (bit_list headers.1 ++ m) m =
    (subst (λ (x : List ℕ). (head_of before).Spells headers.0 x m) split hs, are_head, refl) in
    let read = without-read before headers.0.0 headers.0.1 headers.1 head m there whole (subst (λ (x : List ℕ). IsHeadWithoutDelay x head) same_head w) in
    let bits : bit_list head ++ m ≡ bit_list (head ++ behind) = ap (λ (x : List ℕ). bit_list head ++ x) rest ∙ sym (bit_list-append head behind) in (
      ((headers.0.0, coding_without_delay headers.0.1), head),
      m,
      subst (λ (x : List ℕ). (with_spelling (head_of before)).Spells ((headers.0.0, coding_without_delay headers.0.1), head) x m) bits read,
      (slices, m', same-slices headers.0.0 headers.0.1 [] slices.0 slices.1 m m' t, (ap (λ (p : Picture). without_delay p head) e, f)),
    )

-- ---- the coarser ones

pub coarser-spelled : (m : ℕ) (before : Option SeqState) (picture made : Picture) (unit version : List ℕ) → MayPrecede before → SpellsPicture before picture unit → IsCovered picture
    → IsVersion m picture made → IsWritten made version → SpellsPicture before made version
coarser-spelled m before picture made unit version may spelled covered is written =
    let lawful = version-behind m before picture made unit may spelled covered is in
    picture-read before made version (slices-of_picture before made (bit_list lawful.bytes) [] (omega (arith, length-bit_list lawful.bytes)) lawful.spelled) written

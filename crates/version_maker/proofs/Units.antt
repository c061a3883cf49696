-- The picture that a unit spells: its head begins the unit, and it is lawful.
use Rattle.std.proofs.Common.{◌≡◌, ℕ, List, [], ◌∷◌, ◌++◌, take, drop, Option, refl, ap, ap₂, subst, sym}
use Rattle.bit_lists.specs.Fields.{AreBytes, bit_list, bits_of_byte}
use Rattle.bit_lists.proofs.PrefixLemmas.{bits_of_byte-same}
use Rattle.syntax_types.specs.declared.picture.Picture.{Picture}
use Rattle.syntax_types.specs.declared.picture.SeqState.{SeqState}
use Rattle.picture_grammar.specs.Picture.{IsLawful, MayPrecede, SpellsPicture, picture_unit}
use Rattle.picture_reader.specs.Picture.{IsPictureOf}

-- bytes whose bits begin with those of others begin with these
bytes-behind : (front bytes bits : List ℕ) → AreBytes front → AreBytes bytes → bit_list bytes ≡ bit_list front ++ bits → (behind : List ℕ) × (bytes ≡ front ++ behind)
bytes-behind [] bytes bits are are' same = (bytes, refl)
bytes-behind (x ∷ xs) [] bits are are' same = cc
bytes-behind (x ∷ xs) (y ∷ ys) bits are are' same =
    let first : bits_of_byte y ≡ bits_of_byte x = ap (take 8) same in
    let (behind, others) = bytes-behind xs ys bits are.1 are'.1 (ap (drop 8) same) in
    (behind, ap₂ (λ (b : ℕ) (bs : List ℕ). b ∷ bs) (bits_of_byte-same y x are'.0 are.0 first) others)

-- the head of the picture begins its unit
pub head-begins : (before : Option SeqState) (picture : Picture) (unit : List ℕ) → AreBytes unit → SpellsPicture before picture unit → (behind : List ℕ) × (unit ≡ picture.head ++ behind)
unfolding picture_unit
head-begins before picture unit are (headers, m, (s, are_head, split), (slices, m', t, (e, f))) =
    let begins : (behind : List ℕ) × (unit ≡ headers.1 ++ behind) = bytes-behind headers.1 unit m are_head are split in
    subst (λ (p : Picture). (behind : List ℕ) × (unit ≡ p.head ++ behind)) (sym e) begins

pub lawful-unit : (before : Option SeqState) (picture : Picture) (unit : List ℕ) → MayPrecede before → AreBytes unit → IsPictureOf before unit picture → IsLawful picture
lawful-unit before picture unit may are whole = record { before = before; preceded = may; bytes = unit; are_bytes = are; spelled = whole.spelled; covered = whole.covered }

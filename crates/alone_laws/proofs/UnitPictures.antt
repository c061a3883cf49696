-- Where a picture begins in a unit that spells one.
use Rattle.std.proofs.Common.{◌≡◌, ℕ, ◌+◌, ◌*◌, ◌/◌, ◌<◌, ◌≤◌, ◌==◌, Bool, true, false, List, [], ◌++◌, get_or, length, take, drop, Option, refl, sym, ap, ◌∙◌, arith, append_assoc, append-nil, eq-eqb, ◌-◌}
use Rattle.std.proofs.lemmas.Bool.{eqb-true}
use Rattle.std.proofs.lemmas.List.{length-drop, length-take}
use Rattle.bit_lists.specs.Bits.{bits_of}
use Rattle.bit_lists.specs.Fields.{AreBytes, bit_list, bits_of_byte}
use Rattle.bit_lists.proofs.ByteLemmas.{bit_list-take, length-bit_list}
use Rattle.stream_constants.specs.declared.start_codes.TheConstants.{PICTURE, GROUP}
use Rattle.syntax_types.specs.declared.picture.Picture.{Picture}
use Rattle.syntax_types.specs.declared.picture.SeqState.{SeqState}
use Rattle.es_units.specs.StartCodes.{has_code, is_start_code_at}
use Rattle.es_units.proofs.Codes.{no_code}
use Rattle.picture_grammar.specs.Head.{head}
use Rattle.picture_grammar.specs.Picture.{SpellsPicture, picture_unit}
use Rattle.picture_grammar.specs.StartCode.{start_code_bits, start_code_prefix}
use Rattle.picture_heads.proofs.Bytes.{bits-code, code-bits, same_parts}
use Rattle.alone_laws.proofs.GroupHeaders.{Spaced, head-spaced, spaced-size}

-- A picture's start code stands at the place, and none of a group less than eight bytes before it.
pub record HasPicture (unit : List ℕ) : Type 0 where
  pub at : ℕ
  pub within : at < length unit
  pub code : has_code (λ value. value == PICTURE) unit at ≡ true
  pub no_group : (g : ℕ) → g < at → at < g + 8 → has_code (λ value. value == GROUP) unit g ≡ false

-- the byte of a group's start code
group-byte : bits_of_byte GROUP ≡ bits_of 8 GROUP
unfolding bits_of
group-byte = refl

said : (es : List ℕ) (at : ℕ) → is_start_code_at es at ≡ true → (test : ℕ → Bool) → has_code test es at ≡ test (get_or es (at + 3) 0)
said es at is test = rw is refl

-- a group's start code in the bits
group-bits : (unit : List ℕ) (g : ℕ) → has_code (λ value. value == GROUP) unit g ≡ true
    → (g + 3 < length unit) × (bit_list unit ≡ bit_list (take g unit) ++ (start_code_bits GROUP ++ bit_list (drop (g + 4) unit)))
group-bits unit g has = by_code (is_start_code_at unit g) refl
  where
    by_code : (there : Bool) → is_start_code_at unit g ≡ there
        → (g + 3 < length unit) × (bit_list unit ≡ bit_list (take g unit) ++ (start_code_bits GROUP ++ bit_list (drop (g + 4) unit)))
    by_code false is = absurd (let both : false ≡ true = sym (no_code (λ value. value == GROUP) unit g is) ∙ has in cc)
    by_code true is =
        let value : get_or unit (g + 3) 0 ≡ GROUP = eqb-true (get_or unit (g + 3) 0) GROUP (sym (said unit g is (λ value. value == GROUP)) ∙ has) in
        let (within, bits) = code-bits unit g is in
        let later : bit_list (drop g unit) ≡ start_code_bits GROUP ++ bit_list (drop (g + 4) unit) =
        bits ∙ ap (λ (v : ℕ). start_code_prefix ++ (bits_of_byte v ++ bit_list (drop (g + 4) unit))) value
        ∙ ap (λ (x : List ℕ). start_code_prefix ++ (x ++ bit_list (drop (g + 4) unit))) group-byte ∙ sym (joined start_code_prefix (bits_of 8 GROUP) (bit_list (drop (g + 4) unit))) in
        (within, bit_list-take g unit ∙ ap (λ (x : List ℕ). bit_list (take g unit) ++ x) later)
      where
        joined : (a b c : List ℕ) → (a ++ b) ++ c ≡ a ++ (b ++ c)
        joined a b c = simp append_assoc

from-spaced : (unit rest : List ℕ) → AreBytes unit → Spaced (bit_list unit) rest → HasPicture unit
from-spaced unit rest are s =
    let sizes : 8 * length unit ≡ length s.front + 32 + length rest = sym (length-bit_list unit) ∙ spaced-size (bit_list unit) rest s in
    let at : ℕ = length s.front / 8 in
    let eights : length s.front ≡ 8 * at = omega (arith, sizes, s.whole) in
    let low : at + 4 ≤ length unit = omega (arith, sizes, eights) in
    let size : length (bit_list (take at unit)) ≡ length s.front = length-bit_list (take at unit) ∙ omega (arith, length-take at unit, low, eights) in
    let (front, later) = same_parts (bit_list (take at unit)) s.front (bit_list (drop at unit)) (start_code_bits PICTURE ++ rest) size (sym (bit_list-take at unit) ∙ s.split) in
    let (is, value, within, behind) = bits-code unit [] at PICTURE rest are (omega arith) (omega (arith, low)) (omega arith) (append-nil (bit_list (drop at unit)) ∙ later) in
    record {
      at = at;
      within = omega (arith, low);
      code = said unit at is (λ v. v == PICTURE) ∙ eq-eqb (get_or unit (at + 3) 0) PICTURE value;
      no_group = λ g before near. none g before near (has_code (λ v. v == GROUP) unit g) refl sizes eights;
    }
  where
    none : (g : ℕ) → g < length s.front / 8 → length s.front / 8 < g + 8 → (has : Bool) → has_code (λ v. v == GROUP) unit g ≡ has → 8 * length unit ≡ length s.front + 32 + length rest
        → length s.front ≡ 8 * (length s.front / 8) → has_code (λ v. v == GROUP) unit g ≡ false
    none g before near false is sizes eights = is
    none g before near true is sizes eights =
        let (within, bits) = group-bits unit g is in
        let size : length (bit_list (drop (g + 4) unit)) ≡ 8 * (length unit - (g + 4)) = length-bit_list (drop (g + 4) unit) ∙ ap (λ (n : ℕ). 8 * n) (length-drop (g + 4) unit) in
        let far = s.apart (bit_list (take g unit)) (bit_list (drop (g + 4) unit)) bits (omega (arith, size)) (omega (arith, size, sizes, eights, before, within)) in
        absurd (omega (arith, far, size, sizes, eights, near, within))

pub has-picture : (before : Option SeqState) (picture : Picture) (unit : List ℕ) → AreBytes unit → SpellsPicture before picture unit → HasPicture unit
unfolding picture_unit head
has-picture before picture unit are spelled =
    let (headers, m, (hs, are_head, split), slices) = spelled in
    let (seq, m1, s1, (group, m2, s2, (inner, m3, (byte, rest, s3, more), others))) = hs in
    from-spaced unit rest are (head-spaced before seq group byte (bit_list unit) m1 m2 rest s1 s2 s3 (omega (arith, length-bit_list unit)))

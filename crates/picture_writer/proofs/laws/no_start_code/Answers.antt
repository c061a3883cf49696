use Rattle.std.proofs.Common.{◌≡◌, ℕ, zero, suc, ◌*◌, List, [], ◌∷◌, ◌++◌, length, take, drop, refl, sym, ap, ◌∙◌, append_assoc}
use Rattle.std.proofs.lemmas.List.{take-append-drop}
use Rattle.std.specs.Option.{option_map}
use Rattle.bit_lists.specs.Bits.{bits_of, IsPrefix}
use Rattle.bit_lists.specs.Fields.{bit_list}
use Rattle.bit_lists.proofs.ByteLemmas.{bit_list-append, bit_list-take, length-bit_list}
use Rattle.syntax_types.specs.declared.picture.Picture.{Picture}
use Rattle.syntax_types.specs.declared.slice.Slice.{Slice}
use Rattle.picture_grammar.specs.StartCode.{start_code_prefix}
use Rattle.picture_laws.specs.SliceStands.{SliceStands}
use Rattle.picture_laws.proofs.StandingSlices.{slices-stand}
use Rattle.picture_writer.specs.SliceBytes.{NoCodeInside}
use Rattle.picture_laws.proofs.StartCodes.{prefix_bits}
use Rattle.picture_writer.proofs.laws.no_start_code.Goals as goal

in_bits : (unit : List ℕ) (place : ℕ) → IsPrefix (0 ∷ 0 ∷ 1 ∷ []) (drop place unit) → bit_list unit ≡ bit_list (take place unit) ++ start_code_prefix ++ bit_list (drop 3 (drop place unit))
in_bits unit place is =
    let rest = drop 3 (drop place unit) in
    let here : bit_list (drop place unit) ≡ start_code_prefix ++ bit_list rest =
    ap bit_list (sym (take-append-drop 3 (drop place unit)) ∙ ap (λ front. front ++ rest) is) ∙ bit_list-append (0 ∷ 0 ∷ 1 ∷ []) rest ∙ ap (λ front. front ++ bit_list rest) prefix_bits in
    bit_list-take place unit ∙ ap (λ behind. bit_list (take place unit) ++ behind) here ∙ sym (append_assoc (bit_list (take place unit)) start_code_prefix (bit_list rest))

length-before : (unit : List ℕ) (place : ℕ) → IsPrefix (0 ∷ 0 ∷ 1 ∷ []) (drop place unit) → length (bit_list (take place unit)) ≡ 8 * place
length-before unit place is = length-bit_list (take place unit) ∙ ap (λ n. 8 * n) (taken place unit is)
  where
    taken : (n : ℕ) (xs : List ℕ) → IsPrefix (0 ∷ 0 ∷ 1 ∷ []) (drop n xs) → length (take n xs) ≡ n
    taken zero xs is = refl
    taken (suc n) [] is = absurd (let e : [] ≡ 0 ∷ 0 ∷ 1 ∷ [] = is in cc)
    taken (suc n) (x ∷ xs) is = ap suc (taken n xs is)

none_inside : (picture : Picture) (s : Slice) (unit : List ℕ) (stands : SliceStands picture s (bit_list unit)) → NoCodeInside picture s unit stands
none_inside picture s unit stands place is = rw (← length-before unit place is) (stands.no_code (bit_list (take place unit)) (bit_list (drop 3 (drop place unit))) (in_bits unit place is))

pub returns : goal.returns
returns c = record {
  stands = λ earlier later s is. slices-stand (option_map (λ state. state.now) c.args.before) c.args.picture.now c.args.unit.now earlier later s c.requires.spelled is;
  bytes = λ s stands. none_inside c.args.picture.now s c.args.unit.now stands;
}

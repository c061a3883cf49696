-- What the header of a slice says: its code, and what stands behind it, which is no longer than the slice.
use Rattle.std.proofs.Common.{ℕ, ◌+◌, ◌≤◌, Option, Some, None, List, [], ◌∷◌, ◌++◌, Bool, true, false, sym, ap, subst, arith, length, IfSome}
use Rattle.std.proofs.lemmas.List.{length-append}
use Rattle.quant_math.specs.Scales.{IsCode}
use Rattle.syntax_types.specs.declared.slice.SliceInfo.{SliceInfo}
use Rattle.picture_grammar.specs.Element.{uimsbf}
use Rattle.picture_grammar.specs.Grammar.{SpellsList, optional, Next}
use Rattle.picture_grammar.specs.Grammar.Next.{more}
use Rattle.picture_grammar.specs.Slice.{extra_information, slice_extension, slice_info}
use Rattle.macroblock_reader.specs.declared.head.SliceHead.{SliceHead}
use Rattle.macroblock_reader.specs.SliceHead.{slice_head}
use Rattle.requantiser.proofs.Spelled.{is_code}

optional-few : (present : Bool) (byte : Option ℕ) (bits rest : List ℕ) → (optional present (uimsbf 8 [])).Spells byte bits rest → length rest ≤ length bits
optional-few true byte bits rest (value, m, (code, coded, passing, split), (e, f)) = omega (arith, ap length split, length-append code m, ap length f)
optional-few false byte bits rest (e, f) = omega (arith, ap length f)

extra-few : (before : List ℕ) (next : Next ℕ (Unit {0})) (bits rest : List ℕ) → (extra_information before).Spells next bits rest → length rest + 1 ≤ length bits
extra-few before next bits rest (another, m, (code, coded, passing, split), (byte, m', s, (e, f))) =
    omega (arith, ap length split, length-append code m, ap length coded, optional-few another byte m m' s, ap length f)

list-few : (before bytes bits rest : List ℕ) → SpellsList extra_information before bytes tt bits rest → length bytes ≤ length bits
list-few before [] bits rest s = omega arith
list-few before (b ∷ bs) bits rest (middle, s, t) = omega (arith, extra-few before (more b) bits middle s, list-few (before ++ b ∷ []) bs middle rest t)

extension-few : (info : SliceInfo) (bits rest : List ℕ) → slice_extension.Spells info bits rest → length info.bytes ≤ length bits
extension-few info bits rest (intra, a, (code, coded, passing, split), (reserved, b, (code', coded', passing', split'), (information, d, s, (e, f)))) =
    omega (
      arith,
      ap (λ (i : SliceInfo). length i.bytes) e,
      list-few [] information.0 b d s,
      ap length split,
      length-append code a,
      ap length split',
      length-append code' b,
    )

extended-few : (extended : Bool) (info : Option SliceInfo) (bits rest : List ℕ) → (optional extended slice_extension).Spells info bits rest → IfSome info (λ i. length i.bytes ≤ length bits)
extended-few true info bits rest (value, m, s, (e, f)) = subst (λ (o : Option SliceInfo). IfSome o (λ i. length i.bytes ≤ length bits)) (sym e) (extension-few value bits m s)
extended-few false info bits rest (e, f) = subst (λ (o : Option SliceInfo). IfSome o (λ i. length i.bytes ≤ length bits)) (sym e) tt

if-more : (info : Option SliceInfo) (n k : ℕ) → n ≤ k → IfSome info (λ i. length i.bytes ≤ n) → IfSome info (λ i. length i.bytes ≤ k)
if-more None n k le is = tt
if-more (Some info) n k le is = omega (arith, le, is)

info-few : (info : Option SliceInfo) (bits rest : List ℕ) → slice_info.Spells info bits rest → IfSome info (λ i. length i.bytes ≤ length bits)
info-few info bits rest (extended, m, (code, coded, passing, split), s) =
    if-more info (length m) (length bits) (omega (arith, ap length split, length-append code m)) (extended-few extended info m rest s)

-- what a slice's header says
pub head-info-few : (head : SliceHead) (bits rest : List ℕ) (most : ℕ) → length bits ≤ most → slice_head.Spells head bits rest → IfSome head.info (λ i. length i.bytes ≤ most)
head-info-few head bits rest most short (number, m, (code, coded, passing, split), (info, m', t, (e, f))) =
    subst (λ (o : Option SliceInfo). IfSome o (λ i. length i.bytes ≤ most)) (ap (λ (h : SliceHead). h.info) (sym e))
    (if-more info (length m) most (omega (arith, short, ap length split, length-append code m)) (info-few info m m' t))

pub head-code : (head : SliceHead) (bits rest : List ℕ) → slice_head.Spells head bits rest → IsCode head.code
head-code head bits rest (number, m, s, (info, m', t, (e, f))) = subst IsCode (ap (λ (h : SliceHead). h.code) (sym e)) (is_code number bits m s)

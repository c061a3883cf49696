-- Macroblocks that some bits spell can be written.
use Rattle.std.proofs.Common.{◌≡◌, ℕ, zero, suc, ◌-◌, ◌^◌, ◌<◌, ◌==◌, List, [], ◌∷◌, Option, IfSome, Bool, true, false, not, slice_index, slice_index_or, sym, ap, subst, inl, inr, arith}
use Rattle.std.specs.List.{AllByRecursion}
use Rattle.std.proofs.lemmas.Bool.{cases_Bool}
use Rattle.std.proofs.lemmas.Nat.{pow_pos}
use Rattle.syntax_types.specs.declared.block.Block.{Block}
use Rattle.syntax_types.specs.declared.block.BlockWay.{BlockWay}
use Rattle.syntax_types.specs.declared.macroblock.Macroblock.{Macroblock}
use Rattle.syntax_types.specs.declared.macroblock.Vector.{Vector}
use Rattle.syntax_types.specs.declared.picture.PicCoding.{PicCoding}
use Rattle.picture_grammar.specs.Grammar.{optional, when, repeated}
use Rattle.picture_grammar.specs.Refusal.Refusal.{BadType}
use Rattle.picture_grammar.specs.Element.{Rule, rule, uimsbf}
use Rattle.picture_grammar.specs.Block.{block}
use Rattle.picture_grammar.specs.Motion.{MotionFormat, Part, has_residual, vector_part, motion_vector, motion_vectors}
use Rattle.picture_grammar.specs.Macroblock.{macroblock, has_motion_type, usual_motion_type, is_frame, quantiser_scale_code, has_forward, f_codes, motion_format, block_way, is_coded, no_block}
use Rattle.picture_laws.specs.Spellable.{IsSpellable, IsSpellableBlock, HasSpellableParts}
use Rattle.picture_laws.proofs.WrittenBlocks.{blocks-of}
use Rattle.picture_laws.proofs.WrittenCoefficients.{of_coefficients}
use Rattle.picture_laws.proofs.WrittenMacroblock.{parts-of_macroblock}
use Rattle.macroblock_writer.specs.Private.Writing.{CanStand, CanBeWritten}

-- ---- numbers

number_fits : (n : ℕ) (rules : List (Rule ℕ)) (number : ℕ) (bits rest : List ℕ) → (uimsbf n rules).Spells number bits rest → number < 2 ^ n
number_fits n rules number bits rest (code, (fits, same), passing, split) = fits

usual_fits : (coding : PicCoding) → usual_motion_type coding < 4
usual_fits coding = elim (cases_Bool (is_frame coding)) [
  | inl is ↦ rw is (omega arith)
  | inr other ↦ rw other (omega arith)
]

motion_type_fits : (stands : Bool) (coding : PicCoding) (number : ℕ) (bits rest : List ℕ)
    → (when stands (uimsbf 2 (rule BadType (λ number. not (number == 0)) ∷ [])) (usual_motion_type coding)).Spells number bits rest → number < 2 ^ 2
motion_type_fits true coding number bits rest (code, (fits, same), passing, split) = fits
motion_type_fits false coding number bits rest (e, f) = subst (λ (n : ℕ). n < 4) (sym e) (usual_fits coding)

code_fits : (stands : Bool) (code : Option ℕ) (bits rest : List ℕ) → (optional stands quantiser_scale_code).Spells code bits rest → IfSome code (λ code. code < 2 ^ 5)
code_fits true code bits rest (number, m, (spelled, (fits, same), passing, split), (e, f)) = subst (λ (found : Option ℕ). IfSome found (λ code. code < 2 ^ 5)) (sym e) fits
code_fits false code bits rest (e, f) = subst (λ (found : Option ℕ). IfSome found (λ code. code < 2 ^ 5)) (sym e) tt

-- ---- vectors

residual_fits : (stands : Bool) (n residual : ℕ) (bits rest : List ℕ) → (when stands (uimsbf n []) 0).Spells residual bits rest → residual < 2 ^ n
residual_fits true n residual bits rest s = number_fits n [] residual bits rest s
residual_fits false n residual bits rest (e, f) = subst (λ (number : ℕ). number < 2 ^ n) (sym e) (pow_pos n)

part_fits : (f_code : ℕ) (dual : Bool) (part : Part) (bits rest : List ℕ) → (vector_part f_code dual).Spells part bits rest → part.residual < 2 ^ (f_code - 1)
part_fits f_code dual part bits rest (size, m1, s1, (negative, m2, s2, (residual, m3, s3, (difference, m4, s4, (e, f))))) =
    subst (λ (number : ℕ). number < 2 ^ (f_code - 1)) (sym (ap (λ (p : Part). p.residual) e)) (residual_fits (has_residual f_code size) (f_code - 1) residual m2 m3 s3)

vector_stands : (codes : List ℕ) (format : MotionFormat) (vector : Vector) (bits rest : List ℕ) → (motion_vector codes format).Spells vector bits rest → CanStand codes vector
vector_stands codes format vector bits rest (select, m1, s1, (horizontal, m2, s2, (vertical, m3, s3, (e, f)))) = record {
  horizontal = subst (λ (number : ℕ). number < 2 ^ (slice_index codes 0 - 1)) (sym (ap (λ (v : Vector). slice_index v.residual 0) e))
      (part_fits (slice_index codes 0) format.dual horizontal m1 m2 s2);
  vertical = subst (λ (number : ℕ). number < 2 ^ (slice_index codes 1 - 1)) (sym (ap (λ (v : Vector). slice_index v.residual 1) e)) (part_fits (slice_index codes 1) format.dual vertical m2 m3 s3);
}

several_stand : (n : ℕ) (codes : List ℕ) (format : MotionFormat) (vectors : List Vector) (bits rest : List ℕ) → (repeated n (motion_vector codes format)).Spells vectors bits rest
    → AllByRecursion (CanStand codes) vectors
several_stand zero codes format vectors bits rest (e, f) = subst (AllByRecursion (CanStand codes)) (sym e) tt
several_stand (suc n) codes format vectors bits rest (v, m, s, (vs, m', t, (e, f))) =
    subst (AllByRecursion (CanStand codes)) (sym e) (vector_stands codes format v bits m s, several_stand n codes format vs m m' t)

vectors_stand : (stand : Bool) (codes : List ℕ) (format : MotionFormat) (vectors : List Vector) (bits rest : List ℕ)
    → (when stand (motion_vectors codes format) []).Spells vectors bits rest → AllByRecursion (CanStand codes) vectors
vectors_stand true codes format vectors bits rest s = several_stand format.count codes format vectors bits rest s
vectors_stand false codes format vectors bits rest (e, f) = subst (AllByRecursion (CanStand codes)) (sym e) tt

-- ---- the whole macroblock

block_spelled : (coded : Bool) (way : BlockWay) (b : Block) → IsSpellableBlock coded way b → coded ≡ true → IsSpellable (block way) b
block_spelled true way b has is = of_coefficients way b has
block_spelled false way b has is = absurd (let e : false ≡ true = is in cc)

pub can_be_written : (coding : PicCoding) (first : Bool) (columns_left : ℕ) (m : Macroblock) → HasSpellableParts coding first columns_left m → CanBeWritten coding m
can_be_written coding first columns_left m parts = record {
  motion_type = motion_type_fits (has_motion_type coding m.kind) coding m.motion_type parts.motion_type.bits parts.motion_type.rest parts.motion_type.spelled;
  code = code_fits m.kind.quant m.code parts.code.bits parts.code.rest parts.code.spelled;
  forward = vectors_stand (has_forward coding m.kind) (f_codes coding 0) (motion_format coding m.motion_type) m.forward.items parts.forward.bits parts.forward.rest parts.forward.spelled;
  backward = vectors_stand m.kind.backward (f_codes coding 1) (motion_format coding m.motion_type) m.backward.items parts.backward.bits parts.backward.rest parts.backward.spelled;
  blocks = λ i lt is. block_spelled (is_coded m.kind m.pattern i) (block_way coding m.kind i) (slice_index_or m.blocks i no_block)
      ((blocks-of coding m.kind m.pattern m.blocks parts.blocks).each i lt) is;
}

pub spelled_can_be_written : (coding : PicCoding) (first : Bool) (columns_left : ℕ) (m : Macroblock) → IsSpellable (macroblock coding first columns_left) m → CanBeWritten coding m
spelled_can_be_written coding first columns_left m s = can_be_written coding first columns_left m (parts-of_macroblock coding first columns_left m s.bits s.rest s.spelled)

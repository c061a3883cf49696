use Rattle.std.proofs.Common.{◌≡◌, ◌+◌, ◌-◌, ◌==◌, ◌&&◌, not, ℕ, ℤ, pos, w8, to_z, of_z, SFits, rules, List, [], ◌∷◌, ◌∙◌, Bool, if◌then◌else◌, unsigned_abs, int_lt, nat_eq, length, refl, ap, ap₂, sym, inl, inr, arith}
use Rattle.std.proofs.lemmas.Bool.{cases_Bool, eqb-true, ne_eqb}
use Rattle.std.proofs.lemmas.Int.{to_z-of_z}
use Rattle.bit_lists.specs.Bits.{bits_of}
use Rattle.bit_lists.specs.Fields.{flag}
use Rattle.bit_lists.proofs.BitLemmas.{length-bits_of}
use Rattle.prefix_codes.specs.declared.table_name.TableName.TheVariants.{Motion}
use Rattle.picture_grammar.specs.Motion.{has_residual}
use Rattle.prefix_codes.specs.TableName.{code_for}
use Rattle.list_types.proofs.Lists.{three_parts}
use Rattle.macroblock_writer.proofs.vector_counts.motion_code_bits.Goals as goal

-- the residual stands in f_code - 1 bits, which are none where it doesn't stand
residual_count : (f_code size residual : ℕ) → (size ≡ 0 → ⊥) → f_code - 1 ≡ length (if has_residual f_code size then bits_of (f_code - 1) residual else [])
residual_count f_code size residual some = elim (cases_Bool (nat_eq f_code 1)) [
  | inl is ↦ ap (λ (n : ℕ). n - 1) (eqb-true f_code 1 is) ∙ sym (ap₂ (λ (a b : Bool). length (if not a && not b then bits_of (f_code - 1) residual else [])) is (ne_eqb size 0 some))
  | inr other ↦ sym (length-bits_of (f_code - 1) residual) ∙ sym (ap₂ (λ (a b : Bool). length (if not a && not b then bits_of (f_code - 1) residual else [])) other (ne_eqb size 0 some))
]

-- the sign where the code isn't 0
sign_count : (size bit : ℕ) → (size ≡ 0 → ⊥) → 1 ≡ length (if size == 0 then [] else bit ∷ [])
sign_count size bit some = sym (ap (λ (b : Bool). length (if b then [] else bit ∷ [])) (ne_eqb size 0 some))

pub returns-clause-value : goal.returns-clause-value
returns-clause-value c =
    let fits : SFits w8 c.args.code = search rules in
    let size = unsigned_abs c.args.code in
    let is : c.from.result ≡ size = c.from.ensures ∙ c.unsigned_abs-size.ensures.value ∙ ap unsigned_abs (to_z-of_z w8 c.args.code fits) in
    let some : size ≡ 0 → ⊥ = λ none. c.if-size-eq0.false (sym c.from.ensures ∙ is ∙ none) in
    let sign = flag (int_lt c.args.code (pos 0)) in
    let first : c.code_bits-bits.result ≡ length (code_for Motion size) = c.code_bits-bits.ensures.value ∙ ap (λ n. length (code_for Motion n)) is in
    let third : c.saturating_sub.result ≡ c.args.f_code - 1 = c.saturating_sub.ensures ∙ ap (λ n. n - 1) c.from-2.ensures in
    omega (
      arith,
      first,
      sign_count size sign some,
      third,
      residual_count c.args.f_code size c.args.residual some,
      three_parts (code_for Motion size) (if size == 0 then [] else sign ∷ []) (if has_residual c.args.f_code size then bits_of (c.args.f_code - 1) c.args.residual else []),
    )

use Rattle.std.proofs.Common.{◌≡◌, ◌-◌, ◌==◌, ℕ, ℤ, pos, w8, to_z, of_z, SFits, rules, List, [], ◌∷◌, ◌++◌, Bool, ◌&&◌, not, if◌then◌else◌, unsigned_abs, int_lt, nat_eq, ap, ap₂, sym, ◌∙◌, inl, inr}
use mir.Val.{bool_byte}
use Rattle.std.proofs.lemmas.Int.{to_z-of_z}
use Rattle.std.proofs.lemmas.Bool.{cases_Bool, eqb-true, ne_eqb}
use Rattle.bit_lists.specs.Bits.{bits_of}
use Rattle.bit_lists.specs.Fields.{flag}
use Rattle.bit_cursor.proofs.Composed.{writes_then, writes_exit}
use Rattle.block_coeffs.proofs.Writing.{writes_as, as_flag, sign_bit}
use Rattle.prefix_codes.specs.declared.table_name.TableName.TheVariants.{Motion}
use Rattle.picture_grammar.specs.Motion.{has_residual}
use Rattle.prefix_codes.specs.TableName.{code_for}
use Rattle.macroblock_writer.proofs.Writing.{writes_beyond}
use Rattle.macroblock_writer.proofs.vectors.write_motion_code.Goals as goal

-- the residual stands in f_code - 1 bits, which are none where it doesn't stand
residual_bits : (f_code size residual : ℕ) → (size ≡ 0 → ⊥) → bits_of (f_code - 1) residual ≡ (if has_residual f_code size then bits_of (f_code - 1) residual else [])
unfolding bits_of
residual_bits f_code size residual some = elim (cases_Bool (nat_eq f_code 1)) [
  | inl is ↦
      let none : bits_of (f_code - 1) residual ≡ [] = ap (λ (n : ℕ). bits_of (n - 1) residual) (eqb-true f_code 1 is) in
      none ∙ sym (ap₂ (λ (a b : Bool). if not a && not b then bits_of (f_code - 1) residual else []) is (ne_eqb size 0 some))
  | inr other ↦ sym (ap₂ (λ (a b : Bool). if not a && not b then bits_of (f_code - 1) residual else []) other (ne_eqb size 0 some))
]

-- the sign where the code isn't 0
sign_bits : (size : ℕ) (negative : Bool) → (size ≡ 0 → ⊥) → bits_of 1 (bool_byte negative) ≡ (if size == 0 then [] else flag negative ∷ [])
sign_bits size negative some =
    ap (bits_of 1) (as_flag negative) ∙ sign_bit negative ∙ sym (ap (λ (b : Bool). if b then [] else flag negative ∷ []) (ne_eqb size 0 some))

-- the code and its sign
code_bits : (size sign : ℕ) (code : ℤ) → size ≡ unsigned_abs code → (size ≡ 0 → ⊥) → sign ≡ bool_byte (int_lt code (pos 0))
    → code_for Motion size ++ bits_of 1 sign ≡ code_for Motion (unsigned_abs code) ++ (if unsigned_abs code == 0 then [] else flag (int_lt code (pos 0)) ∷ [])
code_bits size sign code is some negative =
    ap₂ (λ (a b : List ℕ). a ++ b) (ap (code_for Motion) is) (ap (bits_of 1) negative ∙ sign_bits (unsigned_abs code) (int_lt code (pos 0)) (λ none. some (is ∙ none)))

abbrev sign_part : ℤ → List ℕ
sign_part code = if unsigned_abs code == 0 then [] else flag (int_lt code (pos 0)) ∷ []

abbrev residual_part : ℕ → ℤ → ℕ → List ℕ
residual_part f_code code residual = if has_residual f_code (unsigned_abs code) then bits_of (f_code - 1) residual else []

-- the code as it is held
held_code : (code : ℤ) → SFits w8 code → (n : ℕ) → n ≡ unsigned_abs (to_z w8 (of_z w8 code)) → n ≡ unsigned_abs code
held_code code fits n is = is ∙ ap unsigned_abs (to_z-of_z w8 code fits)

held_sign : (code : ℤ) → SFits w8 code → (n : ℕ) → n ≡ bool_byte (int_lt (to_z w8 (of_z w8 code)) (pos 0)) → n ≡ bool_byte (int_lt code (pos 0))
held_sign code fits n is = is ∙ ap (λ (z : ℤ). bool_byte (int_lt z (pos 0))) (to_z-of_z w8 code fits)

pub returns-in_err-write_code : goal.returns-in_err-write_code
returns-in_err-write_code g c =
    let fits : SFits w8 c.args.code = search rules in
    let is : c.from.result ≡ unsigned_abs c.args.code = held_code c.args.code fits c.from.result (c.from.ensures ∙ c.unsigned_abs-size.ensures.value) in
    writes_as
    (writes_beyond c.from_residual.result (residual_part c.args.f_code c.args.code c.args.residual) c.from_residual.ensures.0
    (writes_exit c.from_residual.result (sign_part c.args.code) c.from_residual.ensures.1 c.in_err-write_code.ensures))
    (ap (λ size. code_for Motion size ++ sign_part c.args.code ++ residual_part c.args.f_code c.args.code c.args.residual) is)

pub returns-in_err-put_bits : goal.returns-in_err-put_bits
returns-in_err-put_bits g c =
    let fits : SFits w8 c.args.code = search rules in
    let is : c.from.result ≡ unsigned_abs c.args.code = held_code c.args.code fits c.from.result (c.from.ensures ∙ c.unsigned_abs-size.ensures.value) in
    let some : c.from.result ≡ 0 → ⊥ = λ none. c.if-size-eq0.false (sym c.from.ensures ∙ none) in
    let sign : c.from-2.result ≡ bool_byte (int_lt c.args.code (pos 0)) = held_sign c.args.code fits c.from-2.result c.from-2.ensures in
    writes_as
    (writes_exit c.from_residual-in_err-put_bits.result (residual_part c.args.f_code c.args.code c.args.residual) c.from_residual-in_err-put_bits.ensures.1
    (writes_then g.met.K.Sink.keeps_on c.in_ok-write_code.ensures c.in_err-put_bits.ensures.writes))
    (ap (λ bits. bits ++ residual_part c.args.f_code c.args.code c.args.residual) (code_bits c.from.result c.from-2.result c.args.code is some sign))

pub returns : goal.returns
returns g c =
    let fits : SFits w8 c.args.code = search rules in
    let is : c.from.result ≡ unsigned_abs c.args.code = held_code c.args.code fits c.from.result (c.from.ensures ∙ c.unsigned_abs-size.ensures.value) in
    let some : c.from.result ≡ 0 → ⊥ = λ none. c.if-size-eq0.false (sym c.from.ensures ∙ none) in
    let other : unsigned_abs c.args.code ≡ 0 → ⊥ = λ none. some (is ∙ none) in
    let sign : c.from-2.result ≡ bool_byte (int_lt c.args.code (pos 0)) = held_sign c.args.code fits c.from-2.result c.from-2.ensures in
    writes_as (writes_then g.met.K.Sink.keeps_on (writes_then g.met.K.Sink.keeps_on c.in_ok-write_code.ensures c.in_ok-put_bits.ensures.writes) c.put_bits-2.ensures.writes)
    (ap₂ (λ (a b : List ℕ). a ++ b) (code_bits c.from.result c.from-2.result c.args.code is some sign)
    (ap₂ bits_of (c.saturating_sub.ensures ∙ ap (λ n. n - 1) c.from-4.ensures) c.from-3.ensures ∙ residual_bits c.args.f_code (unsigned_abs c.args.code) c.args.residual other))

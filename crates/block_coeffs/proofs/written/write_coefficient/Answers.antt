use Rattle.std.proofs.Common.{◌≡◌, ◌+◌, ◌*◌, ◌^◌, ◌<◌, ℕ, ℤ, pos, w16, to_z, of_z, Bool, unsigned_abs, int_lt, [], ◌∷◌, ◌++◌, ap, ap₂, sym, ◌∙◌, arith}
use mir.Val.{bool_byte}
use Rattle.std.specs.Option.{option_map_or}
use Rattle.bit_lists.specs.Bits.{bits_of}
use Rattle.bit_lists.specs.Fields.{flag}
use Rattle.bit_lists.proofs.JoinedLemmas.{bits_of-put}
use Rattle.prefix_codes.specs.TableName.{coefficient_code}
use Rattle.picture_grammar.specs.Written.{written_escape}
use Rattle.block_coeffs.proofs.Writing.{writes_as, as_flag, sign_bit, held_level}
use Rattle.bit_lists.proofs.FieldLemmas.{flag_below}
use Rattle.block_coeffs.proofs.written.write_coefficient.Goals as goal

-- a code and a sign bit in one number
code_and_sign : (len bits sign n : ℕ) (negative : Bool) → sign ≡ flag negative → n ≡ len → bits_of (n + 1) (2 * bits + sign) ≡ bits_of len bits ++ flag negative ∷ []
code_and_sign len bits sign n negative is same =
    let small : sign < 2 ^ 1 = rw is (flag_below negative) in
    let number : 2 * bits + sign ≡ bits * 2 ^ 1 + sign = omega arith in
    ap₂ (λ k x. bits_of (k + 1) x) same number ∙ bits_of-put len 1 bits sign small ∙ ap (λ bit. bits_of len bits ++ bits_of 1 bit) is ∙ ap (λ last. bits_of len bits ++ last) (sign_bit negative)

pub returns-in-Some : goal.returns-in-Some
returns-in-Some g c =
    let pair = c.args.pair in
    let held : to_z w16 (of_z w16 pair.level) ≡ pair.level = held_level pair.level c.requires.stands.level in
    let sign : c.from-sign.result ≡ flag (int_lt pair.level (pos 0)) = c.from-sign.ensures ∙ ap (λ (level : ℤ). bool_byte (int_lt level (pos 0))) held ∙ as_flag (int_lt pair.level (pos 0)) in
    writes_as c.put_bits.ensures.writes
    (
    code_and_sign c.in-Some.code.len c.in-Some.code.bits c.from-sign.result c.from.result (int_lt pair.level (pos 0)) sign c.from.ensures
    ∙ ap (λ found. option_map_or (λ code. code ++ flag (int_lt pair.level (pos 0)) ∷ []) found (written_escape c.args.table pair))
    (sym c.in-Some.ensures.code ∙ ap (coefficient_code c.args.table pair.run) (c.unsigned_abs.ensures.value ∙ ap unsigned_abs held))
    )

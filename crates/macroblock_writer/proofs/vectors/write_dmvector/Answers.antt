use Rattle.std.proofs.Common.{◌≡◌, ◌≢◌, ◌+◌, zero, suc, ℤ, pos, negsuc, w8, to_z, of_z, SFits, rules, int_lt, refl, ap, sym, ◌∙◌, arith}
use mir.Val.{bool_byte}
use Rattle.std.proofs.lemmas.Bool.{le-ltb}
use Rattle.std.proofs.lemmas.Int.{to_z-of_z}
use Rattle.bit_lists.specs.Bits.{bits_of}
use Rattle.block_coeffs.proofs.Writing.{writes_as}
use Rattle.picture_grammar.specs.Motion.{dmvector_code}
use Rattle.macroblock_writer.proofs.vectors.write_dmvector.Goals as goal

other_than_0 : (difference : ℤ) → difference ≢ pos 0 → bits_of 2 (2 + bool_byte (int_lt difference (pos 0))) ≡ dmvector_code difference
unfolding bits_of
other_than_0 (pos zero) other = absurd (other refl)
other_than_0 (pos (suc n)) other = rw (le-ltb (suc n) 0 (omega arith)) refl
other_than_0 (negsuc n) other = refl

pub returns-then-difference-eq0 : goal.returns-then-difference-eq0
unfolding bits_of
returns-then-difference-eq0 g c =
    let fits : SFits w8 c.args.difference = search rules in
    let none : c.args.difference ≡ to_z w8 0 = sym (to_z-of_z w8 c.args.difference fits) ∙ ap (to_z w8) c.if-difference-eq0.true in
    writes_as c.put_bits.ensures.writes (ap dmvector_code (sym none))

pub returns-else-difference-eq0 : goal.returns-else-difference-eq0
returns-else-difference-eq0 g c =
    let fits : SFits w8 c.args.difference = search rules in
    let held : to_z w8 (of_z w8 c.args.difference) ≡ c.args.difference = to_z-of_z w8 c.args.difference fits in
    let other : c.args.difference ≢ pos 0 = λ none. c.if-difference-eq0.false (ap (of_z w8) none) in
    writes_as c.put_bits-else-difference-eq0.ensures.writes
    (ap (λ n. bits_of 2 (2 + n)) (c.from.ensures ∙ ap (λ (z : ℤ). bool_byte (int_lt z (pos 0))) held) ∙ other_than_0 c.args.difference other)

use Rattle.std.proofs.Common.{◌≡◌, ◌+◌, ◌∙◌, ℤ, List, ℕ, pos, w8, SFits, rules, slice_index, slice_index_or, length, ap, ap₂, sym}
use Rattle.std.proofs.lemmas.Int.{to_z-of_z}
use Rattle.std.proofs.lemmas.List.{length-append}
use Rattle.picture_grammar.specs.Motion.{dmvector_code}
use Rattle.picture_grammar.specs.Written.{if_any, written_part}
use Rattle.macroblock_writer.proofs.vector_counts.part_bits.Goals as goal

pub returns-in-Some-clause-value : goal.returns-in-Some-clause-value
returns-in-Some-clause-value c =
    let code : ℤ = slice_index_or c.args.vector.code c.args.part (pos 0) in
    let fits : SFits w8 code = search rules in
    let difference : ℤ = slice_index_or c.in-Some.dual c.args.part (pos 0) in
    let small : SFits w8 difference = search rules in
    let written = λ (z : ℤ). written_part (slice_index c.args.f_codes c.args.part) z (slice_index c.args.vector.residual c.args.part) in
    ap₂ (λ a b. a + b) (c.motion_code_bits-code.ensures.value ∙ ap (λ (z : ℤ). length (written z)) (to_z-of_z w8 code fits))
    (c.dmvector_bits.ensures.value ∙ ap (λ (z : ℤ). length (dmvector_code z)) (to_z-of_z w8 difference small)
    ∙ ap (λ dual. length (if_any (λ dual. dmvector_code (slice_index_or dual c.args.part (pos 0))) dual)) (sym c.in-Some.is))
    ∙ sym (length-append (written code) (if_any (λ dual. dmvector_code (slice_index_or dual c.args.part (pos 0))) c.args.vector.dual))

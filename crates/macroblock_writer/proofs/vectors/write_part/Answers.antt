use Rattle.std.proofs.Common.{◌++◌, ℕ, List, ℤ, pos, w8, SFits, rules, slice_index, slice_index_or, ap, ap₂, sym, ◌∙◌}
use Rattle.std.proofs.lemmas.Int.{to_z-of_z}
use Rattle.bit_cursor.proofs.Composed.{writes_then, writes_exit}
use Rattle.block_coeffs.proofs.Writing.{writes_as}
use Rattle.picture_grammar.specs.Motion.{dmvector_code}
use Rattle.picture_grammar.specs.Written.{if_any, written_part}
use Rattle.macroblock_writer.proofs.vectors.write_part.Goals as goal

pub returns-in_err-write_motion_code : goal.returns-in_err-write_motion_code
returns-in_err-write_motion_code g c =
    let code : ℤ = slice_index_or c.args.vector.code c.args.part (pos 0) in
    let fits : SFits w8 code = search rules in
    let differences : List ℕ = if_any (λ dual. dmvector_code (slice_index_or dual c.args.part (pos 0))) c.args.vector.dual in
    writes_as (writes_exit c.from_residual.result differences c.from_residual.ensures.1 c.in_err-write_motion_code.ensures)
    (ap (λ (z : ℤ). written_part (slice_index c.args.f_codes c.args.part) z (slice_index c.args.vector.residual c.args.part) ++ differences) (to_z-of_z w8 code fits))

pub returns-in-Some : goal.returns-in-Some
returns-in-Some g c =
    let code : ℤ = slice_index_or c.args.vector.code c.args.part (pos 0) in
    let fits : SFits w8 code = search rules in
    let difference : ℤ = slice_index_or c.in-Some.dual c.args.part (pos 0) in
    let small : SFits w8 difference = search rules in
    writes_as (writes_then g.met.K.Sink.keeps_on c.in_ok-write_motion_code.ensures c.write_dmvector.ensures)
    (ap₂ (λ (y z : ℤ). written_part (slice_index c.args.f_codes c.args.part) y (slice_index c.args.vector.residual c.args.part) ++ dmvector_code z) (to_z-of_z w8 code fits)
    (to_z-of_z w8 difference small)
    ∙ ap (λ dual. written_part (slice_index c.args.f_codes c.args.part) code (slice_index c.args.vector.residual c.args.part) ++ if_any
    (λ dual. dmvector_code (slice_index_or dual c.args.part (pos 0))) dual) (sym c.in-Some.is))

use Rattle.std.proofs.Common.{rules, w8, SFits, ◌∷◌, [], Some, None, slice_index, if◌then◌else◌}
use Rattle.std.proofs.lemmas.Int.{to_z-of_z}
use Rattle.std.proofs.lemmas.Result.{err_from_is_err_and}
use Rattle.bit_cursor.specs.BitReader.{KeepsSource}
use Rattle.picture_grammar.specs.Grammar.{optional}
use Rattle.picture_grammar.specs.Element.{one_flag}
use Rattle.picture_grammar.specs.Motion.{vector_part, motion_vector}
use Rattle.macroblock_reader.specs.Private.Parts.{part_of, format_of}
use Rattle.macroblock_reader.proofs.Courses.{course-start, course-on, course-err, course-end}
use Rattle.macroblock_reader.proofs.Vectors.{vector_1, vector_2, vector_3, local-select, local-part}
use Rattle.macroblock_reader.proofs.motion.read_vector.Goals as goal

pub returns-in_err-select : goal.returns-in_err-select
returns-in_err-select g c =
    let on = g.met.S.Source.keeps_on in
    let codes = c.args.codes in
    let format = format_of c.args.format in
    let keeps : KeepsSource c.args.from.now c.args.from.now = search rules in
    let p = err_from_is_err_and c.from_residual.result c.from_residual.ensures.1 in
    let start = course-start (motion_vector codes format) c.args.from.now keeps in
    rw (p.1, p.2) (course-err on (optional format.select one_flag) (vector_1 codes format) start c.in_err-select.ensures)

pub returns-in_err-horizontal : goal.returns-in_err-horizontal
returns-in_err-horizontal g c =
    let on = g.met.S.Source.keeps_on in
    let codes = c.args.codes in
    let format = format_of c.args.format in
    let select = c.in_ok-select.select in
    let keeps : KeepsSource c.args.from.now c.args.from.now = search rules in
    let p = err_from_is_err_and c.from_residual-in_err-horizontal.result c.from_residual-in_err-horizontal.ensures.1 in
    let start = course-start (motion_vector codes format) c.args.from.now keeps in
    let selected = course-on on (optional format.select one_flag) (vector_1 codes format) (local-select format.select) start c.in_ok-select.ensures in
    rw (p.1, p.2) (course-err on (vector_part (slice_index codes 0) format.dual) (vector_2 codes format select) selected c.in_err-horizontal.ensures)

pub returns-in_err-vertical : goal.returns-in_err-vertical
returns-in_err-vertical g c =
    let on = g.met.S.Source.keeps_on in
    let codes = c.args.codes in
    let format = format_of c.args.format in
    let select = c.in_ok-select.select in
    let horizontal = part_of c.in_ok-horizontal.horizontal in
    let keeps : KeepsSource c.args.from.now c.args.from.now = search rules in
    let p = err_from_is_err_and c.from_residual-in_err-vertical.result c.from_residual-in_err-vertical.ensures.1 in
    let start = course-start (motion_vector codes format) c.args.from.now keeps in
    let selected = course-on on (optional format.select one_flag) (vector_1 codes format) (local-select format.select) start c.in_ok-select.ensures in
    let first = course-on on (vector_part (slice_index codes 0) format.dual) (vector_2 codes format select) (local-part (slice_index codes 0) format.dual) selected c.in_ok-horizontal.ensures in
    rw (p.1, p.2) (course-err on (vector_part (slice_index codes 1) format.dual) (vector_3 codes format select horizontal) first c.in_err-vertical.ensures)

pub returns : goal.returns
returns g c =
    let on = g.met.S.Source.keeps_on in
    let codes = c.args.codes in
    let format = format_of c.args.format in
    let select = c.in_ok-select.select in
    let h = c.in_ok-horizontal.horizontal in
    let v = c.in_ok-vertical.vertical in
    let horizontal = part_of h in
    let vertical = part_of v in
    let keeps : KeepsSource c.args.from.now c.args.from.now = search rules in
    let start = course-start (motion_vector codes format) c.args.from.now keeps in
    let selected = course-on on (optional format.select one_flag) (vector_1 codes format) (local-select format.select) start c.in_ok-select.ensures in
    let first = course-on on (vector_part (slice_index codes 0) format.dual) (vector_2 codes format select) (local-part (slice_index codes 0) format.dual) selected c.in_ok-horizontal.ensures in
    let second = course-on on (vector_part (slice_index codes 1) format.dual) (vector_3 codes format select horizontal) (local-part (slice_index codes 1) format.dual) first c.in_ok-vertical.ensures in
    let fits_h : SFits w8 h.code = search rules in
    let fits_v : SFits w8 v.code = search rules in
    let fits_hd : SFits w8 h.difference = search rules in
    let fits_vd : SFits w8 v.difference = search rules in
    rw (
      to_z-of_z w8 h.code fits_h,
      to_z-of_z w8 v.code fits_v,
      c.differences.ensures,
      to_z-of_z w8 h.difference fits_hd,
      to_z-of_z w8 v.difference fits_vd,
    ) (course-end (motion_vector codes format) (record {
      select = select;
      code = h.code ∷ v.code ∷ [];
      residual = h.residual ∷ v.residual ∷ [];
      dual = if format.dual then Some (h.difference ∷ v.difference ∷ []) else None;
    }) second)

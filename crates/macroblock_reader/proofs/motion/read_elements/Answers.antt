use Rattle.std.proofs.Common.{rules, w8, SFits, to_z, of_z, ◌≡◌, ◌==◌, ◌-◌, ◌∙◌, not, pos, false, []}
use Rattle.std.proofs.lemmas.Int.{to_z-of_z}
use Rattle.std.proofs.lemmas.Result.{err_from_is_err_and}
use Rattle.bit_cursor.specs.BitReader.{KeepsSource}
use Rattle.prefix_codes.specs.declared.table_name.TableName.TheVariants.{Motion}
use Rattle.picture_grammar.specs.Refusal.Refusal.{NoCode}
use Rattle.picture_grammar.specs.Grammar.{when}
use Rattle.picture_grammar.specs.Element.{vlclbf, uimsbf, one_flag}
use Rattle.picture_grammar.specs.Block.{signed}
use Rattle.picture_grammar.specs.Motion.{dmvector, has_residual, vector_part}
use Rattle.macroblock_reader.proofs.Courses.{course-start, course-on, course-err, course-end}
use Rattle.macroblock_reader.proofs.Vectors.{part_1, part_2, part_3, part_4, local-size, local-sign, local-residual, local-difference}
use Rattle.macroblock_reader.proofs.motion.read_elements.Goals as goal

pub returns-in_err-size : goal.returns-in_err-size
returns-in_err-size g c =
    let on = g.met.S.Source.keeps_on in
    let f = c.args.f_code in
    let d = c.args.dual in
    let keeps : KeepsSource c.args.from.now c.args.from.now = search rules in
    let p = err_from_is_err_and c.from_residual.result c.from_residual.ensures.1 in
    let start = course-start (vector_part f d) c.args.from.now keeps in
    rw (p.1, p.2) (course-err on (vlclbf Motion NoCode []) (part_1 f d) start c.in_err-size.ensures.answers)

pub returns-in_err-negative : goal.returns-in_err-negative
returns-in_err-negative g c =
    let on = g.met.S.Source.keeps_on in
    let f = c.args.f_code in
    let d = c.args.dual in
    let size = c.in_ok-size.size in
    let keeps : KeepsSource c.args.from.now c.args.from.now = search rules in
    let p = err_from_is_err_and c.from_residual-in_err-negative.result c.from_residual-in_err-negative.ensures.1 in
    let start = course-start (vector_part f d) c.args.from.now keeps in
    let sized = course-on on (vlclbf Motion NoCode []) (part_1 f d) local-size start c.in_ok-size.ensures.answers in
    rw (p.1, p.2) (course-err on (when (not (size == 0)) one_flag false) (part_2 f d size) sized c.in_err-negative.ensures)

pub returns-in_err-residual : goal.returns-in_err-residual
returns-in_err-residual g c =
    let on = g.met.S.Source.keeps_on in
    let f = c.args.f_code in
    let d = c.args.dual in
    let size = c.in_ok-size.size in
    let negative = c.in_ok-negative.negative in
    let keeps : KeepsSource c.args.from.now c.args.from.now = search rules in
    let p = err_from_is_err_and c.from_residual-in_err-residual.result c.from_residual-in_err-residual.ensures.1 in
    let start = course-start (vector_part f d) c.args.from.now keeps in
    let sized = course-on on (vlclbf Motion NoCode []) (part_1 f d) local-size start c.in_ok-size.ensures.answers in
    let signs = course-on on (when (not (size == 0)) one_flag false) (part_2 f d size) (local-sign size) sized c.in_ok-negative.ensures in
    rw (p.1, p.2) (course-err on (when (has_residual f size) (uimsbf (f - 1) []) 0) (part_3 f d size negative) signs c.in_err-residual.ensures)

pub returns-in_err-difference : goal.returns-in_err-difference
returns-in_err-difference g c =
    let on = g.met.S.Source.keeps_on in
    let f = c.args.f_code in
    let d = c.args.dual in
    let size = c.in_ok-size.size in
    let negative = c.in_ok-negative.negative in
    let residual = c.in_ok-residual.residual in
    let keeps : KeepsSource c.args.from.now c.args.from.now = search rules in
    let p = err_from_is_err_and c.from_residual-in_err-difference.result c.from_residual-in_err-difference.ensures.1 in
    let start = course-start (vector_part f d) c.args.from.now keeps in
    let sized = course-on on (vlclbf Motion NoCode []) (part_1 f d) local-size start c.in_ok-size.ensures.answers in
    let signs = course-on on (when (not (size == 0)) one_flag false) (part_2 f d size) (local-sign size) sized c.in_ok-negative.ensures in
    let behind = course-on on (when (has_residual f size) (uimsbf (f - 1) []) 0) (part_3 f d size negative) (local-residual f size) signs c.in_ok-residual.ensures in
    rw (p.1, p.2) (course-err on (when d dmvector (pos 0)) (part_4 f d size negative residual) behind c.in_err-difference.ensures)

pub returns : goal.returns
returns g c =
    let on = g.met.S.Source.keeps_on in
    let f = c.args.f_code in
    let d = c.args.dual in
    let size = c.in_ok-size.size in
    let negative = c.in_ok-negative.negative in
    let residual = c.in_ok-residual.residual in
    let difference = c.in_ok-difference.difference in
    let keeps : KeepsSource c.args.from.now c.args.from.now = search rules in
    let start = course-start (vector_part f d) c.args.from.now keeps in
    let sized = course-on on (vlclbf Motion NoCode []) (part_1 f d) local-size start c.in_ok-size.ensures.answers in
    let signs = course-on on (when (not (size == 0)) one_flag false) (part_2 f d size) (local-sign size) sized c.in_ok-negative.ensures in
    let behind = course-on on (when (has_residual f size) (uimsbf (f - 1) []) 0) (part_3 f d size negative) (local-residual f size) signs c.in_ok-residual.ensures in
    let whole = course-on on (when d dmvector (pos 0)) (part_4 f d size negative residual) (local-difference d) behind c.in_ok-difference.ensures in
    let fits_code : SFits w8 c.signed.result = search rules in
    let fits_difference : SFits w8 difference = search rules in
    let code : to_z w8 (of_z w8 c.signed.result) ≡ signed size negative = to_z-of_z w8 c.signed.result fits_code ∙ c.signed.ensures in
    rw (code, to_z-of_z w8 difference fits_difference) (course-end (vector_part f d) (record { code = signed size negative; residual = residual; difference = difference }) whole)

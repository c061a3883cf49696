use Rattle.std.proofs.Common.{rules, []}
use Rattle.std.proofs.lemmas.Result.{err_from_is_err_and}
use Rattle.bit_cursor.specs.BitReader.{KeepsSource}
use Rattle.picture_grammar.specs.Grammar.{many}
use Rattle.picture_grammar.specs.Element.{uimsbf, one_flag}
use Rattle.picture_grammar.specs.Slice.{extra_information, slice_extension}
use Rattle.picture_grammar.proofs.LocalLaws.{local-element}
use Rattle.picture_laws.proofs.LocalHeaders.{local-uimsbf}
use Rattle.macroblock_reader.proofs.Courses.{course-start, course-on, course-err, course-end}
use Rattle.macroblock_reader.proofs.Slices.{answers-may, extension_1, extension_2, extension_3, local-information}
use Rattle.macroblock_reader.proofs.head.read_extension.Goals as goal

pub returns-in_err-intra_slice : goal.returns-in_err-intra_slice
returns-in_err-intra_slice g c =
    let keeps : KeepsSource c.args.from.now c.args.from.now = search rules in
    let p = err_from_is_err_and c.from_residual.result c.from_residual.ensures.1 in
    rw (p.1, p.2) (course-err g.met.S.Source.keeps_on one_flag extension_1 (course-start slice_extension c.args.from.now keeps) (answers-may c.in_err-intra_slice.ensures))

pub returns-in_err-reserved : goal.returns-in_err-reserved
returns-in_err-reserved g c =
    let on = g.met.S.Source.keeps_on in
    let keeps : KeepsSource c.args.from.now c.args.from.now = search rules in
    let p = err_from_is_err_and c.from_residual-in_err-reserved.result c.from_residual-in_err-reserved.ensures.1 in
    let flagged = course-on on one_flag extension_1 (local-element _ _ _) (course-start slice_extension c.args.from.now keeps) c.in_ok-intra_slice.ensures in
    rw (p.1, p.2) (course-err on (uimsbf 7 []) (extension_2 c.in_ok-intra_slice.intra_slice) flagged (answers-may c.in_err-reserved.ensures))

pub returns-in_err-bytes : goal.returns-in_err-bytes
returns-in_err-bytes g c =
    let on = g.met.S.Source.keeps_on in
    let keeps : KeepsSource c.args.from.now c.args.from.now = search rules in
    let p = err_from_is_err_and c.from_residual-in_err-bytes.result c.from_residual-in_err-bytes.ensures.1 in
    let flagged = course-on on one_flag extension_1 (local-element _ _ _) (course-start slice_extension c.args.from.now keeps) c.in_ok-intra_slice.ensures in
    let reserved = course-on on (uimsbf 7 []) (extension_2 c.in_ok-intra_slice.intra_slice) (local-uimsbf 7 []) flagged c.in_ok-reserved.ensures in
    rw (p.1, p.2) (course-err on (many extra_information) (extension_3 c.in_ok-intra_slice.intra_slice c.in_ok-reserved.reserved) reserved c.in_err-bytes.ensures)

pub returns : goal.returns
returns g c =
    let on = g.met.S.Source.keeps_on in
    let keeps : KeepsSource c.args.from.now c.args.from.now = search rules in
    let flagged = course-on on one_flag extension_1 (local-element _ _ _) (course-start slice_extension c.args.from.now keeps) c.in_ok-intra_slice.ensures in
    let reserved = course-on on (uimsbf 7 []) (extension_2 c.in_ok-intra_slice.intra_slice) (local-uimsbf 7 []) flagged c.in_ok-reserved.ensures in
    let whole = course-on on (many extra_information) (extension_3 c.in_ok-intra_slice.intra_slice c.in_ok-reserved.reserved) local-information reserved c.in_ok-bytes.ensures in
    course-end slice_extension _ whole

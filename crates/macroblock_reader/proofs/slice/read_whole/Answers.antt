use Rattle.std.proofs.Common.{rules, Ok, List, inl, refl}
use Rattle.std.proofs.lemmas.Result.{err_from_is_err_and}
use Rattle.bit_cursor.specs.BitReader.{KeepsSource}
use Rattle.syntax_types.specs.declared.macroblock.Macroblock.{Macroblock}
use Rattle.syntax_types.specs.declared.slice.Slice.{Slice}
use Rattle.picture_grammar.specs.Grammar.{many}
use Rattle.picture_grammar.specs.Macroblock.{quantiser_scale_code}
use Rattle.picture_grammar.specs.Slice.{next_macroblock, slice_info}
use Rattle.macroblock_reader.proofs.Courses.{answers-as, course-on, course-err, course-rest}
use Rattle.macroblock_reader.proofs.Slices.{answers-may, slice_1, slice_2, slice_3, slice-start, local-scale_code, local-info}
use Rattle.macroblock_reader.proofs.slice.read_whole.Goals as goal

pub returns-in_err-code : goal.returns-in_err-code
returns-in_err-code g c =
    let seq = c.args.picture.seq.now in
    let coding = c.args.picture.coding.now in
    let row = c.args.row in
    let keeps : KeepsSource c.args.from.now c.args.from.now = search rules in
    let p = err_from_is_err_and c.from_residual.result c.from_residual.ensures.1 in
    rw (p.1, p.2) (course-err g.met.S.Source.keeps_on quantiser_scale_code (slice_1 seq coding row) (slice-start seq coding row c.args.from.now keeps) (answers-may c.in_err-code.ensures))

pub returns-in_err-info : goal.returns-in_err-info
returns-in_err-info g c =
    let on = g.met.S.Source.keeps_on in
    let seq = c.args.picture.seq.now in
    let coding = c.args.picture.coding.now in
    let row = c.args.row in
    let keeps : KeepsSource c.args.from.now c.args.from.now = search rules in
    let p = err_from_is_err_and c.from_residual-in_err-info.result c.from_residual-in_err-info.ensures.1 in
    let coded = course-on on quantiser_scale_code (slice_1 seq coding row) local-scale_code (slice-start seq coding row c.args.from.now keeps) c.in_ok-code.ensures in
    rw (p.1, p.2) (course-err on slice_info (slice_2 seq coding row c.in_ok-code.code) coded c.in_err-info.ensures)

pub returns-in_err-macroblocks : goal.returns-in_err-macroblocks
returns-in_err-macroblocks g c =
    let on = g.met.S.Source.keeps_on in
    let seq = c.args.picture.seq.now in
    let coding = c.args.picture.coding.now in
    let row = c.args.row in
    let keeps : KeepsSource c.args.from.now c.args.from.now = search rules in
    let p = err_from_is_err_and c.from_residual-in_err-macroblocks.result c.from_residual-in_err-macroblocks.ensures.1 in
    let coded = course-on on quantiser_scale_code (slice_1 seq coding row) local-scale_code (slice-start seq coding row c.args.from.now keeps) c.in_ok-code.ensures in
    let headed = course-on on slice_info (slice_2 seq coding row c.in_ok-code.code) local-info coded c.in_ok-info.ensures in
    rw (p.1, p.2) (course-err on (many (next_macroblock seq coding)) (slice_3 seq coding row c.in_ok-code.code c.in_ok-info.info) headed c.in_err-macroblocks.ensures)

pub returns : goal.returns
returns g c =
    let on = g.met.S.Source.keeps_on in
    let seq = c.args.picture.seq.now in
    let coding = c.args.picture.coding.now in
    let row = c.args.row in
    let keeps : KeepsSource c.args.from.now c.args.from.now = search rules in
    let coded = course-on on quantiser_scale_code (slice_1 seq coding row) local-scale_code (slice-start seq coding row c.args.from.now keeps) c.in_ok-code.ensures in
    let headed = course-on on slice_info (slice_2 seq coding row c.in_ok-code.code) local-info coded c.in_ok-info.ensures in
    let made : List Macroblock × Unit {0} → Slice = λ found. record { row = row; code = c.in_ok-code.code; info = c.in_ok-info.info; macroblocks = found.0 } in
    let found = answers-as (many (next_macroblock seq coding)) (slice_2 seq coding row c.in_ok-code.code c.in_ok-info.info) made c.read_info.new.from c.read_macroblocks.new.from
    (λ v bits rest s. (v, rest, s, (refl, refl))) (λ bits left refusal r. inl r) (Ok (c.in_ok-macroblocks.macroblocks, tt)) c.in_ok-macroblocks.ensures in
    course-rest on (Ok (made (c.in_ok-macroblocks.macroblocks, tt))) headed found

use Rattle.std.proofs.Common.{rules, [], arith}
use Rattle.std.proofs.lemmas.Result.{err_from_is_err_and}
use Rattle.bit_cursor.specs.BitReader.{KeepsSource}
use Rattle.picture_grammar.specs.Grammar.{optional, more_of}
use Rattle.picture_grammar.specs.Element.{uimsbf, one_flag}
use Rattle.picture_grammar.specs.Slice.{extra_information}
use Rattle.picture_grammar.proofs.LocalLaws.{local-element, local-optional}
use Rattle.picture_laws.proofs.LocalHeaders.{local-uimsbf}
use Rattle.macroblock_reader.proofs.Courses.{course-start, course-on, course-err, course-end}
use Rattle.macroblock_reader.proofs.Slices.{flag-moves, information_1, information_2}
use Rattle.macroblock_reader.proofs.head.read_information_byte.Goals as goal

pub returns-in_err-another-clause-answers : goal.returns-in_err-another-clause-answers
returns-in_err-another-clause-answers g c = λ before.
    let keeps : KeepsSource c.args.from.now c.args.from.now = search rules in
    let p = err_from_is_err_and c.from_residual.result c.from_residual.ensures.1 in
    rw (p.1, p.2) (course-err g.met.S.Source.keeps_on one_flag information_1 (course-start (extra_information before) c.args.from.now keeps) c.in_err-another.ensures)

pub returns-in_err-byte-clause-answers : goal.returns-in_err-byte-clause-answers
returns-in_err-byte-clause-answers g c = λ before.
    let on = g.met.S.Source.keeps_on in
    let keeps : KeepsSource c.args.from.now c.args.from.now = search rules in
    let p = err_from_is_err_and c.from_residual-in_err-byte.result c.from_residual-in_err-byte.ensures.1 in
    let flagged = course-on on one_flag information_1 (local-element _ _ _) (course-start (extra_information before) c.args.from.now keeps) c.in_ok-another.ensures in
    rw (p.1, p.2) (course-err on (optional c.in_ok-another.another (uimsbf 8 [])) information_2 flagged c.in_err-byte.ensures)

pub returns-clause-answers : goal.returns-clause-answers
returns-clause-answers g c = λ before.
    let on = g.met.S.Source.keeps_on in
    let keeps : KeepsSource c.args.from.now c.args.from.now = search rules in
    let flagged = course-on on one_flag information_1 (local-element _ _ _) (course-start (extra_information before) c.args.from.now keeps) c.in_ok-another.ensures in
    let whole = course-on on (optional c.in_ok-another.another (uimsbf 8 [])) information_2 (local-optional c.in_ok-another.another (uimsbf 8 []) (local-uimsbf 8 [])) flagged c.in_ok-byte.ensures in
    course-end (extra_information before) (more_of c.in_ok-byte.byte) whole

pub returns-clause-moved : goal.returns-clause-moved
returns-clause-moved g c =
    let first = flag-moves c.in_ok-another.another c.args.from.now c.read_bit.new.from c.in_ok-another.ensures in
    let later = c.in_ok-byte.ensures.advances.moved in
    omega arith

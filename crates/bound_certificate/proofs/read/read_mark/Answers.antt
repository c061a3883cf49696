use Rattle.std.proofs.Common.{lit<}
use Rattle.std.proofs.lemmas.Result.{err_from_is_err_and}
use Rattle.bound_certificate.specs.Private.Texts.{IsByte}
use Rattle.bound_certificate.proofs.Heads.{MarkTwo, MarkThree, mark_one, mark_two, mark_three, stop_byte}
use Rattle.bound_certificate.proofs.read.read_mark.Goals as goal

pub returns-in_err-byte-clause-stop : goal.returns-in_err-byte-clause-stop
returns-in_err-byte-clause-stop c =
    let p = err_from_is_err_and c.from_residual.result c.from_residual.ensures.1 in
    rw (p.1, p.2) (mark_one c.args.cursor.now c.in_err-byte.field-0.0 c.in_err-byte.ensures.stop)

pub returns-in_err-byte-2-clause-stop : goal.returns-in_err-byte-2-clause-stop
returns-in_err-byte-2-clause-stop c =
    let p = err_from_is_err_and c.from_residual-in_err-byte-2.result c.from_residual-in_err-byte-2.ensures.1 in
    let stop = c.in_err-byte-2.field-0.0 in
    let ok = c.in_ok-byte in
    rw (p.1, p.2) (stop_byte 0x52 0x52 ok.field-0 (λ _. MarkTwo) c.args.cursor.now c.byte.new.self stop ok.ensures.next ok.ensures.least ok.ensures.most (lit< tt)
    (mark_two c.byte.new.self stop c.in_err-byte-2.ensures.stop))

pub returns-in_err-byte-3-clause-stop : goal.returns-in_err-byte-3-clause-stop
returns-in_err-byte-3-clause-stop c =
    let p = err_from_is_err_and c.from_residual-in_err-byte-3.result c.from_residual-in_err-byte-3.ensures.1 in
    let stop = c.in_err-byte-3.field-0.0 in
    let one = c.in_ok-byte in
    let two = c.in_ok-byte-2 in
    rw (p.1, p.2) (stop_byte 0x52 0x52 one.field-0 (λ _. MarkTwo) c.args.cursor.now c.byte.new.self stop one.ensures.next one.ensures.least one.ensures.most (lit< tt)
    (stop_byte 0x4D 0x4D two.field-0 (λ _. MarkThree) c.byte.new.self c.byte-2.new.self stop two.ensures.next two.ensures.least two.ensures.most (lit< tt)
    (mark_three c.byte-2.new.self stop c.in_err-byte-3.ensures.stop)))

pub returns-in_err-byte-4-clause-stop : goal.returns-in_err-byte-4-clause-stop
returns-in_err-byte-4-clause-stop c =
    let p = err_from_is_err_and c.from_residual-in_err-byte-4.result c.from_residual-in_err-byte-4.ensures.1 in
    let stop = c.in_err-byte-4.field-0.0 in
    let one = c.in_ok-byte in
    let two = c.in_ok-byte-2 in
    let three = c.in_ok-byte-3 in
    rw (p.1, p.2) (stop_byte 0x52 0x52 one.field-0 (λ _. MarkTwo) c.args.cursor.now c.byte.new.self stop one.ensures.next one.ensures.least one.ensures.most (lit< tt)
    (stop_byte 0x4D 0x4D two.field-0 (λ _. MarkThree) c.byte.new.self c.byte-2.new.self stop two.ensures.next two.ensures.least two.ensures.most (lit< tt)
    (stop_byte 0x58 0x58 three.field-0 (λ _. IsByte 0x43 0x43) c.byte-2.new.self c.byte-3.new.self stop three.ensures.next three.ensures.least three.ensures.most (lit< tt)
    c.in_err-byte-4.ensures.stop)))

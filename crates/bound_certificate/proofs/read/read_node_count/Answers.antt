use Rattle.std.proofs.Common.{ℕ, ◌≤◌, subst, [], ◌∷◌, lit<}
use Rattle.std.proofs.lemmas.Result.{err_from_is_err_and}
use Rattle.bound_certificate.specs.Private.Texts.{AfterFirst, AfterSecond, AfterThird, IsByte, IsStop, last_most}
use Rattle.bound_certificate.proofs.Heads.{nodes_one, nodes_two, nodes_three, stop_byte, last_fits}
use Rattle.bound_certificate.proofs.read.read_node_count.Goals as goal

pub returns-in_err-byte-clause-stop : goal.returns-in_err-byte-clause-stop
returns-in_err-byte-clause-stop c =
    let p = err_from_is_err_and c.from_residual.result c.from_residual.ensures.1 in
    rw (p.1, p.2) (nodes_one c.args.cursor.now c.in_err-byte.field-0.0 c.in_err-byte.ensures.stop)

pub returns-in_err-second-clause-stop : goal.returns-in_err-second-clause-stop
returns-in_err-second-clause-stop c =
    let p = err_from_is_err_and c.from_residual-in_err-second.result c.from_residual-in_err-second.ensures.1 in
    let stop = c.in_err-second.field-0.0 in
    let one = c.in_ok-byte in
    rw (p.1, p.2) (stop_byte 0 0 one.field-0 (λ _. AfterFirst) c.args.cursor.now c.byte.new.self stop one.ensures.next one.ensures.least one.ensures.most (lit< tt)
    (nodes_two c.byte.new.self stop c.in_err-second.ensures.stop))

pub returns-in_err-third-clause-stop : goal.returns-in_err-third-clause-stop
returns-in_err-third-clause-stop c =
    let p = err_from_is_err_and c.from_residual-in_err-third.result c.from_residual-in_err-third.ensures.1 in
    let stop = c.in_err-third.field-0.0 in
    let one = c.in_ok-byte in
    let two = c.in_ok-second in
    let refused = subst (λ (most : ℕ). IsStop (IsByte 0 most) c.byte-2.new.self stop) c.last_most-most.ensures c.in_err-third.ensures.stop in
    rw (p.1, p.2) (stop_byte 0 0 one.field-0 (λ _. AfterFirst) c.args.cursor.now c.byte.new.self stop one.ensures.next one.ensures.least one.ensures.most (lit< tt)
    (stop_byte 0 16 two.second AfterSecond c.byte.new.self c.byte-2.new.self stop two.ensures.next two.ensures.least two.ensures.most (lit< tt)
    (nodes_three (two.second ∷ []) c.byte-2.new.self stop two.ensures.most refused)))

pub returns-in_err-fourth-clause-stop : goal.returns-in_err-fourth-clause-stop
returns-in_err-fourth-clause-stop c =
    let p = err_from_is_err_and c.from_residual-in_err-fourth.result c.from_residual-in_err-fourth.ensures.1 in
    let stop = c.in_err-fourth.field-0.0 in
    let one = c.in_ok-byte in
    let two = c.in_ok-second in
    let three = c.in_ok-third in
    let most : three.third ≤ last_most two.second = subst (λ (m : ℕ). three.third ≤ m) c.last_most-most.ensures three.ensures.most in
    let refused = subst (λ (m : ℕ). IsStop (IsByte c.last_least-least.result m) c.byte-3.new.self stop) c.last_most-most.ensures c.in_err-fourth.ensures.stop in
    let refused_so = subst (λ (m : ℕ). IsStop (IsByte m (last_most two.second)) c.byte-3.new.self stop) c.last_least-least.ensures refused in
    rw (p.1, p.2) (stop_byte 0 0 one.field-0 (λ _. AfterFirst) c.args.cursor.now c.byte.new.self stop one.ensures.next one.ensures.least one.ensures.most (lit< tt)
    (stop_byte 0 16 two.second AfterSecond c.byte.new.self c.byte-2.new.self stop two.ensures.next two.ensures.least two.ensures.most (lit< tt)
    (stop_byte 0 (last_most two.second) three.third (AfterThird (two.second ∷ [])) c.byte-2.new.self c.byte-3.new.self stop three.ensures.next three.ensures.least most (last_fits two.second)
    refused_so)))

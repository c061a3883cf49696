use Rattle.std.proofs.Common.{rules, ◌≡◌, ◌+◌, ◌-◌, ◌*◌, ◌%◌, ◌^◌, sym, ap, ◌∙◌, arith}
use Rattle.shelf_io.specs.Source.{without_front}
use Rattle.video_headers.specs.Private.Limits.{first_broken}
use Rattle.std.proofs.lemmas.Result.{err_from_is_err_and}
use Rattle.video_headers.proofs.Reading.{answers-of}
use Rattle.video_headers.proofs.ToldFields.{stops-nothing, limited-broken, limited-cut, limited-goes, one-shifted, one-number}
use Rattle.video_headers.proofs.fields.read_limited.Goals as goal

pub returns-in-Some-clause-answers : goal.returns-in-Some-clause-answers
returns-in-Some-clause-answers g c = λ rs are.
    let number = c.in_ok-number.number in
    let known = c.in_ok-number.known in
    rw (c.at.ensures) (answers-of (limited-broken c.args.n c.args.reader.now number known _ c.place-at.result c.args.limits.now
    c.in_ok-number.ensures.window c.in_ok-number.ensures.below c.in_ok-number.ensures.unknown
    (ap (λ k. number + (k - 1)) (one-shifted (c.args.n - known) (omega arith))) c.place-at.ensures c.in-Some.why
    (sym c.first_broken.ensures ∙ c.in-Some.is) rs are) (search rules) (search rules) (search rules))

pub returns-then-known-n-clause-answers : goal.returns-then-known-n-clause-answers
returns-then-known-n-clause-answers g c = λ rs are.
    let number = c.in_ok-number.number in
    let known = c.in_ok-number.known in
    answers-of (limited-cut c.args.n c.args.reader.now number known _ c.place-at.result c.args.limits.now c.in_ok-number.ensures.window c.in_ok-number.ensures.below c.in_ok-number.ensures.unknown
    (ap (λ k. number + (k - 1)) (one-shifted (c.args.n - known) (omega arith))) c.place-at.ensures
    (sym c.first_broken.ensures ∙ c.in_default.is) c.if-known-n.true rs are) (search rules) (search rules) (search rules)

pub returns-clause-answers : goal.returns-clause-answers
returns-clause-answers g c = λ rs are.
    let number = c.in_ok-number.number in
    let known = c.in_ok-number.known in
    answers-of (limited-goes c.args.n c.args.reader.now number known _ c.place-at.result c.args.limits.now c.in_ok-number.ensures.window c.in_ok-number.ensures.below c.in_ok-number.ensures.unknown
    (ap (λ k. number + (k - 1)) (one-shifted (c.args.n - known) (omega arith))) c.place-at.ensures (sym c.first_broken.ensures ∙ c.in_default.is) c.if-known-n.false
    (c.skip.ensures.left ∙ ap (λ told. without_front told c.args.n) c.in_ok-number.ensures.left)
    (c.skip.ensures.place ∙ ap (λ k. k + c.args.n) c.in_ok-number.ensures.place) rs are) (search rules) (search rules) (search rules)

pub returns-in_err-number-clause-answers : goal.returns-in_err-number-clause-answers
returns-in_err-number-clause-answers g c = λ rs are.
    let p = err_from_is_err_and c.from_residual.result c.from_residual.ensures.1 in
    answers-of (rw (p.1, p.2) (stops-nothing _ _)) (search rules) (search rules) (search rules)

pub returns-clause-kept : goal.returns-clause-kept
returns-clause-kept g c =
    let number = c.in_ok-number.number in
    let one : 1 * 2 ^ (c.args.n - c.in_ok-number.known) % 2 ^ 32 ≡ 1 = one-shifted (c.args.n - c.in_ok-number.known) (omega arith) ∙ one-number c.args.n c.in_ok-number.known c.if-known-n.false in
    let same : number ≡ number + (1 * 2 ^ (c.args.n - c.in_ok-number.known) % 2 ^ 32 - 1) = omega (arith, one) in
    ap (λ last. first_broken number last c.args.limits.now) same ∙ sym c.first_broken.ensures ∙ c.in_default.is

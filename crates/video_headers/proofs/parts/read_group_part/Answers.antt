use Rattle.std.proofs.Common.{ℕ, nat_eq, Err, refl, sym, ◌∙◌, subst, arith}
use Rattle.syntax_types.specs.declared.picture.SeqState.{SeqState}
use Rattle.picture_grammar.specs.Grammar.{done}
use Rattle.video_headers.specs.declared.why.Why.TheVariants as why
use Rattle.video_headers.specs.Private.NextCode.{NextRests}
use Rattle.video_headers.specs.Private.Reading.{Goes}
use Rattle.video_headers.proofs.Looks.{after-look, look-exit, answers-from, answers-to}
use Rattle.video_headers.proofs.NextCodes.{code-expected, code-unexpected, code-comes, none-comes, answers-such, answers-other}
use Rattle.video_headers.proofs.Reading.{answers-bind, answers-exit, answers-done, answers-mapped, answers-made_exit, follows-none, goes-done}
use Rattle.video_headers.proofs.Rules.{only-range}
use Rattle.video_headers.proofs.parts.read_group_part.Goals as goal

pub returns-then-not-has_group : goal.returns-then-not-has_group
returns-then-not-has_group g c =
    let itself = g.met.S.Source.keeps_itself in
    answers-to c.args.next (answers-other (none-comes (λ byte. nat_eq byte 184) c.args.next c.args.reader.now itself (sym c.is-has_group.ensures ∙ c.if-not-has_group.true))
    (answers-done (tt {0}) c.args.next {from = NextRests c.args.next c.args.reader.now} c.args.reader.now itself refl)) (λ end bits n. n)

pub returns-in_err-_broken : goal.returns-in_err-_broken
returns-in_err-_broken g c =
    let on = g.met.S.Source.keeps_on in
    let itself = g.met.S.Source.keeps_itself in
    answers-such (code-comes (λ byte. nat_eq byte 184) c.args.next c.args.reader.now itself (sym c.is-has_group.ensures ∙ c.if-not-has_group.false))
    (answers-bind on _ (code-expected (λ byte. nat_eq byte 184) c.args.next c.args.reader.now itself why.BadHeader (sym c.is-has_group.ensures ∙ c.if-not-has_group.false))
    (answers-exit _ c.from_residual.result c.from_residual.ensures.1 (answers-from (λ end bits w. w.rests) (c.in_err-_broken.ensures))))

pub returns-in_err-_zeros : goal.returns-in_err-_zeros
returns-in_err-_zeros g c =
    let on = g.met.S.Source.keeps_on in
    let itself = g.met.S.Source.keeps_itself in
    answers-such (code-comes (λ byte. nat_eq byte 184) c.args.next c.args.reader.now itself (sym c.is-has_group.ensures ∙ c.if-not-has_group.false))
    (answers-bind on _ (code-expected (λ byte. nat_eq byte 184) c.args.next c.args.reader.now itself why.BadHeader (sym c.is-has_group.ensures ∙ c.if-not-has_group.false))
    (answers-bind on _ (answers-from (λ end bits w. w.rests) (c.in_ok-_broken.ensures))
    (answers-exit _ c.from_residual-in_err-_zeros.result c.from_residual-in_err-_zeros.ensures.1 (c.in_err-_zeros.ensures))))

pub returns-in_err-behind : goal.returns-in_err-behind
returns-in_err-behind g c =
    let on = g.met.S.Source.keeps_on in
    let itself = g.met.S.Source.keeps_itself in
    answers-such (code-comes (λ byte. nat_eq byte 184) c.args.next c.args.reader.now itself (sym c.is-has_group.ensures ∙ c.if-not-has_group.false))
    (answers-bind on _ (code-expected (λ byte. nat_eq byte 184) c.args.next c.args.reader.now itself why.BadHeader (sym c.is-has_group.ensures ∙ c.if-not-has_group.false))
    (answers-bind on _ (answers-from (λ end bits w. w.rests) (c.in_ok-_broken.ensures))
    (answers-bind on _ (c.in_ok-_zeros.ensures)
    (answers-made_exit _ _ _ c.from_residual-in_err-behind.result c.from_residual-in_err-behind.ensures.1 c.in_err-behind.ensures))))

pub returns : goal.returns
returns g c =
    let on = g.met.S.Source.keeps_on in
    let itself = g.met.S.Source.keeps_itself in
    answers-such (code-comes (λ byte. nat_eq byte 184) c.args.next c.args.reader.now itself (sym c.is-has_group.ensures ∙ c.if-not-has_group.false))
    (answers-bind on _ (code-expected (λ byte. nat_eq byte 184) c.args.next c.args.reader.now itself why.BadHeader (sym c.is-has_group.ensures ∙ c.if-not-has_group.false))
    (answers-bind on _ (answers-from (λ end bits w. w.rests) (c.in_ok-_broken.ensures))
    (answers-bind on _ (c.in_ok-_zeros.ensures)
    (answers-mapped _ _ on _ c.in_ok-behind.ensures (follows-none _ itself) (λ a e. goes-done _ _)))))

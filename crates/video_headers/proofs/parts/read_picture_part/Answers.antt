use Rattle.std.proofs.Common.{ℕ, nat_eq, Err, refl, sym, ◌∙◌, subst, arith}
use Rattle.syntax_types.specs.declared.picture.PicCoding.{PicCoding}
use Rattle.syntax_types.specs.declared.picture.SeqState.{SeqState}
use Rattle.picture_grammar.specs.Grammar.{done}
use Rattle.video_headers.specs.declared.why.Why.TheVariants as why
use Rattle.video_headers.specs.Private.NextCode.{NextRests}
use Rattle.video_headers.specs.Private.Reading.{Goes}
use Rattle.video_headers.proofs.Looks.{after-look, look-exit, answers-from, answers-to}
use Rattle.video_headers.proofs.NextCodes.{code-expected, code-unexpected, code-comes, none-comes, answers-such, answers-other}
use Rattle.video_headers.proofs.Reading.{answers-bind, answers-exit, answers-done, answers-mapped, answers-made_exit, follows-none, goes-done}
use Rattle.video_headers.proofs.Rules.{only-range}
use Rattle.video_headers.proofs.parts.read_picture_part.Goals as goal

pub returns-then-not-has_header : goal.returns-then-not-has_header
returns-then-not-has_header g c =
    let on = g.met.S.Source.keeps_on in
    let itself = g.met.S.Source.keeps_itself in
    answers-exit _ (Err c.refusal-no_header.result) refl (code-unexpected (λ byte. nat_eq byte 0) c.args.next c.args.reader.now itself why.BadHeader 0
    (omega arith) refl (sym c.is-has_header.ensures ∙ c.if-not-has_header.true) c.refusal-no_header.result c.refusal-no_header.ensures)

pub returns-in_err-header : goal.returns-in_err-header
returns-in_err-header g c =
    let on = g.met.S.Source.keeps_on in
    let itself = g.met.S.Source.keeps_itself in
    answers-bind on _ (code-expected (λ byte. nat_eq byte 0) c.args.next c.args.reader.now itself why.BadHeader (sym c.is-has_header.ensures ∙ c.if-not-has_header.false))
    (answers-exit _ c.from_residual.result c.from_residual.ensures.1 (answers-from (λ end bits w. w.rests) (c.in_err-header.ensures)))

pub returns-in_err-_zeros : goal.returns-in_err-_zeros
returns-in_err-_zeros g c =
    let on = g.met.S.Source.keeps_on in
    let itself = g.met.S.Source.keeps_itself in
    answers-bind on _ (code-expected (λ byte. nat_eq byte 0) c.args.next c.args.reader.now itself why.BadHeader (sym c.is-has_header.ensures ∙ c.if-not-has_header.false))
    (answers-bind on _ (answers-from (λ end bits w. w.rests) (c.in_ok-header.ensures))
    (answers-exit _ c.from_residual-in_err-_zeros.result c.from_residual-in_err-_zeros.ensures.1 (c.in_err-_zeros.ensures)))

pub returns-in_err-code : goal.returns-in_err-code
returns-in_err-code g c =
    let on = g.met.S.Source.keeps_on in
    let itself = g.met.S.Source.keeps_itself in
    answers-bind on _ (code-expected (λ byte. nat_eq byte 0) c.args.next c.args.reader.now itself why.BadHeader (sym c.is-has_header.ensures ∙ c.if-not-has_header.false))
    (answers-bind on _ (answers-from (λ end bits w. w.rests) (c.in_ok-header.ensures))
    (answers-bind on _ (c.in_ok-_zeros.ensures)
    (look-exit c.from_residual-in_err-code.result c.from_residual-in_err-code.ensures.1 c.in_err-code.ensures.answers)))

pub returns-then-not-has_extension : goal.returns-then-not-has_extension
returns-then-not-has_extension g c =
    let on = g.met.S.Source.keeps_on in
    let itself = g.met.S.Source.keeps_itself in
    answers-bind on _ (code-expected (λ byte. nat_eq byte 0) c.args.next c.args.reader.now itself why.BadHeader (sym c.is-has_header.ensures ∙ c.if-not-has_header.false))
    (answers-bind on _ (answers-from (λ end bits w. w.rests) (c.in_ok-header.ensures))
    (answers-bind on _ (c.in_ok-_zeros.ensures)
    (after-look on c.in_ok-code.ensures.answers
    (answers-exit _ (Err c.refusal-no_extension.result) refl
    (code-unexpected (λ byte. nat_eq byte 181) c.in_ok-code.code c.read_next_code.new.reader itself why.NotMpeg2 181 (omega arith) refl
    (sym c.is-has_extension.ensures ∙ c.if-not-has_extension.true) c.refusal-no_extension.result c.refusal-no_extension.ensures)))))

pub returns-in_err-_identifier : goal.returns-in_err-_identifier
returns-in_err-_identifier g c =
    let on = g.met.S.Source.keeps_on in
    let itself = g.met.S.Source.keeps_itself in
    answers-bind on _ (code-expected (λ byte. nat_eq byte 0) c.args.next c.args.reader.now itself why.BadHeader (sym c.is-has_header.ensures ∙ c.if-not-has_header.false))
    (answers-bind on _ (answers-from (λ end bits w. w.rests) (c.in_ok-header.ensures))
    (answers-bind on _ (c.in_ok-_zeros.ensures)
    (after-look on c.in_ok-code.ensures.answers
    (answers-bind on _ (code-expected (λ byte. nat_eq byte 181) c.in_ok-code.code c.read_next_code.new.reader itself why.NotMpeg2 (sym c.is-has_extension.ensures ∙ c.if-not-has_extension.false))
    (answers-exit _ c.from_residual-in_err-_identifier.result c.from_residual-in_err-_identifier.ensures.1
    (answers-from (λ end bits w. w.rests) (c.in_err-_identifier.ensures.answers _ (refl, (λ v lt. only-range 8 v), tt))))))))

pub returns-in_err-coding : goal.returns-in_err-coding
returns-in_err-coding g c =
    let on = g.met.S.Source.keeps_on in
    let itself = g.met.S.Source.keeps_itself in
    answers-bind on _ (code-expected (λ byte. nat_eq byte 0) c.args.next c.args.reader.now itself why.BadHeader (sym c.is-has_header.ensures ∙ c.if-not-has_header.false))
    (answers-bind on _ (answers-from (λ end bits w. w.rests) (c.in_ok-header.ensures))
    (answers-bind on _ (c.in_ok-_zeros.ensures)
    (after-look on c.in_ok-code.ensures.answers
    (answers-bind on _ (code-expected (λ byte. nat_eq byte 181) c.in_ok-code.code c.read_next_code.new.reader itself why.NotMpeg2 (sym c.is-has_extension.ensures ∙ c.if-not-has_extension.false))
    (answers-bind on _ (answers-from (λ end bits w. w.rests) (c.in_ok-_identifier.ensures.answers _ (refl, (λ v lt. only-range 8 v), tt)))
    (answers-exit _ c.from_residual-in_err-coding.result c.from_residual-in_err-coding.ensures.1 (c.in_err-coding.ensures)))))))

pub returns-in_err-_more_zeros : goal.returns-in_err-_more_zeros
returns-in_err-_more_zeros g c =
    let on = g.met.S.Source.keeps_on in
    let itself = g.met.S.Source.keeps_itself in
    answers-bind on _ (code-expected (λ byte. nat_eq byte 0) c.args.next c.args.reader.now itself why.BadHeader (sym c.is-has_header.ensures ∙ c.if-not-has_header.false))
    (answers-bind on _ (answers-from (λ end bits w. w.rests) (c.in_ok-header.ensures))
    (answers-bind on _ (c.in_ok-_zeros.ensures)
    (after-look on c.in_ok-code.ensures.answers
    (answers-bind on _ (code-expected (λ byte. nat_eq byte 181) c.in_ok-code.code c.read_next_code.new.reader itself why.NotMpeg2 (sym c.is-has_extension.ensures ∙ c.if-not-has_extension.false))
    (answers-bind on _ (answers-from (λ end bits w. w.rests) (c.in_ok-_identifier.ensures.answers _ (refl, (λ v lt. only-range 8 v), tt)))
    (answers-bind on _ (c.in_ok-coding.ensures)
    (answers-exit _ c.from_residual-in_err-_more_zeros.result c.from_residual-in_err-_more_zeros.ensures.1 (c.in_err-_more_zeros.ensures))))))))

pub returns-in_err-behind : goal.returns-in_err-behind
returns-in_err-behind g c =
    let on = g.met.S.Source.keeps_on in
    let itself = g.met.S.Source.keeps_itself in
    answers-bind on _ (code-expected (λ byte. nat_eq byte 0) c.args.next c.args.reader.now itself why.BadHeader (sym c.is-has_header.ensures ∙ c.if-not-has_header.false))
    (answers-bind on _ (answers-from (λ end bits w. w.rests) (c.in_ok-header.ensures))
    (answers-bind on _ (c.in_ok-_zeros.ensures)
    (after-look on c.in_ok-code.ensures.answers
    (answers-bind on _ (code-expected (λ byte. nat_eq byte 181) c.in_ok-code.code c.read_next_code.new.reader itself why.NotMpeg2 (sym c.is-has_extension.ensures ∙ c.if-not-has_extension.false))
    (answers-bind on _ (answers-from (λ end bits w. w.rests) (c.in_ok-_identifier.ensures.answers _ (refl, (λ v lt. only-range 8 v), tt)))
    (answers-bind on _ (c.in_ok-coding.ensures)
    (answers-bind on _ (c.in_ok-_more_zeros.ensures)
    (answers-made_exit _ _ _ c.from_residual-in_err-behind.result c.from_residual-in_err-behind.ensures.1 c.in_err-behind.ensures))))))))

pub returns : goal.returns
returns g c =
    let on = g.met.S.Source.keeps_on in
    let itself = g.met.S.Source.keeps_itself in
    answers-bind on _ (code-expected (λ byte. nat_eq byte 0) c.args.next c.args.reader.now itself why.BadHeader (sym c.is-has_header.ensures ∙ c.if-not-has_header.false))
    (answers-bind on _ (answers-from (λ end bits w. w.rests) (c.in_ok-header.ensures))
    (answers-bind on _ (c.in_ok-_zeros.ensures)
    (after-look on c.in_ok-code.ensures.answers
    (answers-bind on _ (code-expected (λ byte. nat_eq byte 181) c.in_ok-code.code c.read_next_code.new.reader itself why.NotMpeg2 (sym c.is-has_extension.ensures ∙ c.if-not-has_extension.false))
    (answers-bind on _ (answers-from (λ end bits w. w.rests) (c.in_ok-_identifier.ensures.answers _ (refl, (λ v lt. only-range 8 v), tt)))
    (answers-bind on _ (c.in_ok-coding.ensures)
    (answers-bind on _ (c.in_ok-_more_zeros.ensures)
    (answers-mapped _ _ on _ c.in_ok-behind.ensures (follows-none _ itself)
    (λ a e. subst (λ (s : SeqState). Goes {A = SeqState × PicCoding} (done (s, c.in_ok-coding.coding))
    (c.in_ok-behind.behind.seq, c.in_ok-coding.coding) (NextRests c.in_ok-behind.behind.next c.read_extensions.new.reader)
    (NextRests c.in_ok-behind.behind.next c.read_extensions.new.reader)) (sym e) (goes-done _ _))))))))))

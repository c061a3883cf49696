use Rattle.std.proofs.Common.{refl, sym, ◌∙◌}
use Rattle.video_headers.proofs.BehindIdentifiers.{matrix-refused, zeros-refused, unread-refused, unread-read, matrix-read}
use Rattle.video_headers.proofs.Reading.{answers-bind, answers-exit}
use Rattle.video_headers.proofs.extension.read_extension.Goals as goal

pub returns-in_err-number-clause-answers : goal.returns-in_err-number-clause-answers
returns-in_err-number-clause-answers g c = answers-exit _ c.from_residual.result c.from_residual.ensures.1 c.in_err-number.ensures

pub returns-in_err-loaded-clause-answers : goal.returns-in_err-loaded-clause-answers
returns-in_err-loaded-clause-answers g c =
    let on = g.met.S.Source.keeps_on in
    answers-bind on _ c.in_ok-number.ensures
    (matrix-refused on g.met.S.Source.keeps_itself _ (sym c.is_quant_matrix.ensures ∙ c.if-is_quant_matrix.true) c.from_residual-in_err-loaded.result
    c.from_residual-in_err-loaded.ensures.1 c.in_err-loaded.ensures.answers)

pub returns-in_err-_zeros-clause-answers : goal.returns-in_err-_zeros-clause-answers
returns-in_err-_zeros-clause-answers g c =
    let on = g.met.S.Source.keeps_on in
    answers-bind on _ c.in_ok-number.ensures
    (zeros-refused on g.met.S.Source.keeps_itself _ (sym c.is_quant_matrix.ensures ∙ c.if-is_quant_matrix.true) c.from_residual-in_err-_zeros.result
    c.from_residual-in_err-_zeros.ensures.1 c.in_ok-loaded.ensures.answers c.in_err-_zeros.ensures)

pub returns-then-is_quant_matrix-clause-answers : goal.returns-then-is_quant_matrix-clause-answers
returns-then-is_quant_matrix-clause-answers g c =
    let on = g.met.S.Source.keeps_on in
    answers-bind on _ c.in_ok-number.ensures
    (matrix-read on g.met.S.Source.keeps_itself _ (sym c.is_quant_matrix.ensures ∙ c.if-is_quant_matrix.true) c.in_ok-loaded.loaded c.in_ok-loaded.ensures.answers c.in_ok-_zeros.ensures)

pub returns-in_err-read_unread-clause-answers : goal.returns-in_err-read_unread-clause-answers
returns-in_err-read_unread-clause-answers g c =
    let on = g.met.S.Source.keeps_on in
    answers-bind on _ c.in_ok-number.ensures
    (unread-refused on g.met.S.Source.keeps_itself _ (sym c.is_quant_matrix.ensures ∙ c.if-is_quant_matrix.false)
    c.from_residual-in_err-read_unread.result c.from_residual-in_err-read_unread.ensures.1 c.in_err-read_unread.ensures)

pub returns-clause-answers : goal.returns-clause-answers
returns-clause-answers g c =
    let on = g.met.S.Source.keeps_on in
    answers-bind on _ c.in_ok-number.ensures
    (unread-read on g.met.S.Source.keeps_itself _ (sym c.is_quant_matrix.ensures ∙ c.if-is_quant_matrix.false) _ refl c.in_ok-read_unread.ensures)

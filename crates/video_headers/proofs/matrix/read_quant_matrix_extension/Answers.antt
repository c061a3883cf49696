use Rattle.std.proofs.Common.{refl}
use Rattle.video_headers.proofs.Reading.{answers-bind, answers-exit, answers-done}
use Rattle.video_headers.proofs.Rules.{unset-flag}
use Rattle.video_headers.proofs.matrix.read_quant_matrix_extension.Goals as goal

pub returns-in_err-intra-clause-answers : goal.returns-in_err-intra-clause-answers
returns-in_err-intra-clause-answers g c =
    let on = g.met.S.Source.keeps_on in
    answers-exit _ c.from_residual.result c.from_residual.ensures.1 c.in_err-intra.ensures.answers

pub returns-in_err-non_intra-clause-answers : goal.returns-in_err-non_intra-clause-answers
returns-in_err-non_intra-clause-answers g c =
    let on = g.met.S.Source.keeps_on in
    answers-bind on _ c.in_ok-intra.ensures.answers
    (answers-exit _ c.from_residual-in_err-non_intra.result c.from_residual-in_err-non_intra.ensures.1 c.in_err-non_intra.ensures.answers)

pub returns-in_err-_chroma_intra-clause-answers : goal.returns-in_err-_chroma_intra-clause-answers
returns-in_err-_chroma_intra-clause-answers g c =
    let on = g.met.S.Source.keeps_on in
    answers-bind on _ c.in_ok-intra.ensures.answers
    (answers-bind on _ c.in_ok-non_intra.ensures.answers
    (answers-exit _ c.from_residual-in_err-_chroma_intra.result c.from_residual-in_err-_chroma_intra.ensures.1 (c.in_err-_chroma_intra.ensures _ (refl, unset-flag))))

pub returns-in_err-_chroma_non_intra-clause-answers : goal.returns-in_err-_chroma_non_intra-clause-answers
returns-in_err-_chroma_non_intra-clause-answers g c =
    let on = g.met.S.Source.keeps_on in
    answers-bind on _ c.in_ok-intra.ensures.answers
    (answers-bind on _ c.in_ok-non_intra.ensures.answers
    (answers-bind on _ (c.in_ok-_chroma_intra.ensures _ (refl, unset-flag))
    (answers-exit _ c.from_residual-in_err-_chroma_non_intra.result c.from_residual-in_err-_chroma_non_intra.ensures.1 (c.in_err-_chroma_non_intra.ensures _ (refl, unset-flag)))))

pub returns-clause-answers : goal.returns-clause-answers
returns-clause-answers g c =
    let on = g.met.S.Source.keeps_on in
    answers-bind on _ c.in_ok-intra.ensures.answers
    (answers-bind on _ c.in_ok-non_intra.ensures.answers
    (answers-bind on _ (c.in_ok-_chroma_intra.ensures _ (refl, unset-flag))
    (answers-bind on _ (c.in_ok-_chroma_non_intra.ensures _ (refl, unset-flag))
    (answers-done _ _ _ g.met.S.Source.keeps_itself refl))))

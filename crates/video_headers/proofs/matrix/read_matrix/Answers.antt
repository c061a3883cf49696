use Rattle.std.proofs.Common.{refl, None}
use Rattle.video_headers.proofs.Reading.{answers-bind, answers-exit, answers-done}
use Rattle.video_headers.proofs.matrix.read_matrix.Goals as goal

pub returns-in_err-read_flag-clause-answers : goal.returns-in_err-read_flag-clause-answers
returns-in_err-read_flag-clause-answers g c = answers-exit _ c.from_residual.result c.from_residual.ensures.1 c.in_err-read_flag.ensures

pub returns-then-not-branch-clause-answers : goal.returns-then-not-branch-clause-answers
returns-then-not-branch-clause-answers g c = answers-bind g.met.S.Source.keeps_on _ c.in_ok-read_flag.ensures (rw (c.if-not-branch.true) (answers-done None None _ g.met.S.Source.keeps_itself refl))

pub returns-in_err-weights-clause-answers : goal.returns-in_err-weights-clause-answers
returns-in_err-weights-clause-answers g c =
    answers-bind g.met.S.Source.keeps_on _ c.in_ok-read_flag.ensures
    (rw (c.if-not-branch.false) (answers-exit _ c.from_residual-in_err-weights.result c.from_residual-in_err-weights.ensures.1
    c.in_err-weights.ensures.answers))

pub returns-clause-answers : goal.returns-clause-answers
returns-clause-answers g c =
    answers-bind g.met.S.Source.keeps_on _ c.in_ok-read_flag.ensures
    (rw (c.if-not-branch.false) (answers-bind g.met.S.Source.keeps_on _ c.in_ok-weights.ensures.answers
    (answers-done _ _ _ g.met.S.Source.keeps_itself refl)))

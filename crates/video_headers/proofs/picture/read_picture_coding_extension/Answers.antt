use Rattle.std.proofs.Common.{refl, sym, arith}
use Rattle.video_headers.proofs.Reading.{answers-bind, answers-exit, answers-done}
use Rattle.video_headers.proofs.Rules.{some-range}
use Rattle.std.proofs.Common.{ap}
use Rattle.video_headers.specs.Private.Why.{refusal_of}
use Rattle.video_headers.proofs.Rules.{flag-rule}
use Rattle.video_headers.proofs.picture.read_picture_coding_extension.Goals as goal

pub returns-in_err-f_00 : goal.returns-in_err-f_00
returns-in_err-f_00 g c =
    let on = g.met.S.Source.keeps_on in
    answers-exit _ c.from_residual.result c.from_residual.ensures.1 (c.in_err-f_00.ensures.answers _ (sym (ap refusal_of c.forward_limit-forward.ensures.0), c.forward_limit-forward.ensures.1, tt))

pub returns-in_err-f_01 : goal.returns-in_err-f_01
returns-in_err-f_01 g c =
    let on = g.met.S.Source.keeps_on in
    answers-bind on _ (c.in_ok-f_00.ensures.answers _ (sym (ap refusal_of c.forward_limit-forward.ensures.0), c.forward_limit-forward.ensures.1, tt))
    (answers-exit _ c.from_residual-in_err-f_01.result c.from_residual-in_err-f_01.ensures.1
    (c.in_err-f_01.ensures.answers _ (sym (ap refusal_of c.forward_limit-forward.ensures.0), c.forward_limit-forward.ensures.1, tt)))

pub returns-in_err-f_10 : goal.returns-in_err-f_10
returns-in_err-f_10 g c =
    let on = g.met.S.Source.keeps_on in
    answers-bind on _ (c.in_ok-f_00.ensures.answers _ (sym (ap refusal_of c.forward_limit-forward.ensures.0), c.forward_limit-forward.ensures.1, tt))
    (answers-bind on _ (c.in_ok-f_01.ensures.answers _ (sym (ap refusal_of c.forward_limit-forward.ensures.0), c.forward_limit-forward.ensures.1, tt))
    (answers-exit _ c.from_residual-in_err-f_10.result c.from_residual-in_err-f_10.ensures.1
    (c.in_err-f_10.ensures.answers _ (sym (ap refusal_of c.backward_limit-backward.ensures.0), c.backward_limit-backward.ensures.1, tt))))

pub returns-in_err-f_11 : goal.returns-in_err-f_11
returns-in_err-f_11 g c =
    let on = g.met.S.Source.keeps_on in
    answers-bind on _ (c.in_ok-f_00.ensures.answers _ (sym (ap refusal_of c.forward_limit-forward.ensures.0), c.forward_limit-forward.ensures.1, tt))
    (answers-bind on _ (c.in_ok-f_01.ensures.answers _ (sym (ap refusal_of c.forward_limit-forward.ensures.0), c.forward_limit-forward.ensures.1, tt))
    (answers-bind on _ (c.in_ok-f_10.ensures.answers _ (sym (ap refusal_of c.backward_limit-backward.ensures.0), c.backward_limit-backward.ensures.1, tt))
    (answers-exit _ c.from_residual-in_err-f_11.result c.from_residual-in_err-f_11.ensures.1
    (c.in_err-f_11.ensures.answers _ (sym (ap refusal_of c.backward_limit-backward.ensures.0), c.backward_limit-backward.ensures.1, tt)))))

pub returns-in_err-dc_precision : goal.returns-in_err-dc_precision
returns-in_err-dc_precision g c =
    let on = g.met.S.Source.keeps_on in
    answers-bind on _ (c.in_ok-f_00.ensures.answers _ (sym (ap refusal_of c.forward_limit-forward.ensures.0), c.forward_limit-forward.ensures.1, tt))
    (answers-bind on _ (c.in_ok-f_01.ensures.answers _ (sym (ap refusal_of c.forward_limit-forward.ensures.0), c.forward_limit-forward.ensures.1, tt))
    (answers-bind on _ (c.in_ok-f_10.ensures.answers _ (sym (ap refusal_of c.backward_limit-backward.ensures.0), c.backward_limit-backward.ensures.1, tt))
    (answers-bind on _ (c.in_ok-f_11.ensures.answers _ (sym (ap refusal_of c.backward_limit-backward.ensures.0), c.backward_limit-backward.ensures.1, tt))
    (answers-exit _ c.from_residual-in_err-dc_precision.result c.from_residual-in_err-dc_precision.ensures.1 c.in_err-dc_precision.ensures.answers))))

pub returns-in_err-structure : goal.returns-in_err-structure
returns-in_err-structure g c =
    let on = g.met.S.Source.keeps_on in
    answers-bind on _ (c.in_ok-f_00.ensures.answers _ (sym (ap refusal_of c.forward_limit-forward.ensures.0), c.forward_limit-forward.ensures.1, tt))
    (answers-bind on _ (c.in_ok-f_01.ensures.answers _ (sym (ap refusal_of c.forward_limit-forward.ensures.0), c.forward_limit-forward.ensures.1, tt))
    (answers-bind on _ (c.in_ok-f_10.ensures.answers _ (sym (ap refusal_of c.backward_limit-backward.ensures.0), c.backward_limit-backward.ensures.1, tt))
    (answers-bind on _ (c.in_ok-f_11.ensures.answers _ (sym (ap refusal_of c.backward_limit-backward.ensures.0), c.backward_limit-backward.ensures.1, tt))
    (answers-bind on _ c.in_ok-dc_precision.ensures.answers
    (answers-exit _ c.from_residual-in_err-structure.result c.from_residual-in_err-structure.ensures.1
    (c.in_err-structure.ensures.answers _ (
      refl,
      (λ v lt. some-range 3 v (omega (arith, lt))),
      (sym (ap refusal_of c.structure_limit-by_sequence.ensures.0), c.structure_limit-by_sequence.ensures.1, tt),
    )))))))

pub returns-in_err-top_field_first : goal.returns-in_err-top_field_first
returns-in_err-top_field_first g c =
    let on = g.met.S.Source.keeps_on in
    answers-bind on _ (c.in_ok-f_00.ensures.answers _ (sym (ap refusal_of c.forward_limit-forward.ensures.0), c.forward_limit-forward.ensures.1, tt))
    (answers-bind on _ (c.in_ok-f_01.ensures.answers _ (sym (ap refusal_of c.forward_limit-forward.ensures.0), c.forward_limit-forward.ensures.1, tt))
    (answers-bind on _ (c.in_ok-f_10.ensures.answers _ (sym (ap refusal_of c.backward_limit-backward.ensures.0), c.backward_limit-backward.ensures.1, tt))
    (answers-bind on _ (c.in_ok-f_11.ensures.answers _ (sym (ap refusal_of c.backward_limit-backward.ensures.0), c.backward_limit-backward.ensures.1, tt))
    (answers-bind on _ c.in_ok-dc_precision.ensures.answers
    (answers-bind on _ (c.in_ok-structure.ensures.answers _ (
      refl,
      (λ v lt. some-range 3 v (omega (arith, lt))),
      (sym (ap refusal_of c.structure_limit-by_sequence.ensures.0), c.structure_limit-by_sequence.ensures.1, tt),
    ))
    (answers-exit _ c.from_residual-in_err-top_field_first.result c.from_residual-in_err-top_field_first.ensures.1 c.in_err-top_field_first.ensures))))))

pub returns-in_err-frame_pred_frame_dct : goal.returns-in_err-frame_pred_frame_dct
returns-in_err-frame_pred_frame_dct g c =
    let on = g.met.S.Source.keeps_on in
    answers-bind on _ (c.in_ok-f_00.ensures.answers _ (sym (ap refusal_of c.forward_limit-forward.ensures.0), c.forward_limit-forward.ensures.1, tt))
    (answers-bind on _ (c.in_ok-f_01.ensures.answers _ (sym (ap refusal_of c.forward_limit-forward.ensures.0), c.forward_limit-forward.ensures.1, tt))
    (answers-bind on _ (c.in_ok-f_10.ensures.answers _ (sym (ap refusal_of c.backward_limit-backward.ensures.0), c.backward_limit-backward.ensures.1, tt))
    (answers-bind on _ (c.in_ok-f_11.ensures.answers _ (sym (ap refusal_of c.backward_limit-backward.ensures.0), c.backward_limit-backward.ensures.1, tt))
    (answers-bind on _ c.in_ok-dc_precision.ensures.answers
    (answers-bind on _ (c.in_ok-structure.ensures.answers _ (
      refl,
      (λ v lt. some-range 3 v (omega (arith, lt))),
      (sym (ap refusal_of c.structure_limit-by_sequence.ensures.0), c.structure_limit-by_sequence.ensures.1, tt),
    ))
    (answers-bind on _ c.in_ok-top_field_first.ensures
    (answers-exit _ c.from_residual-in_err-frame_pred_frame_dct.result c.from_residual-in_err-frame_pred_frame_dct.ensures.1
    (c.in_err-frame_pred_frame_dct.ensures _ (flag-rule c.frame_limit-frame.result _ c.frame_limit-frame.ensures)))))))))

pub returns-in_err-concealment : goal.returns-in_err-concealment
returns-in_err-concealment g c =
    let on = g.met.S.Source.keeps_on in
    answers-bind on _ (c.in_ok-f_00.ensures.answers _ (sym (ap refusal_of c.forward_limit-forward.ensures.0), c.forward_limit-forward.ensures.1, tt))
    (answers-bind on _ (c.in_ok-f_01.ensures.answers _ (sym (ap refusal_of c.forward_limit-forward.ensures.0), c.forward_limit-forward.ensures.1, tt))
    (answers-bind on _ (c.in_ok-f_10.ensures.answers _ (sym (ap refusal_of c.backward_limit-backward.ensures.0), c.backward_limit-backward.ensures.1, tt))
    (answers-bind on _ (c.in_ok-f_11.ensures.answers _ (sym (ap refusal_of c.backward_limit-backward.ensures.0), c.backward_limit-backward.ensures.1, tt))
    (answers-bind on _ c.in_ok-dc_precision.ensures.answers
    (answers-bind on _ (c.in_ok-structure.ensures.answers _ (
      refl,
      (λ v lt. some-range 3 v (omega (arith, lt))),
      (sym (ap refusal_of c.structure_limit-by_sequence.ensures.0), c.structure_limit-by_sequence.ensures.1, tt),
    ))
    (answers-bind on _ c.in_ok-top_field_first.ensures
    (answers-bind on _ (c.in_ok-frame_pred_frame_dct.ensures _ (flag-rule c.frame_limit-frame.result _ c.frame_limit-frame.ensures))
    (answers-exit _ c.from_residual-in_err-concealment.result c.from_residual-in_err-concealment.ensures.1
    (c.in_err-concealment.ensures _ (flag-rule c.concealment_limit-vectors.result _ c.concealment_limit-vectors.ensures))))))))))

pub returns-in_err-q_scale_type : goal.returns-in_err-q_scale_type
returns-in_err-q_scale_type g c =
    let on = g.met.S.Source.keeps_on in
    answers-bind on _ (c.in_ok-f_00.ensures.answers _ (sym (ap refusal_of c.forward_limit-forward.ensures.0), c.forward_limit-forward.ensures.1, tt))
    (answers-bind on _ (c.in_ok-f_01.ensures.answers _ (sym (ap refusal_of c.forward_limit-forward.ensures.0), c.forward_limit-forward.ensures.1, tt))
    (answers-bind on _ (c.in_ok-f_10.ensures.answers _ (sym (ap refusal_of c.backward_limit-backward.ensures.0), c.backward_limit-backward.ensures.1, tt))
    (answers-bind on _ (c.in_ok-f_11.ensures.answers _ (sym (ap refusal_of c.backward_limit-backward.ensures.0), c.backward_limit-backward.ensures.1, tt))
    (answers-bind on _ c.in_ok-dc_precision.ensures.answers
    (answers-bind on _ (c.in_ok-structure.ensures.answers _ (
      refl,
      (λ v lt. some-range 3 v (omega (arith, lt))),
      (sym (ap refusal_of c.structure_limit-by_sequence.ensures.0), c.structure_limit-by_sequence.ensures.1, tt),
    ))
    (answers-bind on _ c.in_ok-top_field_first.ensures
    (answers-bind on _ (c.in_ok-frame_pred_frame_dct.ensures _ (flag-rule c.frame_limit-frame.result _ c.frame_limit-frame.ensures))
    (answers-bind on _ (c.in_ok-concealment.ensures _ (flag-rule c.concealment_limit-vectors.result _ c.concealment_limit-vectors.ensures))
    (answers-exit _ c.from_residual-in_err-q_scale_type.result c.from_residual-in_err-q_scale_type.ensures.1 c.in_err-q_scale_type.ensures)))))))))

pub returns-in_err-intra_vlc_format : goal.returns-in_err-intra_vlc_format
returns-in_err-intra_vlc_format g c =
    let on = g.met.S.Source.keeps_on in
    answers-bind on _ (c.in_ok-f_00.ensures.answers _ (sym (ap refusal_of c.forward_limit-forward.ensures.0), c.forward_limit-forward.ensures.1, tt))
    (answers-bind on _ (c.in_ok-f_01.ensures.answers _ (sym (ap refusal_of c.forward_limit-forward.ensures.0), c.forward_limit-forward.ensures.1, tt))
    (answers-bind on _ (c.in_ok-f_10.ensures.answers _ (sym (ap refusal_of c.backward_limit-backward.ensures.0), c.backward_limit-backward.ensures.1, tt))
    (answers-bind on _ (c.in_ok-f_11.ensures.answers _ (sym (ap refusal_of c.backward_limit-backward.ensures.0), c.backward_limit-backward.ensures.1, tt))
    (answers-bind on _ c.in_ok-dc_precision.ensures.answers
    (answers-bind on _ (c.in_ok-structure.ensures.answers _ (
      refl,
      (λ v lt. some-range 3 v (omega (arith, lt))),
      (sym (ap refusal_of c.structure_limit-by_sequence.ensures.0), c.structure_limit-by_sequence.ensures.1, tt),
    ))
    (answers-bind on _ c.in_ok-top_field_first.ensures
    (answers-bind on _ (c.in_ok-frame_pred_frame_dct.ensures _ (flag-rule c.frame_limit-frame.result _ c.frame_limit-frame.ensures))
    (answers-bind on _ (c.in_ok-concealment.ensures _ (flag-rule c.concealment_limit-vectors.result _ c.concealment_limit-vectors.ensures))
    (answers-bind on _ c.in_ok-q_scale_type.ensures
    (answers-exit _ c.from_residual-in_err-intra_vlc_format.result c.from_residual-in_err-intra_vlc_format.ensures.1 c.in_err-intra_vlc_format.ensures))))))))))

pub returns-in_err-alternate_scan : goal.returns-in_err-alternate_scan
returns-in_err-alternate_scan g c =
    let on = g.met.S.Source.keeps_on in
    answers-bind on _ (c.in_ok-f_00.ensures.answers _ (sym (ap refusal_of c.forward_limit-forward.ensures.0), c.forward_limit-forward.ensures.1, tt))
    (answers-bind on _ (c.in_ok-f_01.ensures.answers _ (sym (ap refusal_of c.forward_limit-forward.ensures.0), c.forward_limit-forward.ensures.1, tt))
    (answers-bind on _ (c.in_ok-f_10.ensures.answers _ (sym (ap refusal_of c.backward_limit-backward.ensures.0), c.backward_limit-backward.ensures.1, tt))
    (answers-bind on _ (c.in_ok-f_11.ensures.answers _ (sym (ap refusal_of c.backward_limit-backward.ensures.0), c.backward_limit-backward.ensures.1, tt))
    (answers-bind on _ c.in_ok-dc_precision.ensures.answers
    (answers-bind on _ (c.in_ok-structure.ensures.answers _ (
      refl,
      (λ v lt. some-range 3 v (omega (arith, lt))),
      (sym (ap refusal_of c.structure_limit-by_sequence.ensures.0), c.structure_limit-by_sequence.ensures.1, tt),
    ))
    (answers-bind on _ c.in_ok-top_field_first.ensures
    (answers-bind on _ (c.in_ok-frame_pred_frame_dct.ensures _ (flag-rule c.frame_limit-frame.result _ c.frame_limit-frame.ensures))
    (answers-bind on _ (c.in_ok-concealment.ensures _ (flag-rule c.concealment_limit-vectors.result _ c.concealment_limit-vectors.ensures))
    (answers-bind on _ c.in_ok-q_scale_type.ensures
    (answers-bind on _ c.in_ok-intra_vlc_format.ensures
    (answers-exit _ c.from_residual-in_err-alternate_scan.result c.from_residual-in_err-alternate_scan.ensures.1 c.in_err-alternate_scan.ensures)))))))))))

pub returns-in_err-repeat_first_field : goal.returns-in_err-repeat_first_field
returns-in_err-repeat_first_field g c =
    let on = g.met.S.Source.keeps_on in
    answers-bind on _ (c.in_ok-f_00.ensures.answers _ (sym (ap refusal_of c.forward_limit-forward.ensures.0), c.forward_limit-forward.ensures.1, tt))
    (answers-bind on _ (c.in_ok-f_01.ensures.answers _ (sym (ap refusal_of c.forward_limit-forward.ensures.0), c.forward_limit-forward.ensures.1, tt))
    (answers-bind on _ (c.in_ok-f_10.ensures.answers _ (sym (ap refusal_of c.backward_limit-backward.ensures.0), c.backward_limit-backward.ensures.1, tt))
    (answers-bind on _ (c.in_ok-f_11.ensures.answers _ (sym (ap refusal_of c.backward_limit-backward.ensures.0), c.backward_limit-backward.ensures.1, tt))
    (answers-bind on _ c.in_ok-dc_precision.ensures.answers
    (answers-bind on _ (c.in_ok-structure.ensures.answers _ (
      refl,
      (λ v lt. some-range 3 v (omega (arith, lt))),
      (sym (ap refusal_of c.structure_limit-by_sequence.ensures.0), c.structure_limit-by_sequence.ensures.1, tt),
    ))
    (answers-bind on _ c.in_ok-top_field_first.ensures
    (answers-bind on _ (c.in_ok-frame_pred_frame_dct.ensures _ (flag-rule c.frame_limit-frame.result _ c.frame_limit-frame.ensures))
    (answers-bind on _ (c.in_ok-concealment.ensures _ (flag-rule c.concealment_limit-vectors.result _ c.concealment_limit-vectors.ensures))
    (answers-bind on _ c.in_ok-q_scale_type.ensures
    (answers-bind on _ c.in_ok-intra_vlc_format.ensures
    (answers-bind on _ c.in_ok-alternate_scan.ensures
    (answers-exit _ c.from_residual-in_err-repeat_first_field.result c.from_residual-in_err-repeat_first_field.ensures.1 c.in_err-repeat_first_field.ensures))))))))))))

pub returns-in_err-_chroma_420_type : goal.returns-in_err-_chroma_420_type
returns-in_err-_chroma_420_type g c =
    let on = g.met.S.Source.keeps_on in
    answers-bind on _ (c.in_ok-f_00.ensures.answers _ (sym (ap refusal_of c.forward_limit-forward.ensures.0), c.forward_limit-forward.ensures.1, tt))
    (answers-bind on _ (c.in_ok-f_01.ensures.answers _ (sym (ap refusal_of c.forward_limit-forward.ensures.0), c.forward_limit-forward.ensures.1, tt))
    (answers-bind on _ (c.in_ok-f_10.ensures.answers _ (sym (ap refusal_of c.backward_limit-backward.ensures.0), c.backward_limit-backward.ensures.1, tt))
    (answers-bind on _ (c.in_ok-f_11.ensures.answers _ (sym (ap refusal_of c.backward_limit-backward.ensures.0), c.backward_limit-backward.ensures.1, tt))
    (answers-bind on _ c.in_ok-dc_precision.ensures.answers
    (answers-bind on _ (c.in_ok-structure.ensures.answers _ (
      refl,
      (λ v lt. some-range 3 v (omega (arith, lt))),
      (sym (ap refusal_of c.structure_limit-by_sequence.ensures.0), c.structure_limit-by_sequence.ensures.1, tt),
    ))
    (answers-bind on _ c.in_ok-top_field_first.ensures
    (answers-bind on _ (c.in_ok-frame_pred_frame_dct.ensures _ (flag-rule c.frame_limit-frame.result _ c.frame_limit-frame.ensures))
    (answers-bind on _ (c.in_ok-concealment.ensures _ (flag-rule c.concealment_limit-vectors.result _ c.concealment_limit-vectors.ensures))
    (answers-bind on _ c.in_ok-q_scale_type.ensures
    (answers-bind on _ c.in_ok-intra_vlc_format.ensures
    (answers-bind on _ c.in_ok-alternate_scan.ensures
    (answers-bind on _ c.in_ok-repeat_first_field.ensures
    (answers-exit _ c.from_residual-in_err-_chroma_420_type.result c.from_residual-in_err-_chroma_420_type.ensures.1 c.in_err-_chroma_420_type.ensures)))))))))))))

pub returns-in_err-progressive_frame : goal.returns-in_err-progressive_frame
returns-in_err-progressive_frame g c =
    let on = g.met.S.Source.keeps_on in
    answers-bind on _ (c.in_ok-f_00.ensures.answers _ (sym (ap refusal_of c.forward_limit-forward.ensures.0), c.forward_limit-forward.ensures.1, tt))
    (answers-bind on _ (c.in_ok-f_01.ensures.answers _ (sym (ap refusal_of c.forward_limit-forward.ensures.0), c.forward_limit-forward.ensures.1, tt))
    (answers-bind on _ (c.in_ok-f_10.ensures.answers _ (sym (ap refusal_of c.backward_limit-backward.ensures.0), c.backward_limit-backward.ensures.1, tt))
    (answers-bind on _ (c.in_ok-f_11.ensures.answers _ (sym (ap refusal_of c.backward_limit-backward.ensures.0), c.backward_limit-backward.ensures.1, tt))
    (answers-bind on _ c.in_ok-dc_precision.ensures.answers
    (answers-bind on _ (c.in_ok-structure.ensures.answers _ (
      refl,
      (λ v lt. some-range 3 v (omega (arith, lt))),
      (sym (ap refusal_of c.structure_limit-by_sequence.ensures.0), c.structure_limit-by_sequence.ensures.1, tt),
    ))
    (answers-bind on _ c.in_ok-top_field_first.ensures
    (answers-bind on _ (c.in_ok-frame_pred_frame_dct.ensures _ (flag-rule c.frame_limit-frame.result _ c.frame_limit-frame.ensures))
    (answers-bind on _ (c.in_ok-concealment.ensures _ (flag-rule c.concealment_limit-vectors.result _ c.concealment_limit-vectors.ensures))
    (answers-bind on _ c.in_ok-q_scale_type.ensures
    (answers-bind on _ c.in_ok-intra_vlc_format.ensures
    (answers-bind on _ c.in_ok-alternate_scan.ensures
    (answers-bind on _ c.in_ok-repeat_first_field.ensures
    (answers-bind on _ c.in_ok-_chroma_420_type.ensures
    (answers-exit _ c.from_residual-in_err-progressive_frame.result c.from_residual-in_err-progressive_frame.ensures.1 c.in_err-progressive_frame.ensures))))))))))))))

pub returns-in_err-composite : goal.returns-in_err-composite
returns-in_err-composite g c =
    let on = g.met.S.Source.keeps_on in
    answers-bind on _ (c.in_ok-f_00.ensures.answers _ (sym (ap refusal_of c.forward_limit-forward.ensures.0), c.forward_limit-forward.ensures.1, tt))
    (answers-bind on _ (c.in_ok-f_01.ensures.answers _ (sym (ap refusal_of c.forward_limit-forward.ensures.0), c.forward_limit-forward.ensures.1, tt))
    (answers-bind on _ (c.in_ok-f_10.ensures.answers _ (sym (ap refusal_of c.backward_limit-backward.ensures.0), c.backward_limit-backward.ensures.1, tt))
    (answers-bind on _ (c.in_ok-f_11.ensures.answers _ (sym (ap refusal_of c.backward_limit-backward.ensures.0), c.backward_limit-backward.ensures.1, tt))
    (answers-bind on _ c.in_ok-dc_precision.ensures.answers
    (answers-bind on _ (c.in_ok-structure.ensures.answers _ (
      refl,
      (λ v lt. some-range 3 v (omega (arith, lt))),
      (sym (ap refusal_of c.structure_limit-by_sequence.ensures.0), c.structure_limit-by_sequence.ensures.1, tt),
    ))
    (answers-bind on _ c.in_ok-top_field_first.ensures
    (answers-bind on _ (c.in_ok-frame_pred_frame_dct.ensures _ (flag-rule c.frame_limit-frame.result _ c.frame_limit-frame.ensures))
    (answers-bind on _ (c.in_ok-concealment.ensures _ (flag-rule c.concealment_limit-vectors.result _ c.concealment_limit-vectors.ensures))
    (answers-bind on _ c.in_ok-q_scale_type.ensures
    (answers-bind on _ c.in_ok-intra_vlc_format.ensures
    (answers-bind on _ c.in_ok-alternate_scan.ensures
    (answers-bind on _ c.in_ok-repeat_first_field.ensures
    (answers-bind on _ c.in_ok-_chroma_420_type.ensures
    (answers-bind on _ c.in_ok-progressive_frame.ensures
    (answers-exit _ c.from_residual-in_err-composite.result c.from_residual-in_err-composite.ensures.1 c.in_err-composite.ensures)))))))))))))))

pub returns-in_err-_composite : goal.returns-in_err-_composite
returns-in_err-_composite g c =
    let on = g.met.S.Source.keeps_on in
    answers-bind on _ (c.in_ok-f_00.ensures.answers _ (sym (ap refusal_of c.forward_limit-forward.ensures.0), c.forward_limit-forward.ensures.1, tt))
    (answers-bind on _ (c.in_ok-f_01.ensures.answers _ (sym (ap refusal_of c.forward_limit-forward.ensures.0), c.forward_limit-forward.ensures.1, tt))
    (answers-bind on _ (c.in_ok-f_10.ensures.answers _ (sym (ap refusal_of c.backward_limit-backward.ensures.0), c.backward_limit-backward.ensures.1, tt))
    (answers-bind on _ (c.in_ok-f_11.ensures.answers _ (sym (ap refusal_of c.backward_limit-backward.ensures.0), c.backward_limit-backward.ensures.1, tt))
    (answers-bind on _ c.in_ok-dc_precision.ensures.answers
    (answers-bind on _ (c.in_ok-structure.ensures.answers _ (
      refl,
      (λ v lt. some-range 3 v (omega (arith, lt))),
      (sym (ap refusal_of c.structure_limit-by_sequence.ensures.0), c.structure_limit-by_sequence.ensures.1, tt),
    ))
    (answers-bind on _ c.in_ok-top_field_first.ensures
    (answers-bind on _ (c.in_ok-frame_pred_frame_dct.ensures _ (flag-rule c.frame_limit-frame.result _ c.frame_limit-frame.ensures))
    (answers-bind on _ (c.in_ok-concealment.ensures _ (flag-rule c.concealment_limit-vectors.result _ c.concealment_limit-vectors.ensures))
    (answers-bind on _ c.in_ok-q_scale_type.ensures
    (answers-bind on _ c.in_ok-intra_vlc_format.ensures
    (answers-bind on _ c.in_ok-alternate_scan.ensures
    (answers-bind on _ c.in_ok-repeat_first_field.ensures
    (answers-bind on _ c.in_ok-_chroma_420_type.ensures
    (answers-bind on _ c.in_ok-progressive_frame.ensures
    (answers-bind on _ c.in_ok-composite.ensures
    (answers-exit _ c.from_residual-in_err-_composite.result c.from_residual-in_err-_composite.ensures.1 c.in_err-_composite.ensures))))))))))))))))

pub returns : goal.returns
returns g c =
    let on = g.met.S.Source.keeps_on in
    answers-bind on _ (c.in_ok-f_00.ensures.answers _ (sym (ap refusal_of c.forward_limit-forward.ensures.0), c.forward_limit-forward.ensures.1, tt))
    (answers-bind on _ (c.in_ok-f_01.ensures.answers _ (sym (ap refusal_of c.forward_limit-forward.ensures.0), c.forward_limit-forward.ensures.1, tt))
    (answers-bind on _ (c.in_ok-f_10.ensures.answers _ (sym (ap refusal_of c.backward_limit-backward.ensures.0), c.backward_limit-backward.ensures.1, tt))
    (answers-bind on _ (c.in_ok-f_11.ensures.answers _ (sym (ap refusal_of c.backward_limit-backward.ensures.0), c.backward_limit-backward.ensures.1, tt))
    (answers-bind on _ c.in_ok-dc_precision.ensures.answers
    (answers-bind on _ (c.in_ok-structure.ensures.answers _ (
      refl,
      (λ v lt. some-range 3 v (omega (arith, lt))),
      (sym (ap refusal_of c.structure_limit-by_sequence.ensures.0), c.structure_limit-by_sequence.ensures.1, tt),
    ))
    (answers-bind on _ c.in_ok-top_field_first.ensures
    (answers-bind on _ (c.in_ok-frame_pred_frame_dct.ensures _ (flag-rule c.frame_limit-frame.result _ c.frame_limit-frame.ensures))
    (answers-bind on _ (c.in_ok-concealment.ensures _ (flag-rule c.concealment_limit-vectors.result _ c.concealment_limit-vectors.ensures))
    (answers-bind on _ c.in_ok-q_scale_type.ensures
    (answers-bind on _ c.in_ok-intra_vlc_format.ensures
    (answers-bind on _ c.in_ok-alternate_scan.ensures
    (answers-bind on _ c.in_ok-repeat_first_field.ensures
    (answers-bind on _ c.in_ok-_chroma_420_type.ensures
    (answers-bind on _ c.in_ok-progressive_frame.ensures
    (answers-bind on _ c.in_ok-composite.ensures
    (answers-bind on _ c.in_ok-_composite.ensures
    (answers-done _ _ _ g.met.S.Source.keeps_itself refl)))))))))))))))))

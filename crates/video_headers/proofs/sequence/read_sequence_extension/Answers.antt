use Rattle.std.proofs.Common.{refl, sym}
use Rattle.video_headers.proofs.Reading.{answers-bind, answers-exit, answers-done}
use Rattle.video_headers.proofs.Rules.{only-range, unset-flag}
use Rattle.std.proofs.Common.{ap}
use Rattle.bit_lists.specs.Fields.{flag}
use Rattle.video_headers.specs.Private.Why.{refusal_of}
use Rattle.video_headers.proofs.Rules.{flag-small}
use Rattle.video_headers.proofs.sequence.read_sequence_extension.Goals as goal

pub returns-in_err-_profile : goal.returns-in_err-_profile
returns-in_err-_profile g c =
    let on = g.met.S.Source.keeps_on in
    answers-exit _ c.from_residual.result c.from_residual.ensures.1 (c.in_err-_profile.ensures.answers _ (refl, (λ v lt. only-range 72 v), tt))

pub returns-in_err-progressive : goal.returns-in_err-progressive
returns-in_err-progressive g c =
    let on = g.met.S.Source.keeps_on in
    answers-bind on _ (c.in_ok-_profile.ensures.answers _ (refl, (λ v lt. only-range 72 v), tt))
    (answers-exit _ c.from_residual-in_err-progressive.result c.from_residual-in_err-progressive.ensures.1
    (c.in_err-progressive.ensures _ (
      sym (ap refusal_of c.limits_behind-repeated.ensures.progressive.0),
      λ is_set.
          c.limits_behind-repeated.ensures.progressive.1 (flag is_set) (flag-small is_set),
    )))

pub returns-in_err-_chroma : goal.returns-in_err-_chroma
returns-in_err-_chroma g c =
    let on = g.met.S.Source.keeps_on in
    answers-bind on _ (c.in_ok-_profile.ensures.answers _ (refl, (λ v lt. only-range 72 v), tt))
    (answers-bind on _ (c.in_ok-progressive.ensures _ (
      sym (ap refusal_of c.limits_behind-repeated.ensures.progressive.0),
      λ is_set.
          c.limits_behind-repeated.ensures.progressive.1 (flag is_set) (flag-small is_set),
    ))
    (answers-exit _ c.from_residual-in_err-_chroma.result c.from_residual-in_err-_chroma.ensures.1 (c.in_err-_chroma.ensures.answers _ (refl, (λ v lt. only-range 1 v), tt))))

pub returns-in_err-_width : goal.returns-in_err-_width
returns-in_err-_width g c =
    let on = g.met.S.Source.keeps_on in
    answers-bind on _ (c.in_ok-_profile.ensures.answers _ (refl, (λ v lt. only-range 72 v), tt))
    (answers-bind on _ (c.in_ok-progressive.ensures _ (
      sym (ap refusal_of c.limits_behind-repeated.ensures.progressive.0),
      λ is_set.
          c.limits_behind-repeated.ensures.progressive.1 (flag is_set) (flag-small is_set),
    ))
    (answers-bind on _ (c.in_ok-_chroma.ensures.answers _ (refl, (λ v lt. only-range 1 v), tt))
    (answers-exit _ c.from_residual-in_err-_width.result c.from_residual-in_err-_width.ensures.1 (c.in_err-_width.ensures.answers _ (refl, (λ v lt. only-range 0 v), tt)))))

pub returns-in_err-_height : goal.returns-in_err-_height
returns-in_err-_height g c =
    let on = g.met.S.Source.keeps_on in
    answers-bind on _ (c.in_ok-_profile.ensures.answers _ (refl, (λ v lt. only-range 72 v), tt))
    (answers-bind on _ (c.in_ok-progressive.ensures _ (
      sym (ap refusal_of c.limits_behind-repeated.ensures.progressive.0),
      λ is_set.
          c.limits_behind-repeated.ensures.progressive.1 (flag is_set) (flag-small is_set),
    ))
    (answers-bind on _ (c.in_ok-_chroma.ensures.answers _ (refl, (λ v lt. only-range 1 v), tt))
    (answers-bind on _ (c.in_ok-_width.ensures.answers _ (refl, (λ v lt. only-range 0 v), tt))
    (answers-exit _ c.from_residual-in_err-_height.result c.from_residual-in_err-_height.ensures.1 (c.in_err-_height.ensures.answers _ (refl, (λ v lt. only-range 0 v), tt))))))

pub returns-in_err-_bit_rate : goal.returns-in_err-_bit_rate
returns-in_err-_bit_rate g c =
    let on = g.met.S.Source.keeps_on in
    answers-bind on _ (c.in_ok-_profile.ensures.answers _ (refl, (λ v lt. only-range 72 v), tt))
    (answers-bind on _ (c.in_ok-progressive.ensures _ (
      sym (ap refusal_of c.limits_behind-repeated.ensures.progressive.0),
      λ is_set.
          c.limits_behind-repeated.ensures.progressive.1 (flag is_set) (flag-small is_set),
    ))
    (answers-bind on _ (c.in_ok-_chroma.ensures.answers _ (refl, (λ v lt. only-range 1 v), tt))
    (answers-bind on _ (c.in_ok-_width.ensures.answers _ (refl, (λ v lt. only-range 0 v), tt))
    (answers-bind on _ (c.in_ok-_height.ensures.answers _ (refl, (λ v lt. only-range 0 v), tt))
    (answers-exit _ c.from_residual-in_err-_bit_rate.result c.from_residual-in_err-_bit_rate.ensures.1 c.in_err-_bit_rate.ensures.answers)))))

pub returns-in_err-_marker : goal.returns-in_err-_marker
returns-in_err-_marker g c =
    let on = g.met.S.Source.keeps_on in
    answers-bind on _ (c.in_ok-_profile.ensures.answers _ (refl, (λ v lt. only-range 72 v), tt))
    (answers-bind on _ (c.in_ok-progressive.ensures _ (
      sym (ap refusal_of c.limits_behind-repeated.ensures.progressive.0),
      λ is_set.
          c.limits_behind-repeated.ensures.progressive.1 (flag is_set) (flag-small is_set),
    ))
    (answers-bind on _ (c.in_ok-_chroma.ensures.answers _ (refl, (λ v lt. only-range 1 v), tt))
    (answers-bind on _ (c.in_ok-_width.ensures.answers _ (refl, (λ v lt. only-range 0 v), tt))
    (answers-bind on _ (c.in_ok-_height.ensures.answers _ (refl, (λ v lt. only-range 0 v), tt))
    (answers-bind on _ c.in_ok-_bit_rate.ensures.answers
    (answers-exit _ c.from_residual-in_err-_marker.result c.from_residual-in_err-_marker.ensures.1 (c.in_err-_marker.ensures.answers _ (refl, (λ v lt. only-range 1 v), tt))))))))

pub returns-in_err-_vbv : goal.returns-in_err-_vbv
returns-in_err-_vbv g c =
    let on = g.met.S.Source.keeps_on in
    answers-bind on _ (c.in_ok-_profile.ensures.answers _ (refl, (λ v lt. only-range 72 v), tt))
    (answers-bind on _ (c.in_ok-progressive.ensures _ (
      sym (ap refusal_of c.limits_behind-repeated.ensures.progressive.0),
      λ is_set.
          c.limits_behind-repeated.ensures.progressive.1 (flag is_set) (flag-small is_set),
    ))
    (answers-bind on _ (c.in_ok-_chroma.ensures.answers _ (refl, (λ v lt. only-range 1 v), tt))
    (answers-bind on _ (c.in_ok-_width.ensures.answers _ (refl, (λ v lt. only-range 0 v), tt))
    (answers-bind on _ (c.in_ok-_height.ensures.answers _ (refl, (λ v lt. only-range 0 v), tt))
    (answers-bind on _ c.in_ok-_bit_rate.ensures.answers
    (answers-bind on _ (c.in_ok-_marker.ensures.answers _ (refl, (λ v lt. only-range 1 v), tt))
    (answers-exit _ c.from_residual-in_err-_vbv.result c.from_residual-in_err-_vbv.ensures.1 (c.in_err-_vbv.ensures.answers _ (refl, (λ v lt. only-range 0 v), tt)))))))))

pub returns-in_err-_low_delay : goal.returns-in_err-_low_delay
returns-in_err-_low_delay g c =
    let on = g.met.S.Source.keeps_on in
    answers-bind on _ (c.in_ok-_profile.ensures.answers _ (refl, (λ v lt. only-range 72 v), tt))
    (answers-bind on _ (c.in_ok-progressive.ensures _ (
      sym (ap refusal_of c.limits_behind-repeated.ensures.progressive.0),
      λ is_set.
          c.limits_behind-repeated.ensures.progressive.1 (flag is_set) (flag-small is_set),
    ))
    (answers-bind on _ (c.in_ok-_chroma.ensures.answers _ (refl, (λ v lt. only-range 1 v), tt))
    (answers-bind on _ (c.in_ok-_width.ensures.answers _ (refl, (λ v lt. only-range 0 v), tt))
    (answers-bind on _ (c.in_ok-_height.ensures.answers _ (refl, (λ v lt. only-range 0 v), tt))
    (answers-bind on _ c.in_ok-_bit_rate.ensures.answers
    (answers-bind on _ (c.in_ok-_marker.ensures.answers _ (refl, (λ v lt. only-range 1 v), tt))
    (answers-bind on _ (c.in_ok-_vbv.ensures.answers _ (refl, (λ v lt. only-range 0 v), tt))
    (answers-exit _ c.from_residual-in_err-_low_delay.result c.from_residual-in_err-_low_delay.ensures.1 (c.in_err-_low_delay.ensures _ (refl, unset-flag))))))))))

pub returns-in_err-_rate_n : goal.returns-in_err-_rate_n
returns-in_err-_rate_n g c =
    let on = g.met.S.Source.keeps_on in
    answers-bind on _ (c.in_ok-_profile.ensures.answers _ (refl, (λ v lt. only-range 72 v), tt))
    (answers-bind on _ (c.in_ok-progressive.ensures _ (
      sym (ap refusal_of c.limits_behind-repeated.ensures.progressive.0),
      λ is_set.
          c.limits_behind-repeated.ensures.progressive.1 (flag is_set) (flag-small is_set),
    ))
    (answers-bind on _ (c.in_ok-_chroma.ensures.answers _ (refl, (λ v lt. only-range 1 v), tt))
    (answers-bind on _ (c.in_ok-_width.ensures.answers _ (refl, (λ v lt. only-range 0 v), tt))
    (answers-bind on _ (c.in_ok-_height.ensures.answers _ (refl, (λ v lt. only-range 0 v), tt))
    (answers-bind on _ c.in_ok-_bit_rate.ensures.answers
    (answers-bind on _ (c.in_ok-_marker.ensures.answers _ (refl, (λ v lt. only-range 1 v), tt))
    (answers-bind on _ (c.in_ok-_vbv.ensures.answers _ (refl, (λ v lt. only-range 0 v), tt))
    (answers-bind on _ (c.in_ok-_low_delay.ensures _ (refl, unset-flag))
    (answers-exit _ c.from_residual-in_err-_rate_n.result c.from_residual-in_err-_rate_n.ensures.1 c.in_err-_rate_n.ensures.answers)))))))))

pub returns-in_err-_rate_d : goal.returns-in_err-_rate_d
returns-in_err-_rate_d g c =
    let on = g.met.S.Source.keeps_on in
    answers-bind on _ (c.in_ok-_profile.ensures.answers _ (refl, (λ v lt. only-range 72 v), tt))
    (answers-bind on _ (c.in_ok-progressive.ensures _ (
      sym (ap refusal_of c.limits_behind-repeated.ensures.progressive.0),
      λ is_set.
          c.limits_behind-repeated.ensures.progressive.1 (flag is_set) (flag-small is_set),
    ))
    (answers-bind on _ (c.in_ok-_chroma.ensures.answers _ (refl, (λ v lt. only-range 1 v), tt))
    (answers-bind on _ (c.in_ok-_width.ensures.answers _ (refl, (λ v lt. only-range 0 v), tt))
    (answers-bind on _ (c.in_ok-_height.ensures.answers _ (refl, (λ v lt. only-range 0 v), tt))
    (answers-bind on _ c.in_ok-_bit_rate.ensures.answers
    (answers-bind on _ (c.in_ok-_marker.ensures.answers _ (refl, (λ v lt. only-range 1 v), tt))
    (answers-bind on _ (c.in_ok-_vbv.ensures.answers _ (refl, (λ v lt. only-range 0 v), tt))
    (answers-bind on _ (c.in_ok-_low_delay.ensures _ (refl, unset-flag))
    (answers-bind on _ c.in_ok-_rate_n.ensures.answers
    (answers-exit _ c.from_residual-in_err-_rate_d.result c.from_residual-in_err-_rate_d.ensures.1 c.in_err-_rate_d.ensures.answers))))))))))

pub returns : goal.returns
returns g c =
    let on = g.met.S.Source.keeps_on in
    answers-bind on _ (c.in_ok-_profile.ensures.answers _ (refl, (λ v lt. only-range 72 v), tt))
    (answers-bind on _ (c.in_ok-progressive.ensures _ (
      sym (ap refusal_of c.limits_behind-repeated.ensures.progressive.0),
      λ is_set.
          c.limits_behind-repeated.ensures.progressive.1 (flag is_set) (flag-small is_set),
    ))
    (answers-bind on _ (c.in_ok-_chroma.ensures.answers _ (refl, (λ v lt. only-range 1 v), tt))
    (answers-bind on _ (c.in_ok-_width.ensures.answers _ (refl, (λ v lt. only-range 0 v), tt))
    (answers-bind on _ (c.in_ok-_height.ensures.answers _ (refl, (λ v lt. only-range 0 v), tt))
    (answers-bind on _ c.in_ok-_bit_rate.ensures.answers
    (answers-bind on _ (c.in_ok-_marker.ensures.answers _ (refl, (λ v lt. only-range 1 v), tt))
    (answers-bind on _ (c.in_ok-_vbv.ensures.answers _ (refl, (λ v lt. only-range 0 v), tt))
    (answers-bind on _ (c.in_ok-_low_delay.ensures _ (refl, unset-flag))
    (answers-bind on _ c.in_ok-_rate_n.ensures.answers
    (answers-bind on _ c.in_ok-_rate_d.ensures.answers
    (answers-done _ _ _ g.met.S.Source.keeps_itself refl)))))))))))

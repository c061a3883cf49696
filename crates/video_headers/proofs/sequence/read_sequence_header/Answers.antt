use Rattle.std.proofs.Common.{refl, sym, ap, arith, ◌∙◌}
use Rattle.video_headers.proofs.Reading.{answers-bind, answers-exit, answers-done}
use Rattle.video_headers.proofs.Rules.{only-range}
use Rattle.std.specs.Option.{option_map}
use Rattle.picture_grammar.specs.Headers.{matrix_or}
use Rattle.video_headers.specs.Private.Why.{refusal_of}
use Rattle.video_headers.proofs.Rules.{header-value}
use Rattle.video_headers.proofs.sequence.read_sequence_header.Goals as goal

pub returns-in_err-width : goal.returns-in_err-width
returns-in_err-width g c =
    let on = g.met.S.Source.keeps_on in
    answers-exit _ c.from_residual.result c.from_residual.ensures.1
    (c.in_err-width.ensures.answers _ (
      refl,
      (λ v lt. refl),
      (sym (ap refusal_of c.limits_behind-repeated.ensures.width.0), (λ v lt. c.limits_behind-repeated.ensures.width.1 v (omega (arith, lt))), tt),
    ))

pub returns-in_err-height : goal.returns-in_err-height
returns-in_err-height g c =
    let on = g.met.S.Source.keeps_on in
    answers-bind on _ (c.in_ok-width.ensures.answers _ (
      refl,
      (λ v lt. refl),
      (sym (ap refusal_of c.limits_behind-repeated.ensures.width.0), (λ v lt. c.limits_behind-repeated.ensures.width.1 v (omega (arith, lt))), tt),
    ))
    (answers-exit _ c.from_residual-in_err-height.result c.from_residual-in_err-height.ensures.1
    (c.in_err-height.ensures.answers _ (
      refl,
      (λ v lt. refl),
      (
        sym (ap refusal_of c.limits_behind-repeated.ensures.height.0),
        (λ v lt. c.limits_behind-repeated.ensures.height.1 v (omega (arith, lt))),
        tt,
      ),
    )))

pub returns-in_err-_aspect_ratio : goal.returns-in_err-_aspect_ratio
returns-in_err-_aspect_ratio g c =
    let on = g.met.S.Source.keeps_on in
    answers-bind on _ (c.in_ok-width.ensures.answers _ (
      refl,
      (λ v lt. refl),
      (sym (ap refusal_of c.limits_behind-repeated.ensures.width.0), (λ v lt. c.limits_behind-repeated.ensures.width.1 v (omega (arith, lt))), tt),
    ))
    (answers-bind on _ (c.in_ok-height.ensures.answers _ (
      refl,
      (λ v lt. refl),
      (
        sym (ap refusal_of c.limits_behind-repeated.ensures.height.0),
        (λ v lt. c.limits_behind-repeated.ensures.height.1 v (omega (arith, lt))),
        tt,
      ),
    ))
    (answers-exit _ c.from_residual-in_err-_aspect_ratio.result c.from_residual-in_err-_aspect_ratio.ensures.1 c.in_err-_aspect_ratio.ensures.answers))

pub returns-in_err-rate_code : goal.returns-in_err-rate_code
returns-in_err-rate_code g c =
    let on = g.met.S.Source.keeps_on in
    answers-bind on _ (c.in_ok-width.ensures.answers _ (
      refl,
      (λ v lt. refl),
      (sym (ap refusal_of c.limits_behind-repeated.ensures.width.0), (λ v lt. c.limits_behind-repeated.ensures.width.1 v (omega (arith, lt))), tt),
    ))
    (answers-bind on _ (c.in_ok-height.ensures.answers _ (
      refl,
      (λ v lt. refl),
      (
        sym (ap refusal_of c.limits_behind-repeated.ensures.height.0),
        (λ v lt. c.limits_behind-repeated.ensures.height.1 v (omega (arith, lt))),
        tt,
      ),
    ))
    (answers-bind on _ c.in_ok-_aspect_ratio.ensures.answers
    (answers-exit _ c.from_residual-in_err-rate_code.result c.from_residual-in_err-rate_code.ensures.1
    (c.in_err-rate_code.ensures.answers _ (
      refl,
      (λ v lt. refl),
      (
        sym (ap refusal_of c.limits_behind-repeated.ensures.rate_code.0),
        (λ v lt. c.limits_behind-repeated.ensures.rate_code.1 v (omega (arith, lt))),
        tt,
      ),
    )))))

pub returns-in_err-_bit_rate : goal.returns-in_err-_bit_rate
returns-in_err-_bit_rate g c =
    let on = g.met.S.Source.keeps_on in
    answers-bind on _ (c.in_ok-width.ensures.answers _ (
      refl,
      (λ v lt. refl),
      (sym (ap refusal_of c.limits_behind-repeated.ensures.width.0), (λ v lt. c.limits_behind-repeated.ensures.width.1 v (omega (arith, lt))), tt),
    ))
    (answers-bind on _ (c.in_ok-height.ensures.answers _ (
      refl,
      (λ v lt. refl),
      (
        sym (ap refusal_of c.limits_behind-repeated.ensures.height.0),
        (λ v lt. c.limits_behind-repeated.ensures.height.1 v (omega (arith, lt))),
        tt,
      ),
    ))
    (answers-bind on _ c.in_ok-_aspect_ratio.ensures.answers
    (answers-bind on _ (c.in_ok-rate_code.ensures.answers _ (
      refl,
      (λ v lt. refl),
      (
        sym (ap refusal_of c.limits_behind-repeated.ensures.rate_code.0),
        (λ v lt. c.limits_behind-repeated.ensures.rate_code.1 v (omega (arith, lt))),
        tt,
      ),
    ))
    (answers-exit _ c.from_residual-in_err-_bit_rate.result c.from_residual-in_err-_bit_rate.ensures.1 c.in_err-_bit_rate.ensures.answers))))

pub returns-in_err-_marker : goal.returns-in_err-_marker
returns-in_err-_marker g c =
    let on = g.met.S.Source.keeps_on in
    answers-bind on _ (c.in_ok-width.ensures.answers _ (
      refl,
      (λ v lt. refl),
      (sym (ap refusal_of c.limits_behind-repeated.ensures.width.0), (λ v lt. c.limits_behind-repeated.ensures.width.1 v (omega (arith, lt))), tt),
    ))
    (answers-bind on _ (c.in_ok-height.ensures.answers _ (
      refl,
      (λ v lt. refl),
      (
        sym (ap refusal_of c.limits_behind-repeated.ensures.height.0),
        (λ v lt. c.limits_behind-repeated.ensures.height.1 v (omega (arith, lt))),
        tt,
      ),
    ))
    (answers-bind on _ c.in_ok-_aspect_ratio.ensures.answers
    (answers-bind on _ (c.in_ok-rate_code.ensures.answers _ (
      refl,
      (λ v lt. refl),
      (
        sym (ap refusal_of c.limits_behind-repeated.ensures.rate_code.0),
        (λ v lt. c.limits_behind-repeated.ensures.rate_code.1 v (omega (arith, lt))),
        tt,
      ),
    ))
    (answers-bind on _ c.in_ok-_bit_rate.ensures.answers
    (answers-exit _ c.from_residual-in_err-_marker.result c.from_residual-in_err-_marker.ensures.1 (c.in_err-_marker.ensures.answers _ (refl, (λ v lt. only-range 1 v), tt)))))))

pub returns-in_err-vbv : goal.returns-in_err-vbv
returns-in_err-vbv g c =
    let on = g.met.S.Source.keeps_on in
    answers-bind on _ (c.in_ok-width.ensures.answers _ (
      refl,
      (λ v lt. refl),
      (sym (ap refusal_of c.limits_behind-repeated.ensures.width.0), (λ v lt. c.limits_behind-repeated.ensures.width.1 v (omega (arith, lt))), tt),
    ))
    (answers-bind on _ (c.in_ok-height.ensures.answers _ (
      refl,
      (λ v lt. refl),
      (
        sym (ap refusal_of c.limits_behind-repeated.ensures.height.0),
        (λ v lt. c.limits_behind-repeated.ensures.height.1 v (omega (arith, lt))),
        tt,
      ),
    ))
    (answers-bind on _ c.in_ok-_aspect_ratio.ensures.answers
    (answers-bind on _ (c.in_ok-rate_code.ensures.answers _ (
      refl,
      (λ v lt. refl),
      (
        sym (ap refusal_of c.limits_behind-repeated.ensures.rate_code.0),
        (λ v lt. c.limits_behind-repeated.ensures.rate_code.1 v (omega (arith, lt))),
        tt,
      ),
    ))
    (answers-bind on _ c.in_ok-_bit_rate.ensures.answers
    (answers-bind on _ (c.in_ok-_marker.ensures.answers _ (refl, (λ v lt. only-range 1 v), tt))
    (answers-exit _ c.from_residual-in_err-vbv.result c.from_residual-in_err-vbv.ensures.1
    (c.in_err-vbv.ensures.answers _ (
      refl,
      (λ v lt. refl),
      (
        sym (ap refusal_of c.limits_behind-repeated.ensures.vbv.0),
        (λ v lt. c.limits_behind-repeated.ensures.vbv.1 v (omega (arith, lt))),
        tt,
      ),
    ))))))))

pub returns-in_err-_constrained : goal.returns-in_err-_constrained
returns-in_err-_constrained g c =
    let on = g.met.S.Source.keeps_on in
    answers-bind on _ (c.in_ok-width.ensures.answers _ (
      refl,
      (λ v lt. refl),
      (sym (ap refusal_of c.limits_behind-repeated.ensures.width.0), (λ v lt. c.limits_behind-repeated.ensures.width.1 v (omega (arith, lt))), tt),
    ))
    (answers-bind on _ (c.in_ok-height.ensures.answers _ (
      refl,
      (λ v lt. refl),
      (
        sym (ap refusal_of c.limits_behind-repeated.ensures.height.0),
        (λ v lt. c.limits_behind-repeated.ensures.height.1 v (omega (arith, lt))),
        tt,
      ),
    ))
    (answers-bind on _ c.in_ok-_aspect_ratio.ensures.answers
    (answers-bind on _ (c.in_ok-rate_code.ensures.answers _ (
      refl,
      (λ v lt. refl),
      (
        sym (ap refusal_of c.limits_behind-repeated.ensures.rate_code.0),
        (λ v lt. c.limits_behind-repeated.ensures.rate_code.1 v (omega (arith, lt))),
        tt,
      ),
    ))
    (answers-bind on _ c.in_ok-_bit_rate.ensures.answers
    (answers-bind on _ (c.in_ok-_marker.ensures.answers _ (refl, (λ v lt. only-range 1 v), tt))
    (answers-bind on _ (c.in_ok-vbv.ensures.answers _ (
      refl,
      (λ v lt. refl),
      (sym (ap refusal_of c.limits_behind-repeated.ensures.vbv.0), (λ v lt. c.limits_behind-repeated.ensures.vbv.1 v (omega (arith, lt))), tt),
    ))
    (answers-exit _ c.from_residual-in_err-_constrained.result c.from_residual-in_err-_constrained.ensures.1 c.in_err-_constrained.ensures)))))))

pub returns-in_err-loaded_intra : goal.returns-in_err-loaded_intra
returns-in_err-loaded_intra g c =
    let on = g.met.S.Source.keeps_on in
    answers-bind on _ (c.in_ok-width.ensures.answers _ (
      refl,
      (λ v lt. refl),
      (sym (ap refusal_of c.limits_behind-repeated.ensures.width.0), (λ v lt. c.limits_behind-repeated.ensures.width.1 v (omega (arith, lt))), tt),
    ))
    (answers-bind on _ (c.in_ok-height.ensures.answers _ (
      refl,
      (λ v lt. refl),
      (
        sym (ap refusal_of c.limits_behind-repeated.ensures.height.0),
        (λ v lt. c.limits_behind-repeated.ensures.height.1 v (omega (arith, lt))),
        tt,
      ),
    ))
    (answers-bind on _ c.in_ok-_aspect_ratio.ensures.answers
    (answers-bind on _ (c.in_ok-rate_code.ensures.answers _ (
      refl,
      (λ v lt. refl),
      (
        sym (ap refusal_of c.limits_behind-repeated.ensures.rate_code.0),
        (λ v lt. c.limits_behind-repeated.ensures.rate_code.1 v (omega (arith, lt))),
        tt,
      ),
    ))
    (answers-bind on _ c.in_ok-_bit_rate.ensures.answers
    (answers-bind on _ (c.in_ok-_marker.ensures.answers _ (refl, (λ v lt. only-range 1 v), tt))
    (answers-bind on _ (c.in_ok-vbv.ensures.answers _ (
      refl,
      (λ v lt. refl),
      (sym (ap refusal_of c.limits_behind-repeated.ensures.vbv.0), (λ v lt. c.limits_behind-repeated.ensures.vbv.1 v (omega (arith, lt))), tt),
    ))
    (answers-bind on _ c.in_ok-_constrained.ensures
    (answers-exit _ c.from_residual-in_err-loaded_intra.result c.from_residual-in_err-loaded_intra.ensures.1 c.in_err-loaded_intra.ensures.answers))))))))

pub returns-in_err-loaded_non_intra : goal.returns-in_err-loaded_non_intra
returns-in_err-loaded_non_intra g c =
    let on = g.met.S.Source.keeps_on in
    answers-bind on _ (c.in_ok-width.ensures.answers _ (
      refl,
      (λ v lt. refl),
      (sym (ap refusal_of c.limits_behind-repeated.ensures.width.0), (λ v lt. c.limits_behind-repeated.ensures.width.1 v (omega (arith, lt))), tt),
    ))
    (answers-bind on _ (c.in_ok-height.ensures.answers _ (
      refl,
      (λ v lt. refl),
      (
        sym (ap refusal_of c.limits_behind-repeated.ensures.height.0),
        (λ v lt. c.limits_behind-repeated.ensures.height.1 v (omega (arith, lt))),
        tt,
      ),
    ))
    (answers-bind on _ c.in_ok-_aspect_ratio.ensures.answers
    (answers-bind on _ (c.in_ok-rate_code.ensures.answers _ (
      refl,
      (λ v lt. refl),
      (
        sym (ap refusal_of c.limits_behind-repeated.ensures.rate_code.0),
        (λ v lt. c.limits_behind-repeated.ensures.rate_code.1 v (omega (arith, lt))),
        tt,
      ),
    ))
    (answers-bind on _ c.in_ok-_bit_rate.ensures.answers
    (answers-bind on _ (c.in_ok-_marker.ensures.answers _ (refl, (λ v lt. only-range 1 v), tt))
    (answers-bind on _ (c.in_ok-vbv.ensures.answers _ (
      refl,
      (λ v lt. refl),
      (sym (ap refusal_of c.limits_behind-repeated.ensures.vbv.0), (λ v lt. c.limits_behind-repeated.ensures.vbv.1 v (omega (arith, lt))), tt),
    ))
    (answers-bind on _ c.in_ok-_constrained.ensures
    (answers-bind on _ c.in_ok-loaded_intra.ensures.answers
    (answers-exit _ c.from_residual-in_err-loaded_non_intra.result c.from_residual-in_err-loaded_non_intra.ensures.1 c.in_err-loaded_non_intra.ensures.answers)))))))))

pub returns : goal.returns
returns g c =
    let on = g.met.S.Source.keeps_on in
    answers-bind on _ (c.in_ok-width.ensures.answers _ (
      refl,
      (λ v lt. refl),
      (sym (ap refusal_of c.limits_behind-repeated.ensures.width.0), (λ v lt. c.limits_behind-repeated.ensures.width.1 v (omega (arith, lt))), tt),
    ))
    (answers-bind on _ (c.in_ok-height.ensures.answers _ (
      refl,
      (λ v lt. refl),
      (
        sym (ap refusal_of c.limits_behind-repeated.ensures.height.0),
        (λ v lt. c.limits_behind-repeated.ensures.height.1 v (omega (arith, lt))),
        tt,
      ),
    ))
    (answers-bind on _ c.in_ok-_aspect_ratio.ensures.answers
    (answers-bind on _ (c.in_ok-rate_code.ensures.answers _ (
      refl,
      (λ v lt. refl),
      (
        sym (ap refusal_of c.limits_behind-repeated.ensures.rate_code.0),
        (λ v lt. c.limits_behind-repeated.ensures.rate_code.1 v (omega (arith, lt))),
        tt,
      ),
    ))
    (answers-bind on _ c.in_ok-_bit_rate.ensures.answers
    (answers-bind on _ (c.in_ok-_marker.ensures.answers _ (refl, (λ v lt. only-range 1 v), tt))
    (answers-bind on _ (c.in_ok-vbv.ensures.answers _ (
      refl,
      (λ v lt. refl),
      (sym (ap refusal_of c.limits_behind-repeated.ensures.vbv.0), (λ v lt. c.limits_behind-repeated.ensures.vbv.1 v (omega (arith, lt))), tt),
    ))
    (answers-bind on _ c.in_ok-_constrained.ensures
    (answers-bind on _ c.in_ok-loaded_intra.ensures.answers
    (answers-bind on _ c.in_ok-loaded_non_intra.ensures.answers
    (answers-done _ _ _ g.met.S.Source.keeps_itself (header-value _ _ _ _ _ _ _ _ _
    (c.matrix_or-intra.ensures ∙ ap (matrix_or (option_map (λ w. w.items) c.in_ok-loaded_intra.loaded_intra))
    c.default_matrix-default_intra.ensures) (c.matrix_or-non_intra.ensures
    ∙ ap (matrix_or (option_map (λ w. w.items) c.in_ok-loaded_non_intra.loaded_non_intra)) c.default_matrix-default_non_intra.ensures))))))))))))

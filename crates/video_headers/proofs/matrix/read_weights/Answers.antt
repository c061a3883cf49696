use Rattle.std.proofs.Common.{refl, [], ◌∷◌, length, ap, arith}
use Rattle.picture_grammar.specs.Refusal.Refusal.{BadHeader}
use Rattle.picture_grammar.specs.Element.{uimsbf, rule}
use Rattle.picture_grammar.specs.Headers.{is_not_zero}
use Rattle.std.proofs.lemmas.List.{length-append}
use Rattle.video_headers.proofs.Repeats.{answers-more, answers-no_more, answers-pushed, answers-all, repeats-none}
use Rattle.video_headers.proofs.Rules.{some-range}
use Rattle.video_headers.proofs.matrix.read_weights.Goals as goal

pub loop-init : goal.loop-init
loop-init g c = record {
  so_far = repeats-none _ _ _ g.met.S.Source.keeps_itself c.new-weights.ensures;
  count = ap length c.new-weights.ensures;
}

pub returns-in_err-weight-clause-answers : goal.returns-in_err-weight-clause-answers
returns-in_err-weight-clause-answers g c =
    answers-no_more (uimsbf 8 (rule BadHeader is_not_zero ∷ [])) g.met.S.Source.keeps_on c.loop.weights.items 64
    (omega (arith, c.loop.invariant.count)) c.from_residual.result c.from_residual.ensures.1
    c.loop.invariant.so_far (c.in_err-weight.ensures.answers _ (refl, (λ v lt. some-range 255 v (omega (arith, lt))), tt))

pub loop-preserved : goal.loop-preserved
loop-preserved g c = record {
  so_far = answers-pushed _ c.loop.weights.items c.push.new.self.items c.in_ok-weight.weight c.push.ensures.items
      (answers-more _ g.met.S.Source.keeps_on c.loop.weights.items c.in_ok-weight.weight c.loop.invariant.so_far
      (c.in_ok-weight.ensures.answers _ (refl, (λ v lt. some-range 255 v (omega (arith, lt))), tt)));
  count = omega (arith, ap length c.push.ensures.items, length-append c.loop.weights.items (c.in_ok-weight.weight ∷ []), c.loop.invariant.count);
}

pub returns-clause-answers : goal.returns-clause-answers
returns-clause-answers g c = answers-all (uimsbf 8 (rule BadHeader is_not_zero ∷ [])) c.loop.weights.items 64 c.loop.weights (omega (arith, c.loop.invariant.count)) refl c.loop.invariant.so_far

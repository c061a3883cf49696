use Rattle.std.proofs.Common.{◌≡◌, ℕ, [], ◌∷◌, List, length, Ok}
use Rattle.picture_grammar.specs.Refusal.Refusal.{BadHeader}
use Rattle.picture_grammar.specs.Grammar.{repeated}
use Rattle.picture_grammar.specs.Element.{uimsbf, rule}
use Rattle.picture_grammar.specs.Headers.{is_not_zero}
use Rattle.video_headers.specs.Private.Reading.{Answers, Rests}
use Rattle.video_headers.proofs.matrix.read_weights.Given as goal

abbrev pub invariant-loop : goal.invariant-loop
invariant-loop g l = record {
  so_far : Answers (repeated (length l.weights.items) (uimsbf 8 (rule BadHeader is_not_zero ∷ []))) (λ (x : List ℕ). x) (Ok l.weights.items)
      (Rests l.fn.reader) (λ _. Rests l.reader) l.fn.reader l.reader;
  count : length l.weights.items ≡ l.counter;
}

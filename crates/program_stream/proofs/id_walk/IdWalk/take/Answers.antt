use Rattle.std.proofs.Common.{◌≡◌, List, get_or, ap, ◌∙◌, ℕ}
use Rattle.std.proofs.lemmas.Result.{on_ok_weaker}
use Rattle.program_stream.specs.Private.Walks.{with_id}
use Rattle.program_stream.proofs.IdSteps.{ids_with}
use Rattle.program_stream.proofs.id_walk.IdWalk.take.Goals as goal

pub returns : goal.returns
returns c elements element has bytes_are =
    let same : c.from.result ≡ element.id = c.from.ensures ∙ ap (λ (xs : List ℕ). get_or xs 3 0) bytes_are in
    on_ok_weaker c.add.result
    (λ added. ids_with elements element c.args.self.now.ids c.add.new.self.ids has (added ∙ ap (with_id c.args.self.now.ids) same)) c.add.ensures

use Rattle.std.proofs.Common.{◌∙◌, List, ℕ, sym, subst}
use Rattle.es_window.specs.PassingBytes.{HasRead}
use Rattle.es_window_tests.proofs.Streams.{one_distinct}
use Rattle.es_window_tests.proofs.bytes_tests.part_out_of.Goals as goal

pub read_to-requires-clause-distinct : goal.read_to-requires-clause-distinct
read_to-requires-clause-distinct g c = one_distinct _ c.stream_of.result.pid c.in_ok-bytes.ensures.streams.0

pub read_to-requires-clause-read : goal.read_to-requires-clause-read
read_to-requires-clause-read g c =
    let left = g.S.Source.left c.args.source.now in
    let most = g.S.Source.most c.args.source.now in (
      left,
      most,
      subst (λ (held : List ℕ). HasRead left left most most held c.in_ok-bytes.bytes) (sym c.new-buffer.ensures)
          (c.in_ok-bytes.ensures.read left most (g.met.S.Source.most_fits c.args.source.now)),
    )

pub read_to-requires-2-clause-distinct : goal.read_to-requires-2-clause-distinct
read_to-requires-2-clause-distinct g c =
    one_distinct _ c.stream_of.result.pid (c.pass.ensures.same.0 ∙ c.in_ok-read_to.ensures.same.0 ∙ c.in_ok-bytes.ensures.streams.0)

pub read_to-requires-2-clause-read : goal.read_to-requires-2-clause-read
read_to-requires-2-clause-read g c =
    let left = g.S.Source.left c.args.source.now in
    let most = g.S.Source.most c.args.source.now in
    let first = subst (λ (held : List ℕ). HasRead left left most most held c.in_ok-bytes.bytes) (sym c.new-buffer.ensures)
    (c.in_ok-bytes.ensures.read left most (g.met.S.Source.most_fits c.args.source.now)) in (
      left,
      most,
      c.pass.ensures.read left (g.S.Source.left c.read_to.new.source) most (g.S.Source.most c.read_to.new.source) c.read_to.new.buffer (c.in_ok-read_to.ensures.read left most first),
    )

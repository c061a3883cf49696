use Rattle.std.proofs.Common.{ℕ, ◌<◌, ◌++◌, List, length, get_or, take, sym, ap, subst, ◌∙◌, arith, length-append}
use Rattle.std.specs.List.{flat_map}
use Rattle.std.proofs.lemmas.List.{flat_map_more, take_more}
use Rattle.std.proofs.lemmas.List.Folds.{length-flat_map-take}
use Rattle.std.proofs.lemmas.List.Elements.{All-more}
use Rattle.psi_tables.specs.declared.stream.Stream.{Stream}
use Rattle.psi_tables.specs.Streams.{written_stream}
use Rattle.psi_tables.proofs.streams.put_streams.Goals as goal

pub put_stream-requires-clause-room : goal.put_stream-requires-clause-room
put_stream-requires-clause-room c =
    let streams : List Stream = c.args.streams.now in
    let n : ℕ = c.loop-stream.stream-index in
    let stream : Stream = c.stream-item.result in
    omega (
      arith,
      c.requires.room,
      ap length c.loop-stream.invariant.bytes,
      length-append c.args.into.now.items (flat_map written_stream (take n streams)),
      length-flat_map-take written_stream streams n stream c.loop-stream-test.true,
      ap (λ (s : Stream). length (written_stream s)) c.stream-item.is,
    )

pub loop-stream-preserved : goal.loop-stream-preserved
loop-stream-preserved c =
    let streams : List Stream = c.args.streams.now in
    let n : ℕ = c.loop-stream.stream-index in
    let stream : Stream = c.stream-item.result in
    record {
      bytes =
          c.put_stream.ensures.bytes
          ∙ ap (λ (bytes : List ℕ). bytes ++ written_stream stream) c.loop-stream.invariant.bytes
          ∙ ap (λ (s : Stream). c.args.into.now.items ++ flat_map written_stream (take n streams) ++ written_stream s) c.stream-item.is
          ∙ flat_map_more written_stream c.args.into.now.items (take n streams) (get_or streams n stream)
          ∙ ap (λ (front : List Stream). c.args.into.now.items ++ flat_map written_stream front) (sym (take_more streams n stream c.loop-stream-test.true));
      kinds = All-more (λ (s : Stream). s.kind < 256) streams n stream c.loop-stream-test.true c.loop-stream.invariant.kinds
          (subst (λ (s : Stream). s.kind < 256) c.stream-item.is c.put_stream.ensures.kind);
    }

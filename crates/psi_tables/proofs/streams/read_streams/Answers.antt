use Rattle.std.proofs.Common.{◌≡◌, ◌≢◌, ◌+◌, ◌<◌, ◌++◌, ◌∷◌, [], All, List, ℕ, Some, length, length-append, map, refl, sym, ap, ap₂, subst, ◌∙◌, arith}
use Rattle.std.specs.List.{sum_by}
use Rattle.std.proofs.lemmas.Bool.{eqb-true, eqb-false}
use Rattle.std.proofs.lemmas.List.{length-map}
use Rattle.psi_tables.specs.declared.stream.Stream.{Stream}
use Rattle.psi_tables.specs.Descriptors.{count_dropped}
use Rattle.psi_tables.specs.Streams.{StreamInfo, IsStreamInfo, stream_of}
use Rattle.psi_tables.specs.Private.Streams.{IsKeepable}
use Rattle.psi_tables.proofs.Rows.{not_empty, empty, one_row}
use Rattle.psi_tables.proofs.StreamRows.{HasReadStreams, streams_told, streams_more, next_info, next_info_of, keepable_at, same_pair}
use Rattle.psi_tables.proofs.streams.read_streams.Goals as goal

pub returns-in_err-info-clause-exact : goal.returns-in_err-info-clause-exact
returns-in_err-info-clause-exact c = λ infos row few keeps.
    let read = c.loop-rest.invariant in
    let next = next_info c.args.bytes.now c.loop-rest.rest.now read.done infos read.under_way row
    (not_empty c.is_empty.result (length c.loop-rest.rest.now) c.is_empty.ensures c.loop-rest-test.true) in
    absurd (c.in_err-info.ensures next.0 next.1 next.2 next.4.size)

pub returns-in_err-stream-clause-exact : goal.returns-in_err-stream-clause-exact
returns-in_err-stream-clause-exact c = λ infos row few keeps.
    let read = c.loop-rest.invariant in
    let split = c.in_ok-info.ensures in
    let next = next_info_of c.args.bytes.now c.loop-rest.rest.now c.in_ok-info.info.now c.in_ok-info.after.now read.done infos read.under_way row split.1 split.0 in
    let info : StreamInfo = next.0 in
    let none = c.in_err-stream.ensures.exact info next.1 (keepable_at read.done next.2 info (subst (All IsKeepable) next.3 keeps)) in
    absurd (cc none)

pub returns-then-is_full-clause-exact : goal.returns-then-is_full-clause-exact
returns-then-is_full-clause-exact c = λ infos row few keeps.
    let read = c.loop-rest.invariant in
    let split = c.in_ok-info.ensures in
    let next = next_info_of c.args.bytes.now c.loop-rest.rest.now c.in_ok-info.info.now c.in_ok-info.after.now read.done infos read.under_way row split.1 split.0 in
    let full : length c.loop-rest.streams.items ≡ 64 = eqb-true (length c.loop-rest.streams.items) 64 (sym c.is_full.ensures.value ∙ c.if-is_full.true) in
    absurd (omega (arith, full, few, ap length next.3, length-append read.done (next.0 ∷ next.2), ap length read.streams_are, length-map read.done stream_of))

pub loop-rest-preserved : goal.loop-rest-preserved
loop-rest-preserved c =
    let split = c.in_ok-info.ensures in
    let bytes : List ℕ = c.args.bytes.now in
    let streams : List Stream = c.loop-rest.streams.items in
    let dropped : ℕ = c.loop-rest.dropped in
    let after : List ℕ = c.in_ok-info.after.now in
    let found = c.in_ok-stream.ensures.some refl in
    let info : StreamInfo = found.0 in
    let parts = same_pair c.in_ok-stream.stream (stream_of info) c.in_ok-stream.more (count_dropped info.descriptors) (c.in_ok-stream.ensures.exact info found.1 found.2) in
    let other : length streams ≢ 64 = eqb-false (length streams) 64 (sym c.is_full.ensures.value ∙ c.if-is_full.false) in
    let room : length streams < 64 = omega (arith, c.is_full.ensures.fits) in
    let read = streams_more bytes c.loop-rest.rest.now streams dropped c.in_ok-info.info.now after info c.loop-rest.invariant split.1 found.1 found.2 room in
    let pushed : c.push.new.self.items ≡ streams ++ stream_of info ∷ [] = c.push.ensures.items ∙ ap (λ (s : Stream). streams ++ s ∷ []) parts.0 in
    subst (λ (xs : List Stream). HasReadStreams bytes after xs (dropped + c.in_ok-stream.more)) (sym pushed)
    (subst (λ (n : ℕ). HasReadStreams bytes after (streams ++ stream_of info ∷ []) (dropped + n)) (sym parts.1) read)

pub overflow_add-dropped : goal.overflow_add-dropped
overflow_add-dropped c = omega (arith, (loop-rest-preserved c).few, c.requires)

pub returns-clause-exact : goal.returns-clause-exact
returns-clause-exact c = λ infos row few keeps.
    let read = c.loop-rest.invariant in
    let same = one_row IsStreamInfo streams_told c.args.bytes.now c.loop-rest.rest.now read.done infos read.under_way
    (empty c.is_empty.result (length c.loop-rest.rest.now) c.is_empty.ensures c.loop-rest-test.false) row in
    ap₂ (λ (xs : List Stream) (n : ℕ). Some (record { items = xs }, n)) (read.streams_are ∙ ap (map stream_of) (sym same))
    (read.dropped_is ∙ ap (sum_by (λ info. count_dropped info.descriptors)) (sym same))

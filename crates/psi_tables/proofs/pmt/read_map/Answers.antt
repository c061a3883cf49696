use Rattle.std.proofs.Common.{◌≡◌, ◌+◌, List, ℕ, Some, length, map, refl, sym, ap, subst, arith}
use Rattle.std.proofs.lemmas.List.{length-take, length-drop}
use Rattle.std.specs.Prelude.{Option}
use Rattle.std.specs.Option.{unwrap_or}
use Rattle.std.specs.List.{sum_by}
use Rattle.arrayvec.specs.ArrayVec.{ArrayVec}
use Rattle.psi_tables.specs.declared.program_map.ProgramMap.{ProgramMap}
use Rattle.psi_tables.specs.declared.stream.Stream.{Stream}
use Rattle.psi_tables.specs.Section.{IsItemRow}
use Rattle.psi_tables.specs.Descriptors.{count_dropped}
use Rattle.psi_tables.specs.Streams.{IsStreamInfo, stream_of}
use Rattle.psi_tables.proofs.MapContents.{keepable_from, room_from, cut_at, pcr_at, content_says, one_map}
use Rattle.psi_tables.proofs.StreamRows.{same_pair}
use Rattle.psi_tables.proofs.pmt.read_map.Goals as goal

pub overflow_add-result : goal.overflow_add-result
overflow_add-result c =
    omega (
      arith,
      c.requires,
      c.in_ok-info_dropped.ensures.few,
      c.in_ok-streams.ensures.few,
      ap length c.split_at.ensures.front,
      ap length c.split_at.ensures.back,
      length-take c.from_be_bytes-info_length.result c.in_ok-pcr_high.rest.now,
      length-drop c.from_be_bytes-info_length.result c.in_ok-pcr_high.rest.now,
      ap length c.in_ok-pcr_high.ensures.cases.1,
      length-drop 4 c.args.content.now,
    )

pub returns-in_err-streams-clause-only : goal.returns-in_err-streams-clause-only
returns-in_err-streams-clause-only c = λ program is room number.
    let head = c.in_ok-pcr_high.ensures.cases in
    let cut =
    cut_at c.args.content.now c.in_ok-pcr_high.field-0-0.now c.in_ok-pcr_high.rest.now c.split_at.result.0.now c.split_at.result.1.now
    c.from_be_bytes-info_length.result (λ i. omega (arith, c.type_inv.content i)) head.0 head.1
    (omega (arith, head.2)) c.from_be_bytes-info_length.ensures c.if-rest-info_length.false c.split_at.ensures.front c.split_at.ensures.back in
    let keeps = keepable_from program is.streams is.kept room in
    let none = c.in_err-streams.ensures.exact is.streams (subst (IsItemRow IsStreamInfo is.streams) (sym cut.streams_are) is.streams_are) keeps.0 keeps.1 in
    absurd (cc none)

pub returns-clause-some : goal.returns-clause-some
returns-clause-some c =
    let content : List ℕ = c.args.content.now in
    let head = c.in_ok-pcr_high.ensures.cases in
    let cut =
    cut_at content c.in_ok-pcr_high.field-0-0.now c.in_ok-pcr_high.rest.now c.split_at.result.0.now c.split_at.result.1.now
    c.from_be_bytes-info_length.result (λ i. omega (arith, c.type_inv.content i)) head.0 head.1
    (omega (arith, head.2)) c.from_be_bytes-info_length.ensures c.if-rest-info_length.false c.split_at.ensures.front c.split_at.ensures.back in
    let own = c.in_ok-info_dropped.ensures.some refl in
    let found = c.in_ok-streams.ensures.some refl in
    let counts : c.in_ok-info_dropped.info_dropped ≡ length own.0 = ap (λ (o : Option ℕ). unwrap_or o 0) (c.in_ok-info_dropped.ensures.exact own.0 own.1) in
    let parts = same_pair c.in_ok-streams.streams (record { items = map stream_of found.0 }) c.in_ok-streams.streams_dropped
    (sum_by (λ i. count_dropped i.descriptors) found.0) (c.in_ok-streams.ensures.exact found.0 found.1 found.2 found.3) in
    let items : c.in_ok-streams.streams.items ≡ map stream_of found.0 = ap (λ (v : ArrayVec Stream). v.items) parts.0 in
    let pcr = pcr_at content c.in_ok-pcr_high.field-0-0.now c.from_be_bytes.result (λ i. omega (arith, c.type_inv.content i)) head.0 c.from_be_bytes.ensures in
    let program : ProgramMap = record {
      number = c.args.number;
      pcr_pid = c.from_be_bytes.result;
      streams = c.in_ok-streams.streams;
      dropped = c.in_ok-info_dropped.info_dropped + c.in_ok-streams.streams_dropped;
    } in (
      content_says content c.split_at.result.0.now c.split_at.result.1.now program own.0 found.0 cut pcr own.1 found.1 items (omega (arith, counts, parts.1)),
      room_from program found.0 items found.2 found.3,
      refl,
    )

pub returns-clause-only : goal.returns-clause-only
returns-clause-only c = λ program is room number. ap Some (one_map _ program c.args.content.now (returns-clause-some c).0 is (sym number))

use Rattle.std.proofs.Common.{◌≡◌, ◌<◌, ◌∷◌, List, false, length, sym, ap, ◌∙◌, arith}
use Rattle.psi_tables.specs.declared.stream.Stream.{Stream}
use Rattle.ts_demux.specs.Streams.{is_carried}
use Rattle.ts_demux.specs.Private.CarriedStreams.{pids_in}
use Rattle.ts_demux.proofs.CarrySteps.{first_removed, passes, passes_others, all_carried, all_others, some_there, none_left}
use Rattle.ts_demux.proofs.carried_streams.carry_audios.Goals as goal

pub returns : goal.returns
returns c =
    let none : length c.loop-streams.streams.items ≡ 0 = none_left _ (sym c.is_empty.ensures ∙ c.loop-streams-test.false) in
    record {
      carried_are = all_carried c.args.drop.now c.loop-streams.carried.items c.loop-streams.streams.items _ none c.loop-streams.invariant.audios;
      others_are = all_others c.args.drop.now c.loop-streams.carried.items c.loop-streams.streams.items c.loop-streams.others _ none c.loop-streams.invariant.others;
    }

pub loop-streams-preserved : goal.loop-streams-preserved
loop-streams-preserved c =
    let carried = c.loop-streams.carried.items in
    let streams = c.loop-streams.streams.items in
    let stream = c.remove-stream.result in
    let rest = c.remove-stream.new.self.items in
    let some : 0 < length streams = some_there _ (sym c.is_empty.ensures ∙ c.loop-streams-test.true) in
    let first : streams ≡ stream ∷ rest = first_removed streams stream some c.remove-stream.ensures.value ∙ ap (λ (xs : List Stream). stream ∷ xs) (sym c.remove-stream.ensures.items) in
    let test : is_carried c.args.drop.now (pids_in carried) stream
    ≡ false = ap (λ (xs : List Stream). is_carried c.args.drop.now (pids_in xs) stream) (sym c.as_slice.ensures.value)
    ∙ sym c.is_carried.ensures ∙ c.if-is_carried.false in
    record {
      room = omega (arith, c.loop-streams.invariant.room, c.remove-stream.ensures.len);
      audios = passes c.args.drop.now carried streams rest _ stream first test c.loop-streams.invariant.audios;
      others = rw c.in_ok-push.ensures.ok (passes_others c.args.drop.now carried streams rest c.loop-streams.others _ stream first test c.loop-streams.invariant.others);
    }

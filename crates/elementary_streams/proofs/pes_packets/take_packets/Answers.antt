use Rattle.std.proofs.Common.{◌≡◌, ◌∷◌, ◌++◌, ◌+◌, [], List, take, ap, sym, subst, ◌∙◌, All}
use Rattle.std.proofs.lemmas.List.{take_all, take_more}
use Rattle.std.proofs.lemmas.List.Elements.{All-push}
use Rattle.ts_demux.specs.declared.demuxed.PesUnit.{PesUnit}
use Rattle.elementary_streams.specs.Taken.{Holds}
use Rattle.elementary_streams.proofs.TakenLemmas.{IsWhole, refused_whole, refused_last, all_taken}
use Rattle.elementary_streams.proofs.pes_packets.take_packets.Goals as goal

pub returns-in-Err : goal.returns-in-Err
returns-in-Err c = refused_whole c.args.video c.args.packets.now c.in-Some.others.now c.in-Some.last.now c.packet-item.result c.loop-packet.packet-index c.in-Err.fault
    c.in-Some.ensures.cases.0 c.loop-packet-test.true c.packet-item.is c.loop-packet.invariant.1 c.in-Err.ensures.refused

pub loop-packet-preserved : goal.loop-packet-preserved
loop-packet-preserved c =
    let others = c.in-Some.others.now in
    let i = c.loop-packet.packet-index in
    let more : take (i + 1) others ≡ take i others ++ c.packet-item.result ∷ [] = take_more others i c.packet-item.result c.loop-packet-test.true
    ∙ ap (λ (x : PesUnit). take i others ++ x ∷ []) (sym c.packet-item.is) in (
      subst (λ (xs : List PesUnit). Holds xs c.take_whole.new.self) (sym more) (c.in-Ok.ensures.adds.holds (take i others) c.loop-packet.invariant.0),
      subst (λ (xs : List PesUnit). All (IsWhole c.args.video) xs) (sym more)
          (All-push (IsWhole c.args.video) (take i others) c.packet-item.result c.loop-packet.invariant.1 c.in-Ok.ensures.sound),
      c.in-Ok.ensures.adds.dropped ∙ c.loop-packet.invariant.2,
    )

pub returns-in-Ok-take_last : goal.returns-in-Ok-take_last
returns-in-Ok-take_last c =
    let others = c.in-Some.others.now in
    let whole : take c.loop-packet.packet-index others ≡ others = take_all c.loop-packet.packet-index others c.loop-packet-test.false in
    all_taken c.args.video c.args.packets.now others c.in-Some.last.now c.take_last.new.self c.in-Some.ensures.cases.0
    (subst (λ (xs : List PesUnit). All (IsWhole c.args.video) xs) whole c.loop-packet.invariant.1) c.in-Ok-take_last.ensures.sound
    (c.in-Ok-take_last.ensures.adds others (subst (λ (xs : List PesUnit). Holds xs c.loop-packet.held) whole c.loop-packet.invariant.0))
    c.in-Ok-take_last.ensures.dropped

pub returns-in-Err-take_last : goal.returns-in-Err-take_last
returns-in-Err-take_last c =
    let others = c.in-Some.others.now in
    let whole : take c.loop-packet.packet-index others ≡ others = take_all c.loop-packet.packet-index others c.loop-packet-test.false in
    refused_last c.args.video c.args.packets.now others c.in-Some.last.now c.in-Err-take_last.fault c.in-Some.ensures.cases.0
    (subst (λ (xs : List PesUnit). All (IsWhole c.args.video) xs) whole c.loop-packet.invariant.1) c.in-Err-take_last.ensures.refused

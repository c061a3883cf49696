use Rattle.std.proofs.Common.{◌≡◌, refl, ◌≤◌, ◌++◌, ◌∷◌, [], sym, subst, ◌∙◌, Option, None, Some, IfSome, length, ◌<◌}
use Rattle.std.proofs.lemmas.List.{append-nil}
use Rattle.ts_packets.specs.declared.packet.Packet.{Packet}
use Rattle.ts_packets.specs.TransportStream.{Piece}
use Rattle.ts_packets.specs.Carried.{carried}
use Rattle.ts_packets.specs.PidReader.{carried_at}
use Rattle.ts_demux.specs.Tables.{payloads_in}
use Rattle.ts_demux.proofs.SectionLemmas.{takes_payload, takes_nothing, payloads_behind}
use Rattle.ts_demux.proofs.section_reader.SectionReader.take.Goals as goal

pub feed-requires-clause-size : goal.feed-requires-clause-size
feed-requires-clause-size c =
    let fits = subst (λ (taken : Option Packet). IfSome taken (λ (packet : Packet). (0 < length packet.payload.now) × (length packet.payload.now ≤ 184))) c.in-Some.is c.in-Ok.ensures.fits in
    fits.1

pub returns-in-Err : goal.returns-in-Err
returns-in-Err c before at waits = sym (c.in-Err.ensures.fault before at waits.packets)

pub returns-in_default : goal.returns-in_default
returns-in_default c before at waits =
    let piece : Piece = record { at = at; bytes = c.args.bytes.now } in
    let carries : carried (before ++ piece ∷ []) ≡ carried before
    ++ carried_at at None = subst (λ (taken : Option Packet). carried (before ++ piece ∷ []) ≡ carried before ++ carried_at at taken)
    c.in_default.is (c.in-Ok.ensures.carried before at waits.packets) in
    let same : payloads_in (before ++ piece ∷ []) ≡ payloads_in before = payloads_behind before piece None carries ∙ append-nil (payloads_in before) in (
      sym (c.in-Ok.ensures.fault before at waits.packets),
      takes_nothing before piece c.args.self.now
          (record { packets = c.take.new.self; builder = c.args.self.now.builder }) waits same (c.in-Ok.ensures.behind before at waits.packets) refl,
    )

pub returns : goal.returns
returns c before at waits =
    let piece : Piece = record { at = at; bytes = c.args.bytes.now } in
    let carries : carried (before ++ piece ∷ []) ≡ carried before
    ++ carried_at at (Some c.in-Some.packet) = subst (λ (taken : Option Packet). carried (before ++ piece ∷ []) ≡ carried before
    ++ carried_at at taken) c.in-Some.is (c.in-Ok.ensures.carried before at waits.packets) in (
      sym (c.in-Ok.ensures.fault before at waits.packets),
      takes_payload before piece c.args.self.now (record { packets = c.take.new.self; builder = c.feed.new.self }) (record { start = c.in-Some.packet.start; bytes = c.in-Some.packet.payload.now })
          waits (payloads_behind before piece (Some c.in-Some.packet) carries) (c.in-Ok.ensures.behind before at waits.packets) c.sections_in_turn.ensures.fed c.feed.ensures,
    )

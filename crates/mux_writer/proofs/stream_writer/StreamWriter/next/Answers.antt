use Rattle.std.proofs.Common.{◌≡◌, ℕ, ◌+◌, ◌<◌, List, [], ◌∷◌, ◌++◌, length, get_or, take, sym, subst, arith}
use Rattle.std.proofs.lemmas.List.{take_more}
use Rattle.slot_rule.specs.declared.sent.Sent.{Sent}
use Rattle.slot_rule.specs.declared.sent.Sent.TheVariants.{Null}
use Rattle.mux_writer.specs.Private.Writer.{CountersAre}
use Rattle.mux_writer.proofs.Counting.{counters-more, told-next}
use Rattle.mux_writer.proofs.stream_writer.StreamWriter.next.Goals as goal

pub invariant_of-self-2 : goal.invariant_of-self-2
invariant_of-self-2 g c =
    let is = c.self.invariant in
    let layout = c.self.inside.layout.now in
    let rows : List Sent = c.self.inside.rows.now in
    let n : ℕ = c.self.inside.next in
    let sent : Sent = get_or rows n Null in
    let within : n < length rows = omega (arith, c.if-self.false, is.slots) in
    let rows-more : take (n + 1) rows ≡ take n rows ++ sent ∷ [] = take_more rows n Null within in
    record {
      layout = is.layout;
      slot = is.slot;
      slots = is.slots;
      within = omega (arith, within, is.slots);
      prepared = is.prepared;
      counters = subst (λ (front : List Sent). CountersAre layout front c.slot_packet.new.counters) (sym rows-more)
          (subst (CountersAre layout (take n rows ++ sent ∷ [])) (sym c.in_ok-slot_packet.ensures.counters)
          (counters-more layout (take n rows) sent c.self.inside.counters is.counters));
    }

pub returns-clause-packet : goal.returns-clause-packet
returns-clause-packet g c more =
    let is = c.self.invariant in
    let layout = c.self.inside.layout.now in
    let rows : List Sent = c.self.inside.rows.now in
    let n : ℕ = c.self.inside.next in
    let within : n < length rows = omega (arith, c.if-self.false, is.slots) in
    told-next c.args.self.now layout c.self.inside.slot rows n (g.P.PieceSource.has c.args.pieces.now) (g.P.PieceSource.told c.args.pieces.now) c.self.inside.counters
    c.slot_packet.new.into (sym c.self.view_is) is.prepared.few is.prepared.counted c.requires within is.counters c.in_ok-slot_packet.ensures.packet

use Rattle.std.proofs.Common.{◌≡◌, ◌+◌, ◌≤◌, ◌∷◌, ◌∙◌, sym, subst, arith}
use Rattle.tstd_model.specs.declared.packet_watch.PacketWatch.{PacketWatch}
use Rattle.tstd_model.specs.declared.passing.Wanted.TheVariants.{Payload}
use Rattle.tstd_model.specs.Decoder.{Audio}
use Rattle.tstd_model.specs.Faults.{hold_subticks}
use Rattle.tstd_model.specs.Private.Keeps.{Keeps, Passes, wanted_count}
use Rattle.tstd_model.specs.Private.Watches.{KeepsFound, KeepsHeld, KeepsMain, PassesTb, comes_later, wanted_later}
use Rattle.tstd_model.proofs.WatchLaws.{come-by, passed-come, passed-found}
use Rattle.tstd_model.proofs.packet_watch.PacketWatch.take_audio.Goals as goal

pub returns : goal.returns
returns c =
    let old : PacketWatch = c.args.self.now in
    let packet = c.args.packet.now in
    let tb = c.in-Some.tb in
    let new : PacketWatch =
    record { kind = old.kind; tb = c.take.new.self; taken = c.take-taken.new.self; moves = c.make_room-room.new.self; leaves = old.leaves; sure = c.and-self.result }
    in
    let kind_is : old.kind ≡ Audio = c.requires.audio in
    let slot_is : new.tb.slot ≡ old.tb.slot = c.take.ensures.slot in
    let passes : PassesTb old.tb packet tb.end new.tb = c.in-Some.ensures.passes in
    let all = wanted_count Payload packet in
    let count_is : c.count-count.result ≡ all = c.count-count.ensures.value in
    let taken : Passes all c.take-taken.result old.taken new.taken = subst (λ n. Passes n c.take-taken.result old.taken new.taken) count_is c.take-taken.ensures in
    record {
      tb = λ later sure. let both = c.and-self.ensures.tb sure.0 in (both.0, c.in-Some.ensures.keeps both.1 later sure.1);
      main = λ later sure.
          let both = c.and-self.ensures.main sure.0 in
          let by = c.are_by-main.ensures both.1 in
          let last : c.make_room-room.result.last ≤ tb.first + 0 = omega (arith, by.1) in
          let keeps : Keeps 0 0 (comes_later Payload new.tb.slot later) new.moves.rooms = subst (λ k. KeepsMain k new later) kind_is sure.1 in (
            both.0,
            subst (λ k. KeepsMain k old (packet ∷ later)) (sym kind_is)
                (passed-come Payload old.tb.slot 0 packet c.make_room-room.result old.moves.rooms new.moves.rooms later c.requires.within c.make_room-room.ensures.has (by.0 ∙ count_is)
                (come-by c.make_room-room.result tb.first _ 0 c.in-Some.ensures.first last)
                (subst (λ n. Keeps 0 0 (comes_later Payload n later) new.moves.rooms) slot_is keeps)),
          );
      found = λ later sure.
          let both = c.and-self.ensures.found sure.0 in (
            both.0,
            subst (λ k. KeepsFound k old (packet ∷ later)) (sym kind_is)
                (passed-found c.take-taken.result all tb.end old.taken new.taken (wanted_later Payload new.tb later) (wanted_later Payload old.tb (packet ∷ later)) taken
                (c.are_behind-found.ensures.behind both.1) (passes Payload later) (subst (λ k. KeepsFound k new later) kind_is sure.1)),
          );
      held = λ later sure.
          let both = c.and-self.ensures.held sure.0 in
          let by = c.are_by-held.ensures both.1 in
          let keeps : Keeps 0 hold_subticks (comes_later Payload new.tb.slot later) new.taken = subst (λ k. KeepsHeld k new later) kind_is sure.1 in (
            both.0,
            subst (λ k. KeepsHeld k old (packet ∷ later)) (sym kind_is)
                (passed-come Payload old.tb.slot hold_subticks packet c.take-taken.result old.taken new.taken later c.requires.within taken.has (by.0 ∙ count_is)
                (come-by c.take-taken.result tb.first _ hold_subticks c.in-Some.ensures.first by.1)
                (subst (λ n. Keeps 0 hold_subticks (comes_later Payload n later) new.taken) slot_is keeps)),
          );
    }

use Rattle.std.proofs.Common.{◌≡◌, ◌++◌, ◌∷◌, ◌∙◌, sym, subst, IfSome}
use Rattle.tstd_model.specs.declared.packet_watch.PacketWatch.{PacketWatch}
use Rattle.tstd_model.specs.declared.passing.Wanted.TheVariants.{Payload, DataAlone}
use Rattle.tstd_model.specs.Decoder.{Video}
use Rattle.tstd_model.specs.Faults.{hold_subticks}
use Rattle.tstd_model.specs.PacketBytes.{parts, with_headers}
use Rattle.tstd_model.specs.Private.Keeps.{Keeps, Passes, wanted_count}
use Rattle.tstd_model.specs.Private.Watches.{KeepsFound, KeepsHeld, KeepsMain, MovesBy, PassesTb, comes_later, moves_later, wanted_later}
use Rattle.tstd_model.proofs.WatchGoes.{video-found-goes, video-main-goes}
use Rattle.tstd_model.proofs.WatchLaws.{come-by, passed-come}
use Rattle.tstd_model.proofs.packet_watch.PacketWatch.take_video.Goals as goal

pub returns : goal.returns
returns c =
    let old : PacketWatch = c.args.self.now in
    let packet = c.args.packet.now in
    let tb = c.in-Some.tb in
    let new : PacketWatch =
    record { kind = old.kind; tb = c.take.new.self; taken = c.take-taken.new.self; moves = c.take-moved.new.self; leaves = c.leave_by-left.new.self; sure = c.and-self.result }
    in
    let vbv = c.requires.video.0 in
    let kind_is : old.kind ≡ Video vbv = c.requires.video.1 in
    let slot_is : new.tb.slot ≡ old.tb.slot = c.take.ensures.slot in
    let passes : PassesTb old.tb packet tb.end new.tb = c.in-Some.ensures.passes in
    let count = wanted_count DataAlone packet in
    let count_is : c.count-count.result ≡ count = c.count-count.ensures.value in
    let taken : Passes count c.take-taken.result old.taken new.taken = subst (λ n. Passes n c.take-taken.result old.taken new.taken) count_is c.take-taken.ensures in
    let moves : IfSome c.take-moved.result (λ at. MovesBy old.moves tb.end count at new.moves) =
    subst (λ n. IfSome c.take-moved.result (λ at. MovesBy old.moves tb.end n at new.moves)) count_is c.take-moved.ensures
    in
    record {
      tb = λ later sure. let both = c.and-self.ensures.tb sure.0 in (both.0, c.in-Some.ensures.keeps both.1 later sure.1);
      main = λ later sure.
          let both = c.and-self.ensures.main sure.0 in
          let pair = c.both-main.ensures both.1 in
          let new_moves = moves_later new.moves (wanted_later DataAlone new.tb later) in
          let keeps : Keeps 0 0 (comes_later Payload new.tb.slot later) (new.leaves ++ with_headers (parts later) new_moves) = subst (λ k. KeepsMain k new later) kind_is sure.1 in (
            both.0,
            subst (λ k. KeepsMain k old (packet ∷ later)) (sym kind_is)
                (video-main-goes old new packet later tb.end passes c.take-moved.result c.has_room-room.new.self moves
                (c.leave_by-left.ensures.none pair.1) (c.leave_by-left.ensures.some pair.1)
                (λ lows rest. c.has_room-room.ensures pair.0 old.tb.slot later lows c.in-Some.ensures.first rest)
                (subst (λ n. Keeps 0 0 (comes_later Payload n later) (new.leaves ++ with_headers (parts later) new_moves)) slot_is keeps)),
          );
      found = λ later sure.
          let both = c.and-self.ensures.found sure.0 in (
            both.0,
            subst (λ k. KeepsFound k old (packet ∷ later)) (sym kind_is)
                (video-found-goes old new packet later tb.end passes c.take-moved.result c.take-taken.result moves taken
                (c.are_behind-found.ensures.told both.1) (c.are_behind-found.ensures.behind both.1)
                (subst (λ k. KeepsFound k new later) kind_is sure.1)),
          );
      held = λ later sure.
          let both = c.and-self.ensures.held sure.0 in
          let by = c.are_by-held.ensures both.1 in
          let keeps : Keeps 0 hold_subticks (comes_later DataAlone new.tb.slot later) new.taken = subst (λ k. KeepsHeld k new later) kind_is sure.1 in (
            both.0,
            subst (λ k. KeepsHeld k old (packet ∷ later)) (sym kind_is)
                (passed-come DataAlone old.tb.slot hold_subticks packet c.take-taken.result old.taken new.taken later c.requires.within taken.has (by.0 ∙ count_is)
                (come-by c.take-taken.result tb.first _ hold_subticks c.in-Some.ensures.first by.1)
                (subst (λ n. Keeps 0 hold_subticks (comes_later DataAlone n later) new.taken) slot_is keeps)),
          );
    }

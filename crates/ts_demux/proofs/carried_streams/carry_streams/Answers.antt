use Rattle.std.proofs.Common.{Some, ◌≡◌, ◌++◌, ◌∷◌, [], List, refl, sym, ap, ◌∙◌, subst}
use Rattle.psi_tables.specs.declared.stream.Stream.{Stream}
use Rattle.ts_demux.specs.Private.CarriedStreams.{IsVideoAt}
use Rattle.ts_demux.proofs.CarrySteps.{carried_behind, others_behind}
use Rattle.ts_demux.proofs.carried_streams.carry_streams.Goals as goal

pub returns : goal.returns
returns c =
    let there : IsVideoAt c.args.whole.streams.items c.in-Some.at = subst (λ (items : List Stream). IsVideoAt items c.in-Some.at) c.as_slice.ensures.value c.in-Some.ensures in
    let video = c.remove.result in
    let first : c.push.new.self.items ≡ video ∷ [] = c.push.ensures.items ∙ ap (λ (xs : List Stream). xs ++ video ∷ []) c.new-carried.ensures in
    let rest = c.remove.ensures.items ∙ sym there.others in
    record {
      number = refl;
      pcr = refl;
      dropped_same = refl;
      video = video;
      video_is = there.video video ∙ ap Some (sym c.remove.ensures.value);
      streams = c.in-Ok.ensures.carried_are ∙ carried_behind c.args.drop.now c.push.new.self.items video c.remove.new.self.items _ first rest;
      others_are = c.in-Ok.ensures.others_are ∙ others_behind c.args.drop.now c.push.new.self.items video c.remove.new.self.items _ first rest;
    }

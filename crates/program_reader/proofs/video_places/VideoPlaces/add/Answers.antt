use Rattle.std.proofs.Common.{◌+◌, ℕ, length, refl, ap}
use Rattle.program_reader.proofs.WalkLemmas.{stand_more}
use Rattle.program_reader.proofs.video_places.VideoPlaces.add.Goals as goal

pub returns : goal.returns
returns c = record {
  stand = λ packets packet stand header payload.
      stand_more packets packet c.args.self.now c.find.new.self _ c.args.payload.now c.args.header c.args.self.now.bytes (c.find.new.self.bytes + length c.args.payload.now) stand header payload
      (c.in_ok-find.ensures.found _ stand.found) refl (ap (λ (n : ℕ). n + length c.args.payload.now) c.in_ok-find.ensures.bytes) refl c.in_ok-find.ensures.packets c.in_ok-push.ensures.items;
}

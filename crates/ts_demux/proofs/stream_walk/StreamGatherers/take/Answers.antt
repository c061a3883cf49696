use Rattle.std.proofs.Common.{◌≡◌, ◌<◌, ◌≤◌, ◌+◌, ℕ, List, Option, Some, IfSome, inr, length, slice_get, ap, sym, subst, ◌∙◌}
use Rattle.std.proofs.lemmas.Option.{slice_get-get_or}
use Rattle.ts_demux.specs.declared.carried_packets.StreamPayload.{StreamPayload}
use Rattle.ts_demux.specs.CarriedPackets.{pids_read, AddsFound}
use Rattle.ts_demux.specs.Private.PesGatherer.{IsInOrder, IsSame, gathered_of, gathered_more}
use Rattle.ts_demux.specs.Private.StreamWalk.{AreSoundBefore}
use Rattle.ts_demux.proofs.GatherSteps.{all_same, all_added, sound_more, first_fault, beside_within, on_ok, set_pids}
use Rattle.ts_demux.proofs.stream_walk.StreamGatherers.take.Goals as goal

pub returns-in-Err-clause-refused : goal.returns-in-Err-clause-refused
returns-in-Err-clause-refused c = inr (λ file within bytes_are gathers.
    first_fault file (pids_read c.args.self.now.packets) c.args.n c.in-Err.fault gathers.sound (c.in-Err.ensures.taken file within bytes_are gathers.stand))

pub returns-in_default-clause-taken : goal.returns-in_default-clause-taken
returns-in_default-clause-taken c file within bytes_are gathers =
    let pids = pids_read c.args.self.now.packets in
    let adds = subst (λ (found : Option StreamPayload). AddsFound file pids c.args.n found) c.in_default.is (c.in-Ok.ensures.taken file within bytes_are gathers.stand) in
    record {
      stand = c.in-Ok.ensures.behind file within bytes_are gathers.stand;
      all = all_same file pids c.args.n c.args.self.now.gatherers.items c.requires.beside adds gathers.all;
      sound = subst (λ (ps : List ℕ). AreSoundBefore file ps (c.args.n + 1)) (sym c.in-Ok.ensures.pids) (sound_more file pids c.args.n gathers.sound adds.sound);
    }

pub add-requires : goal.add-requires
add-requires c =
    let gs = c.args.self.now.gatherers.items in
    let found = c.in-Some.found in
    let pids = pids_read c.args.self.now.packets in
    let item = c.index_mut.result.now in
    let index : found.index < length pids = subst (λ (o : Option StreamPayload). IfSome o (λ p. p.index < length pids)) c.in-Some.is c.in-Ok.ensures.index in
    let item_is : slice_get gs found.index ≡ Some item = slice_get-get_or gs found.index item (beside_within gs pids found.index c.requires.beside index) ∙ ap Some (sym c.index_mut.ensures.value) in
    (c.requires.stands.1.all found.index item item_is).order

pub returns-clause-taken : goal.returns-clause-taken
returns-clause-taken c file within bytes_are gathers =
    let gs = c.args.self.now.gatherers.items in
    let found = c.in-Some.found in
    let pids = pids_read c.args.self.now.packets in
    let item = c.index_mut.result.now in
    let index : found.index < length pids = subst (λ (o : Option StreamPayload). IfSome o (λ p. p.index < length pids)) c.in-Some.is c.in-Ok.ensures.index in
    let item_is : slice_get gs found.index ≡ Some item = slice_get-get_or gs found.index item (beside_within gs pids found.index c.requires.beside index) ∙ ap Some (sym c.index_mut.ensures.value) in
    let adds = subst (λ (o : Option StreamPayload). AddsFound file pids c.args.n o) c.in-Some.is (c.in-Ok.ensures.taken file within bytes_are gathers.stand) in
    let fits = subst (λ (o : Option StreamPayload). IfSome o (λ p. (0 < length p.payload.now) × (length p.payload.now ≤ 184))) c.in-Some.is c.in-Ok.ensures.fits in
    on_ok c.add.result (gathered_of c.add.new.self ≡ gathered_more (gathered_of item) found.at found.start found.payload.now) (IsInOrder c.add.new.self) (IsSame item c.add.new.self) _
    c.add.ensures.ok c.add.ensures.order c.add.ensures.same (λ more order same. record {
      stand = c.in-Ok.ensures.behind file within bytes_are gathers.stand;
      all = all_added file pids c.args.n gs found item c.add.new.self c.requires.beside adds fits.0 item_is more order same.pid gathers.all;
      sound = subst (λ (ps : List ℕ). AreSoundBefore file ps (c.args.n + 1)) (sym c.in-Ok.ensures.pids) (sound_more file pids c.args.n gathers.sound adds.sound);
    })

pub returns-clause-pids : goal.returns-clause-pids
returns-clause-pids c =
    let gs = c.args.self.now.gatherers.items in
    let found = c.in-Some.found in
    let pids = pids_read c.args.self.now.packets in
    let item = c.index_mut.result.now in
    let index : found.index < length pids = subst (λ (o : Option StreamPayload). IfSome o (λ p. p.index < length pids)) c.in-Some.is c.in-Ok.ensures.index in
    let item_is : slice_get gs found.index ≡ Some item = slice_get-get_or gs found.index item (beside_within gs pids found.index c.requires.beside index) ∙ ap Some (sym c.index_mut.ensures.value) in
    on_ok c.add.result (IsInOrder c.add.new.self) (IsInOrder c.add.new.self) (IsSame item c.add.new.self) _
    c.add.ensures.order c.add.ensures.order c.add.ensures.same
    (λ order again same. (c.in-Ok.ensures.pids, set_pids gs found.index item c.add.new.self item_is same.pid ∙ c.requires.beside ∙ sym c.in-Ok.ensures.pids))

use Rattle.std.proofs.Common.{◌≡◌, ◌+◌, ◌-◌, ◌∙◌, ◌≤◌, length, take, drop, ap, arith, rules}
use Rattle.std.proofs.lemmas.List.{with_items_is, places}
use Rattle.std.specs.Vec.{with_items}
use borrow.Rule.Slice.PartMut.{put_mid}
use Rattle.ts_demux.specs.SourceBuffer.{held_bytes}
use Rattle.ts_demux.proofs.Passing.{held_still, held_there, passes_more, passes_still}
use Rattle.ts_demux.proofs.source_buffer.SourceBuffer.take_some.Goals as goal

pub returns-clause-passes : goal.returns-clause-passes
returns-clause-passes g c =
    let vec = c.self.inside.room in
    let room = vec.items in
    let from = c.self.inside.from in
    let to = c.self.inside.to in
    let place = c.make_room-self-inside.result in
    let at = place + (to - from) in
    let now = c.make_room-self-inside.new.room in
    let all = c.deref_mut.result.now in
    let part = c.take.new.buf in
    let count = c.in_ok-count.count in
    let few : count ≤ length part = omega (arith, c.in_ok-count.ensures.count, c.take.auto.buf) in
    let size : length now ≡ length room = c.make_room-self-inside.ensures.size ∙ ap length c.as_mut_slice.ensures.value in
    let same : all ≡ now = c.deref_mut.ensures.value ∙ with_items_is vec now (search (rules, places)) in
    let held : take (to - from) (drop place now) ≡ take (to - from) (drop from room) =
    c.make_room-self-inside.ensures.held ∙ ap (λ xs. take (to - from) (drop from xs)) c.as_mut_slice.ensures.value in
    passes_more (g.S.Source.left c.args.source.now) (g.S.Source.left c.take.new.self) (g.S.Source.most c.args.source.now) (g.S.Source.most c.take.new.self)
    (held_bytes c.args.self.now) _ part _ count few c.in_ok-count.ensures.ok c.in_ok-count.ensures.told
    (held_there _ room now all part (held_bytes c.args.self.now) from to place _ count
    (with_items_is (with_items vec now) (put_mid at (at + c.min-free.result - at) all part) (search (rules, places)))
    same size held c.make_room-self-inside.ensures.within c.self.invariant.0 c.self.invariant.1 few (ap held_bytes c.self.view_is))

pub returns-in_err-count-clause-passes : goal.returns-in_err-count-clause-passes
returns-in_err-count-clause-passes g c =
    let vec = c.self.inside.room in
    let room = vec.items in
    let from = c.self.inside.from in
    let to = c.self.inside.to in
    let place = c.make_room-self-inside.result in
    let at = place + (to - from) in
    let now = c.make_room-self-inside.new.room in
    let all = c.deref_mut.result.now in
    let part = c.take.new.buf in
    let size : length now ≡ length room = c.make_room-self-inside.ensures.size ∙ ap length c.as_mut_slice.ensures.value in
    let same : all ≡ now = c.deref_mut.ensures.value ∙ with_items_is vec now (search (rules, places)) in
    let held : take (to - from) (drop place now) ≡ take (to - from) (drop from room) =
    c.make_room-self-inside.ensures.held ∙ ap (λ xs. take (to - from) (drop from xs)) c.as_mut_slice.ensures.value in
    passes_still (g.S.Source.left c.args.source.now) (g.S.Source.left c.take.new.self) (g.S.Source.most c.args.source.now) (g.S.Source.most c.take.new.self)
    (held_bytes c.args.self.now) _ c.in_err-count.ensures.err
    (held_still _ room now all part (held_bytes c.args.self.now) from to place _
    (with_items_is (with_items vec now) (put_mid at (at + c.min-free.result - at) all part) (search (rules, places)))
    same size held c.make_room-self-inside.ensures.within c.self.invariant.0 c.self.invariant.1 (ap held_bytes c.self.view_is))

use Rattle.std.proofs.Common.{◌≤◌, ◌-◌, ◌∙◌, ℕ, List, ap, drop, length}
use Rattle.ts_demux.specs.SourceBuffer.{held_bytes, room_size}
use Rattle.ts_demux.proofs.Passing.{passed_over, held_size}
use Rattle.ts_demux.proofs.source_buffer.SourceBuffer.pass.Goals as goal

pub returns : goal.returns
returns c =
    let n = c.args.count in
    let items = c.self.inside.room.items in
    let from = c.self.inside.from in
    let to = c.self.inside.to in
    let some : n ≤ to - from = held_size items (held_bytes c.args.self.now) from to n (ap held_bytes c.self.view_is) c.requires in
    ap (λ (xs : List ℕ). (length items, xs)) (passed_over items from to n some) ∙ ap (λ (buffered : ℕ × List ℕ). (room_size buffered, drop n (held_bytes buffered))) c.self.view_is

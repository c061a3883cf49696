use Rattle.std.proofs.Common.{◌≡◌, ◌<◌, length}
use Rattle.bit_cursor.specs.Shown.{IsWindow}
use Rattle.bit_cursor.specs.BitReader.{bits_left}
use Rattle.bit_cursor.proofs.Fronts.{told_whole, told_where}
use Rattle.bit_cursor.proofs.bit_reader.BitReader.held_window.Goals as goal

pub returns-then-self-n-clause-window : goal.returns-then-self-n-clause-window
returns-then-self-n-clause-window g c =
    let s = c.args.self.now in
    let shown = c.short_window.result in
    told_where (bits_left s) (s.held < c.args.n) (λ bits. length bits ≡ s.held) (λ bits. IsWindow c.args.n bits shown.0 shown.1) c.if-self-n.true c.short_window.ensures.window

pub returns-clause-window : goal.returns-clause-window
returns-clause-window g c =
    let s = c.args.self.now in
    told_whole (bits_left s) (λ bits. s.held < c.args.n → length bits ≡ s.held) c.args.n c.held_front.result c.held_front.ensures.value

use Rattle.std.proofs.Common.{◌≡◌, ◌<◌, IfSome, length, subst}
use Rattle.bit_cursor.specs.Shown.{IsWindow}
use Rattle.bit_cursor.specs.BitReader.{bits_left}
use Rattle.bit_cursor.proofs.Fronts.{told_both}
use Rattle.bit_cursor.proofs.bit_reader.BitReader.peek.Goals as goal

pub returns-clause-window : goal.returns-clause-window
returns-clause-window g c =
    let n = c.args.n in
    let s = c.hold.new.self in
    let shown = c.held_window.result in
    told_both (bits_left c.args.self.now) (s.held < n) (λ bits. length bits ≡ s.held) (λ bits. IsWindow n bits shown.0 shown.1)
    (subst (λ told. IfSome told (λ bits. (s.held < n → length bits ≡ s.held) → IsWindow n bits shown.0 shown.1)) c.in_ok-hold.ensures.left c.held_window.ensures.window) c.in_ok-hold.ensures.few

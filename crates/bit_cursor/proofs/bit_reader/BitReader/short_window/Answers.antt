use Rattle.std.proofs.Common.{◌≡◌, ◌≤◌, ◌-◌, ◌*◌, ◌%◌, ◌^◌, ◌∙◌, length, IfSome, sym, ap, subst, arith}
use Rattle.bit_cursor.specs.Shown.{IsWindow}
use Rattle.bit_cursor.specs.BitReader.{bits_left}
use Rattle.bit_cursor.proofs.Words.{window_of, window_below, window_zeros}
use Rattle.bit_cursor.proofs.Fronts.{told_few}
use Rattle.bit_cursor.proofs.bit_reader.BitReader.short_window.Goals as goal

pub returns-clause-window : goal.returns-clause-window
returns-clause-window g c =
    let s = c.args.self.now in
    let n = c.args.n in
    let value : c.lowest.result * 2 ^ (n - s.held) % 2 ^ 32 ≡ (s.word % 2 ^ s.held) * 2 ^ (n - s.held) =
    ap (λ x. x * 2 ^ (n - s.held) % 2 ^ 32) c.lowest.ensures ∙ window_of s.word s.held n (omega arith) (omega arith) in
    subst (λ v. IfSome (bits_left s) (λ bits. length bits ≡ s.held → IsWindow n bits v s.held)) (sym value) (told_few (g.S.Source.left s.source.now) s.held n s.word c.requires.short)

pub returns-clause-below : goal.returns-clause-below
returns-clause-below g c =
    let s = c.args.self.now in
    let le : s.held ≤ c.args.n = omega arith in
    rw (c.lowest.ensures, window_of s.word s.held c.args.n le (omega arith)) (window_below s.word s.held c.args.n le)

pub returns-clause-unknown : goal.returns-clause-unknown
returns-clause-unknown g c =
    let s = c.args.self.now in
    let le : s.held ≤ c.args.n = omega arith in
    rw (c.lowest.ensures, window_of s.word s.held c.args.n le (omega arith)) (window_zeros s.word s.held (c.args.n - s.held))

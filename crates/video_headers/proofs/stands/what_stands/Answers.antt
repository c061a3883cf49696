use Rattle.std.proofs.Common.{◌/◌, ◌^◌, sym, ◌∙◌}
use Rattle.video_headers.proofs.Windows.{window-prefix, window-none, window-end, window-byte, window-zero}
use Rattle.video_headers.proofs.stands.what_stands.Goals as goal

pub returns-then-shows_prefix-clause-stands : goal.returns-then-shows_prefix-clause-stands
returns-then-shows_prefix-clause-stands c = λ bits shows whole. window-prefix bits c.args.window c.args.known shows (sym c.shows_prefix.ensures ∙ c.if-shows_prefix.true)

pub returns-then-window-eq0-clause-stands : goal.returns-then-window-eq0-clause-stands
returns-then-window-eq0-clause-stands c = λ bits shows whole. window-zero bits c.args.window c.args.known shows c.requires c.if-known-lt8.false
    (window-none bits c.args.window c.args.known shows c.requires (sym c.shows_prefix.ensures ∙ c.if-shows_prefix.false)) c.if-window-eq0.true

pub returns-clause-stands : goal.returns-clause-stands
returns-clause-stands c = λ bits shows whole. (
  c.args.window / 2 ^ 16,
  c.if-window-eq0.false,
  window-byte bits c.args.window c.args.known shows c.requires c.if-known-lt8.false
      (window-none bits c.args.window c.args.known shows c.requires (sym c.shows_prefix.ensures ∙ c.if-shows_prefix.false)),
)

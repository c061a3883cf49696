use Rattle.std.proofs.Common.{◌≡◌, true, false, subst, sym, rules}
use Rattle.bound_certificate.specs.Private.Texts.{IsKind}
use Rattle.bound_certificate.proofs.NodeKinds.{no_kind}
use Rattle.bound_certificate.proofs.read_node.kind_of.Goals as goal

pub returns-in-1 : goal.returns-in-1
returns-in-1 c = (subst (IsKind c.args.version) (sym c.in-1.is) tt, sym c.in-1.is)

pub returns-then-version-eq1 : goal.returns-then-version-eq1
returns-then-version-eq1 c = (subst (IsKind c.args.version) (sym c.in-2.is) c.if-version-eq1.true, sym c.in-2.is)

pub returns-else-version-eq1 : goal.returns-else-version-eq1
returns-else-version-eq1 c = λ kind. c.if-version-eq1.false (subst (IsKind c.args.version) c.in-2.is kind)

pub returns-in-3 : goal.returns-in-3
returns-in-3 c = (subst (IsKind c.args.version) (sym c.in-3.is) tt, sym c.in-3.is)

pub returns-in-4 : goal.returns-in-4
returns-in-4 c = (subst (IsKind c.args.version) (sym c.in-4.is) tt, sym c.in-4.is)

pub returns-then-has_windows : goal.returns-then-has_windows
returns-then-has_windows c = (subst (IsKind c.args.version) (sym c.in-5.is) (c.has_windows.ensures.0 c.if-has_windows.true), sym c.in-5.is)

pub returns-else-has_windows : goal.returns-else-has_windows
returns-else-has_windows c = λ kind.
    let has : c.has_windows.result ≡ true = c.has_windows.ensures.1 (subst (IsKind c.args.version) c.in-5.is kind) in
    let not : c.has_windows.result ≡ false = c.if-has_windows.false in
    cc

pub returns-then-has_buffer_windows : goal.returns-then-has_buffer_windows
returns-then-has_buffer_windows c = (subst (IsKind c.args.version) (sym c.in-6.is) (c.has_buffer_windows.ensures.0 c.if-has_buffer_windows.true), sym c.in-6.is)

pub returns-else-has_buffer_windows : goal.returns-else-has_buffer_windows
returns-else-has_buffer_windows c = λ kind.
    let has : c.has_buffer_windows.result ≡ true = c.has_buffer_windows.ensures.1 (subst (IsKind c.args.version) c.in-6.is kind) in
    let not : c.has_buffer_windows.result ≡ false = c.if-has_buffer_windows.false in
    cc

pub returns-in_default : goal.returns-in_default
returns-in_default c = no_kind c.args.version c.args.byte (search rules, search rules, search rules, search rules, search rules, search rules)

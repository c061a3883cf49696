use Rattle.std.proofs.Common.{sym, subst}
use Rattle.std.proofs.lemmas.Result.{err_from_is_err_and}
use Rattle.bound_certificate.specs.declared.read_node.Kind.{Kind}
use Rattle.bound_certificate.specs.Private.Texts.{IsBody, IsStop, code_of}
use Rattle.bound_certificate.proofs.read_node.read_body.Goals as goal

pub returns-in_err-block-in-Branch-clause-stop : goal.returns-in_err-block-in-Branch-clause-stop
returns-in_err-block-in-Branch-clause-stop c =
    let p = err_from_is_err_and c.from_residual.result c.from_residual.ensures.1 in
    rw (p.1, p.2) (subst (λ (kind : Kind). IsStop (IsBody (code_of kind)) c.args.cursor.now c.in_err-block-in-Branch.field-0.0) (sym c.in-Branch.is) c.in_err-block-in-Branch.ensures.stop)

pub returns-in_err-read_multipliers-in-Dual-clause-stop : goal.returns-in_err-read_multipliers-in-Dual-clause-stop
returns-in_err-read_multipliers-in-Dual-clause-stop c =
    let p = err_from_is_err_and c.from_residual-in_err-read_multipliers-in-Dual.result c.from_residual-in_err-read_multipliers-in-Dual.ensures.1 in
    rw (p.1, p.2) (subst (λ (kind : Kind). IsStop (IsBody (code_of kind)) c.args.cursor.now c.in_err-read_multipliers-in-Dual.field-0.0) (sym c.in-Dual.is)
    c.in_err-read_multipliers-in-Dual.ensures.stop)

pub returns-in_err-flag-in-Run-clause-stop : goal.returns-in_err-flag-in-Run-clause-stop
returns-in_err-flag-in-Run-clause-stop c =
    let p = err_from_is_err_and c.from_residual-in_err-flag-in-Run.result c.from_residual-in_err-flag-in-Run.ensures.1 in
    rw (p.1, p.2) (subst (λ (kind : Kind). IsStop (IsBody (code_of kind)) c.args.cursor.now c.in_err-flag-in-Run.field-0.0) (sym c.in-Run.is) c.in_err-flag-in-Run.ensures.stop)

pub returns-in_err-read_windows-in-Window-clause-stop : goal.returns-in_err-read_windows-in-Window-clause-stop
returns-in_err-read_windows-in-Window-clause-stop c =
    let p = err_from_is_err_and c.from_residual-in_err-read_windows-in-Window.result c.from_residual-in_err-read_windows-in-Window.ensures.1 in
    rw (p.1, p.2) (subst (λ (kind : Kind). IsStop (IsBody (code_of kind)) c.args.cursor.now c.in_err-read_windows-in-Window.field-0.0) (sym c.in-Window.is)
    c.in_err-read_windows-in-Window.ensures.stop)

pub returns-in_err-read_buffer_windows-in-BufferWindow-clause-stop : goal.returns-in_err-read_buffer_windows-in-BufferWindow-clause-stop
returns-in_err-read_buffer_windows-in-BufferWindow-clause-stop c =
    let p = err_from_is_err_and c.from_residual-in_err-read_buffer_windows-in-BufferWindow.result c.from_residual-in_err-read_buffer_windows-in-BufferWindow.ensures.1 in
    rw (p.1, p.2) (subst (λ (kind : Kind). IsStop (IsBody (code_of kind)) c.args.cursor.now c.in_err-read_buffer_windows-in-BufferWindow.field-0.0) (sym c.in-BufferWindow.is)
    c.in_err-read_buffer_windows-in-BufferWindow.ensures.stop)

use Rattle.std.proofs.Common.{◌≡◌, ap, subst, ◌∙◌}
use Rattle.psi_tables.specs.Section.{IsWholeSection, content}
use Rattle.psi_tables.proofs.ProgramRows.{pat_from, pat_fills}
use Rattle.psi_tables.proofs.pat.read_pat.Goals as goal

pub returns-then-content-ne0-clause-pid : goal.returns-then-content-ne0-clause-pid
returns-then-content-ne0-clause-pid c = λ programs is.
    let found : c.in-Some.content.now ≡ content c.args.section.now.items = c.in-Some.ensures.1 ∙ ap content c.as_slice.ensures.value in
    absurd (c.if-content-ne0.true (pat_fills programs c.args.section.now.items c.in-Some.content.now is found))

pub returns-then-number-eq0-clause-ok : goal.returns-then-number-eq0-clause-ok
returns-then-number-eq0-clause-ok c = λ current.
    let found : c.in-Some.content.now ≡ content c.args.section.now.items = c.in-Some.ensures.1 ∙ ap content c.as_slice.ensures.value in
    pat_from c.args.section.now.items c.in-Some.content.now current (subst IsWholeSection c.as_slice.ensures.value c.in-Some.ensures.0) found c.if-content-ne0.false

pub returns-clause-ok : goal.returns-clause-ok
returns-clause-ok c = λ current.
    let found : c.in-Some.content.now ≡ content c.args.section.now.items = c.in-Some.ensures.1 ∙ ap content c.as_slice.ensures.value in
    pat_from c.args.section.now.items c.in-Some.content.now current (subst IsWholeSection c.as_slice.ensures.value c.in-Some.ensures.0) found c.if-content-ne0.false

use Rattle.std.proofs.Common.{arith, refl, [], ◌∷◌, ◌++◌, sym, ◌∙◌}
use Rattle.video_headers.specs.Private.Extensions.{loaded_of}
use Rattle.video_headers.specs.Private.Part.{codes_of}
use Rattle.video_headers.proofs.Items.{items-none, items-more, items-refused, items-no_code, items-ended, fold-more}
use Rattle.video_headers.proofs.extensions.read_extensions.Goals as goal

pub parts-init : goal.parts-init
parts-init g c = record { loads = []; so_far = items-none _ _ g.met.S.Source.keeps_itself; made = refl }

pub returns-in_err-next : goal.returns-in_err-next
returns-in_err-next g c =
    let i = c.parts.invariant in
    items-no_code _ _ i.loads g.met.S.Source.keeps_on g.met.S.Source.keeps_itself i.so_far c.from_residual.result c.from_residual.ensures.1 c.in_err-next.ensures.answers

pub returns-then-not-comes : goal.returns-then-not-comes
returns-then-not-comes g c =
    let i = c.parts.invariant in
    items-ended _ _ i.loads g.met.S.Source.keeps_on g.met.S.Source.keeps_itself i.so_far _ _ i.made (λ end bits n. n) (sym c.comes.ensures ∙ c.if-not-comes.true) c.in_ok-next.ensures.answers

pub returns-in_err-loaded : goal.returns-in_err-loaded
returns-in_err-loaded g c =
    let i = c.parts.invariant in
    items-refused _ _ i.loads g.met.S.Source.keeps_on g.met.S.Source.keeps_itself i.so_far c.from_residual-in_err-loaded.result
    c.from_residual-in_err-loaded.ensures.1 c.in_ok-next.ensures.answers c.in_err-loaded.ensures.answers

pub parts-preserved : goal.parts-preserved
parts-preserved g c =
    let i = c.parts.invariant in record {
      loads = i.loads ++ loaded_of c.in_ok-loaded.loaded ∷ [];
      so_far = items-more _ c.args.seq i.loads g.met.S.Source.keeps_on g.met.S.Source.keeps_itself i.so_far c.in_ok-loaded.loaded c.in_ok-next.ensures.answers c.in_ok-loaded.ensures.answers;
      made = fold-more _ _ _ i.loads _ i.made c.with_loaded-state.ensures;
    }

pub parts-smaller : goal.parts-smaller
parts-smaller g c =
    let grown = c.in_ok-next.ensures.moved (codes_of c.args.part) (sym c.comes.ensures ∙ c.if-not-comes.false) in
    omega (arith, grown, c.in_ok-loaded.ensures.answers.runs.onward)

use Rattle.std.proofs.Common.{◌*◌, sym, ap₂, ◌∙◌}
use Rattle.picture_reader.proofs.Covering.{covers-more, covers-broken}
use Rattle.picture_reader.proofs.coverage.Coverage.with.Goals as goal

pub returns-then-start-span : goal.returns-then-start-span
returns-then-start-span c = λ seq slices s covers columns row is_span.
    covers-broken seq slices s c.args.self c.args.span covers is_span c.row_start-start.result
    (c.row_start-start.ensures.value ∙ ap₂ (λ a b. a * b) (sym row) columns) c.if-self.false c.if-start-span.true

pub returns : goal.returns
returns c = λ seq slices s covers columns row is_span.
    covers-more seq slices s c.args.self c.args.span covers is_span c.row_start-start.result
    (c.row_start-start.ensures.value ∙ ap₂ (λ a b. a * b) (sym row) columns) c.if-self.false c.if-start-span.false

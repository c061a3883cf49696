use Rattle.std.proofs.Common.{◌≡◌, ◌*◌, ◌<◌, List, [], ◌∷◌, length, sym, subst, ap₂, rules}
use Rattle.std.proofs.lemmas.List.{nil_from_length}
use Rattle.syntax_types.specs.declared.macroblock.Macroblock.{Macroblock}
use Rattle.syntax_types.specs.declared.slice.Slice.{Slice}
use Rattle.picture_grammar.specs.Slice.{columns}
use Rattle.requantiser.specs.Private.Cursor.{StandsAt}
use Rattle.requantiser.proofs.CursorSteps.{opened_stands}
use Rattle.requantiser.proofs.cursor.opened.Goals as goal

pub returns-in-Some : goal.returns-in-Some
returns-in-Some c = λ address stands within.
    let s : Slice = c.in-Some.slice.now in
    let ss : List Slice = c.in-Some.slices.now in
    let none : c.args.cursor.macroblocks.now ≡ [] = nil_from_length c.args.cursor.macroblocks.now (search rules) in
    let split : c.args.cursor.slices.now ≡ s ∷ ss = c.in-Some.ensures.cases.0 in
    let open_at : StandsAt c.args.picture.now address c.args.cursor.code c.args.cursor.start [] (s ∷ ss) =
    subst (λ (ms : List Macroblock). StandsAt c.args.picture.now address c.args.cursor.code c.args.cursor.start ms (s ∷ ss)) none
    (subst (λ (xs : List Slice). StandsAt c.args.picture.now address c.args.cursor.code c.args.cursor.start c.args.cursor.macroblocks.now xs) split stands) in
    let row : c.from.result * c.columns.result ≡ s.row * columns c.args.picture.now.seq = ap₂ (λ a b. a * b) c.from.ensures c.columns.ensures.value in
    subst (λ (ms : List Macroblock). StandsAt c.args.picture.now address s.code (c.from.result * c.columns.result) ms ss × (0 < length ms)) (sym c.as_slice.ensures)
    (subst (λ n. StandsAt c.args.picture.now address s.code n s.macroblocks ss × (0 < length s.macroblocks)) (sym row)
    (opened_stands c.args.picture.now address c.args.cursor.code c.args.cursor.start s ss open_at))

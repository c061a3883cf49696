use Rattle.std.proofs.Common.{◌≡◌, true, false, eq-eqb}
use Rattle.std.proofs.lemmas.Bool.{eqb-true}
use Rattle.picture_reader.proofs.Covering.{covers-all, covers-next, covers-never}
use Rattle.picture_reader.proofs.coverage.Coverage.is_whole.Goals as goal

pub returns-then-self : goal.returns-then-self
returns-then-self c = λ seq slices covers. (
  (λ is. absurd (let never : false ≡ true = is in cc)),
  (λ all. absurd (covers-never seq slices c.args.self c.args.count covers c.if-self.true all)),
)

pub returns : goal.returns
returns c = λ seq slices covers. (
  (λ is. covers-all seq slices c.args.self c.args.count covers c.if-self.false (eqb-true c.args.self.next c.args.count is)),
  (λ all. eq-eqb c.args.self.next c.args.count (covers-next seq slices c.args.self c.args.count covers c.if-self.false all)),
)

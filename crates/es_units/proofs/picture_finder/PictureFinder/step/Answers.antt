use Rattle.std.proofs.Common.{◌++◌, List, ℕ, length, sym, subst, arith, rules}
use Rattle.std.proofs.lemmas.List.{take_all}
use Rattle.es_units.specs.PictureFinder.{HasFound, found_of}
use Rattle.es_units.proofs.PicturesFound.{finds_code, finds_none}
use Rattle.es_units.proofs.picture_finder.PictureFinder.step.Goals as goal

pub returns-in_default-clause-found : goal.returns-in_default-clause-found
returns-in_default-clause-found c pushed found has =
    let new = c.take_bytes.new.self in
    let bytes = c.args.piece.now in
    let takes = c.take_bytes.ensures in
    subst (λ (xs : List ℕ). HasFound (pushed ++ xs) (found ++ found_of new) new) (sym (take_all (length bytes) bytes (omega arith)))
    (finds_none pushed found c.args.self.now new bytes has c.requires.none takes.tail takes.pushed takes.group takes.found c.in_default.ensures.first)

pub returns-clause-found : goal.returns-clause-found
returns-clause-found c pushed found has =
    let code = c.in-Some in
    let takes = c.take_bytes-2.ensures in
    let passes = c.pass.ensures in
    finds_code pushed found c.args.self.now c.take_bytes-2.new.self c.pass.new.self c.args.piece.now code.code.at code.code.value has
    code.ensures.found.0 code.ensures.found.1 code.ensures.first (search rules) takes.tail takes.pushed takes.group passes.tail passes.pushed passes.group passes.found

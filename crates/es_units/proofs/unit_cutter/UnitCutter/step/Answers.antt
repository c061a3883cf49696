use Rattle.std.proofs.Common.{◌+◌, ◌++◌, List, ℕ, length, take, sym, subst, arith, rules}
use Rattle.std.proofs.lemmas.List.{take_all}
use Rattle.es_units.specs.UnitCutter.{HasCut, ended_of}
use Rattle.es_units.proofs.CutterPushes.{TakesBytes, PassesCode, takes_all, takes_code}
use Rattle.es_units.proofs.unit_cutter.UnitCutter.step.Goals as goal

pub returns-in_default-clause-cut : goal.returns-in_default-clause-cut
returns-in_default-clause-cut c pushed given has =
    let old = c.args.self.now in
    let new = c.take_bytes.new.self in
    let bytes = c.args.piece.now in
    let ensures = c.in_ok-take_bytes.ensures in
    let takes : TakesBytes old new bytes = record {
      kept = ensures.kept;
      tail = ensures.tail;
      pushed = ensures.pushed;
      most = ensures.most;
      cut = ensures.cut;
      ended = ensures.ended;
    } in
    subst (λ (xs : List ℕ). HasCut (pushed ++ xs) (given ++ ended_of new) new) (sym (take_all (length bytes) bytes (omega arith)))
    (takes_all pushed given old new bytes has c.requires.none takes c.in_default.ensures.first)

pub returns-clause-cut : goal.returns-clause-cut
returns-clause-cut c pushed given has =
    let old = c.args.self.now in
    let mid = c.take_bytes-2.new.self in
    let new = c.pass.new.self in
    let piece = c.args.piece.now in
    let ensures = c.in_ok-take_bytes-2.ensures in
    let passed = c.in_ok-pass.ensures in
    let takes : TakesBytes old mid (take (c.in-Some.code.at + 1) piece) = record {
      kept = ensures.kept;
      tail = ensures.tail;
      pushed = ensures.pushed;
      most = ensures.most;
      cut = ensures.cut;
      ended = ensures.ended;
    } in
    let passes : PassesCode mid new c.in-Some.code.value = record {
      cut = passed.cut;
      ended = passed.ended;
      start = passed.start;
      kept = passed.kept;
      most = passed.most;
      pushed = passed.pushed;
      tail = passed.tail;
    } in
    takes_code pushed given old mid new piece c.in-Some.code.at c.in-Some.code.value has c.requires.none c.in-Some.ensures.found.0 c.in-Some.ensures.found.1
    c.in-Some.ensures.first (search rules) takes passes

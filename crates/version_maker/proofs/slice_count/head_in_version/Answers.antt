use Rattle.std.proofs.Common.{rules, ◌≡◌, ◌+◌, ◌∙◌, ℕ, Bool, length, ap, arith}
use Rattle.std.specs.Prelude.{◌==◌, is_some, not, if◌then◌else◌}
use Rattle.picture_grammar.specs.Written.{written_increment}
use Rattle.version_maker.proofs.OutlineCounts.{code-length, kinds-at}
use Rattle.version_maker.proofs.slice_count.head_in_version.Goals as goal

pub returns-clause-value : goal.returns-clause-value
returns-clause-value c = λ coding source are.
    let head = c.args.head in
    let kinds = c.args.kinds in
    let increment : c.increment_bits.result ≡ length (written_increment (head.skipped_before + 1)) =
    c.increment_bits.ensures.value ∙ ap (λ (n : ℕ). length (written_increment (n + 1))) c.from.ensures in
    let stands : c.is_some.result ≡ is_some head.code = search rules in
    let type : c.at.result ≡ (if is_some head.code then (if not (head.pattern == 0) then kinds.both else kinds.code) else (if not (head.pattern == 0) then kinds.pattern else kinds.neither)) =
    c.at.ensures.value ∙ ap (λ (s : Bool). if s then (if not (head.pattern == 0) then kinds.both else kinds.code) else (if not (head.pattern == 0) then kinds.pattern else kinds.neither)) stands in
    omega (arith, increment, type, c.pattern_bits.ensures.value, kinds-at coding source _ _ _ _ head are, code-length head.code)

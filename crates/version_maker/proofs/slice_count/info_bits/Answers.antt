use Rattle.std.proofs.Common.{◌+◌, ◌*◌, ℕ, Option, length, sym, ap, ◌∙◌}
use Rattle.syntax_types.specs.declared.slice.SliceInfo.{SliceInfo}
use Rattle.picture_grammar.specs.Written.{written_slice_info}
use Rattle.version_maker.proofs.Counts.{info-length}
use Rattle.version_maker.proofs.slice_count.info_bits.Goals as goal

pub returns-in-Some-clause-value : goal.returns-in-Some-clause-value
returns-in-Some-clause-value c =
    ap (λ (n : ℕ). 10 + 9 * n) c.len.ensures ∙ sym (info-length c.in-Some.info) ∙ ap (λ (o : Option SliceInfo). length (written_slice_info o)) (sym c.in-Some.is)

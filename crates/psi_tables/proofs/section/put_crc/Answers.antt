use Rattle.std.proofs.Common.{List, ℕ, ◌++◌, ap, subst, ◌∙◌}
use Rattle.psi_tables.specs.Crc.{IsCrcOf}
use Rattle.psi_tables.proofs.CrcLaws.{with_crc_is_right}
use Rattle.psi_tables.proofs.section.put_crc.Goals as goal

pub returns-clause-bytes : goal.returns-clause-bytes
returns-clause-bytes c = record {
  crc = c.crc32-crc.result;
  crc_is = subst (IsCrcOf c.crc32-crc.result) c.as_slice.ensures.value c.crc32-crc.ensures.value;
  joined = c.put.ensures ∙ ap (λ (bytes : List ℕ). c.args.into.now.items ++ bytes) c.to_be_bytes.ensures;
}

pub returns-clause-right : goal.returns-clause-right
returns-clause-right c = with_crc_is_right c.args.into.now.items c.put.new.into.items (returns-clause-bytes c)

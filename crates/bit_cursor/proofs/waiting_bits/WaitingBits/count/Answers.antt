use Rattle.std.proofs.Common.{ℕ, length, ap, sym, ◌∙◌}
use Rattle.bit_lists.proofs.BitLemmas.{length-bits_of}
use Rattle.bit_cursor.proofs.waiting_bits.WaitingBits.count.Goals as goal

pub returns-clause-count : goal.returns-clause-count
returns-clause-count c = sym (length-bits_of c.self.inside.count c.self.inside.word) ∙ ap (length {A = ℕ}) c.self.view_is

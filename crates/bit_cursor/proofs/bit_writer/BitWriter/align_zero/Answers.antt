use Rattle.std.proofs.Common.{◌≡◌, ◌-◌, ◌%◌, ℕ, List, replicate, subst, ap, ◌∙◌}
use Rattle.bit_lists.specs.Bits.{bits_of}
use Rattle.bit_lists.proofs.JoinedLemmas.{bits_of-zero}
use Rattle.bit_cursor.specs.BitWriter.{odd_bits, zeros_to_byte, Writes}
use Rattle.bit_cursor.proofs.bit_writer.BitWriter.align_zero.Goals as goal

pub returns-clause-writes : goal.returns-clause-writes
returns-clause-writes g c =
    let zeros : bits_of ((8 - c.count-odd.result % 8) % 8) 0 ≡ zeros_to_byte (odd_bits c.args.self.now) =
    bits_of-zero ((8 - c.count-odd.result % 8) % 8) ∙ ap (λ n. replicate ((8 - n % 8) % 8) 0) c.count-odd.ensures.count in
    subst (λ (bits : List ℕ). Writes g.K.Sink.written g.K.Sink.faults g.K.Sink.keeps c.args.self.now c.put_bits.new.self c.put_bits.result bits) zeros c.put_bits.ensures.writes

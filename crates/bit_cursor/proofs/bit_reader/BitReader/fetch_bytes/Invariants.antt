use Rattle.std.proofs.Common.{◌≡◌, ◌<◌, ◌≤◌, ◌+◌, ◌-◌, ◌*◌, ◌^◌}
use Rattle.bit_cursor.specs.BitReader.{bits_left, place, KeepsSource}
use Rattle.bit_cursor.proofs.Left.{told_bits}
use Rattle.bit_cursor.proofs.Taking.{TakenSoFar}
use Rattle.bit_cursor.proofs.bit_reader.BitReader.fetch_bytes.Given as goal

abbrev pub invariant-loop-held : goal.invariant-loop-held
invariant-loop-held g l = record {
  left : told_bits (g.S.Source.left l.self.source.now) l.held l.word ≡ bits_left l.fn.self;
  place : 8 * l.taken - l.held ≡ place l.fn.self;
  few : l.held < 40;
  within : l.held ≤ 8 * l.taken;
  ends : l.taken + g.S.Source.most l.self.source.now ≤ 2 ^ 60;
  taken : TakenSoFar l.n l.fn.self l.self l.held;
  keeps : KeepsSource l.fn.self l.self;
  same_taken : l.self.taken ≡ l.fn.self.taken;
  same_held : l.self.held ≡ l.fn.self.held;
  rises : l.fn.self.taken ≤ l.taken;
}

abbrev pub decreases-loop-held : goal.decreases-loop-held
decreases-loop-held g l = l.n - l.held

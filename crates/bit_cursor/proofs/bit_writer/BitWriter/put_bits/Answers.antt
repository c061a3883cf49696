use Rattle.std.proofs.Common.{refl, arith}
use Rattle.std.proofs.lemmas.Result.{on_ok_weaker}
use Rattle.bit_lists.specs.Bits.{bits_of}
use Rattle.bit_lists.proofs.BitLemmas.{length-bits_of}
use Rattle.bit_cursor.proofs.Composed.{odd_after}
use Rattle.bit_cursor.proofs.Gets.{gets_none, gets_bytes, gets_front}
use Rattle.bit_cursor.proofs.bit_writer.BitWriter.put_bits.Goals as goal

pub returns-clause-writes : goal.returns-clause-writes
returns-clause-writes g c = record {
  ok = gets_bytes c.put_all-result.result _ _ c.in-Some.bytes _ (bits_of c.args.n c.args.value) c.push.new.self c.in-Some.ensures.0 c.in-Some.ensures.1 c.put_all-result.ensures.ok;
  err = gets_front c.put_all-result.result _ _ c.in-Some.bytes _ (bits_of c.args.n c.args.value) c.push.new.self c.in-Some.ensures.0 c.in-Some.ensures.1 c.put_all-result.ensures.err;
  stopped = c.is_err-self.ensures.value;
  failed = c.put_all-result.ensures.causes.failed_rose;
  never_missing = c.put_all-result.ensures.causes.never_missing;
  counts = c.put_all-result.ensures.causes.faults_grow;
  kept = c.put_all-result.ensures.keeps;
  same_sink = refl;
}

pub returns-in_default-clause-writes : goal.returns-in_default-clause-writes
returns-in_default-clause-writes g c = record {
  ok = gets_none (g.K.Sink.written c.args.self.now.sink.now) c.args.self.now.waiting (bits_of c.args.n c.args.value) c.push.new.self c.in_default.ensures;
  err = tt;
  stopped = c.requires.goes;
  failed = λ is. cc;
  never_missing = λ is. cc;
  counts = omega arith;
  kept = g.met.K.Sink.keeps_itself c.args.self.now.sink.now;
  same_sink = refl;
}

pub returns-clause-odd : goal.returns-clause-odd
returns-clause-odd g c = on_ok_weaker c.put_all-result.result (odd_after c.args.n (length-bits_of c.args.n c.args.value)) (returns-clause-writes g c).ok

pub returns-in_default-clause-odd : goal.returns-in_default-clause-odd
returns-in_default-clause-odd g c = odd_after c.args.n (length-bits_of c.args.n c.args.value) (returns-in_default-clause-writes g c).ok

use Rattle.std.proofs.Common.{◌≡◌, ◌+◌, ℕ, length, subst, sym, ◌∙◌, arith, refl}
use Rattle.elementary_streams.specs.Packets.{joined}
use Rattle.program_reader.specs.VideoWalk.{Reads}
use Rattle.program_reader.proofs.WalkLemmas.{left_on, not_refused, reads_any, reads_here, taken_all}
use Rattle.program_reader.proofs.video_walk.VideoWalk.read_units.Goals as goal

pub loop-count-init : goal.loop-count-init
loop-count-init c = record {
  within = omega arith;
  wanted = refl;
  read = λ packets at has few left. (
      let same : at ≡ at + 0 = omega arith in
      subst (λ (n : ℕ). Reads packets n c.args.self.now.refused c.args.self.now) same has
      );
}

pub returns-then-is_some-clause-read : goal.returns-then-is_some-clause-read
returns-then-is_some-clause-read c packets at has few left =
    reads_any packets (at + c.loop-count.count) (length (joined packets)) c.loop-count.self.refused c.loop-count.self (sym c.is_some.ensures ∙ c.if-is_some.true)
    (c.loop-count.invariant.read packets at has few left)

pub read_next-requires-clause-none : goal.read_next-requires-clause-none
read_next-requires-clause-none c = not_refused c.loop-count.self.refused (sym c.is_some.ensures ∙ c.if-is_some.false)

pub read_next-requires-clause-read : goal.read_next-requires-clause-read
read_next-requires-clause-read c =
    let (packets, at, has, few, left) = c.requires.read in
    let count = c.loop-count.count in
    (packets, at + count, c.loop-count.invariant.read packets at has few left, few, left_on (joined packets) c.args.bytes.now at count left)

pub loop-count-preserved : goal.loop-count-preserved
loop-count-preserved c =
    let so_far = c.loop-count.invariant in
    let step = c.in_ok-count.ensures in
    let count = c.loop-count.count in
    let more = c.in_ok-count.field-0 in
    record {
      within = omega (arith, so_far.within, step.within.1);
      wanted = step.wanted ∙ so_far.wanted;
      read = λ packets at has few left. (
          let sum : (at + count) + more ≡ at + (count + more) = omega arith in
          subst (λ (n : ℕ). Reads packets n c.read_next.new.self.refused c.read_next.new.self) sum
          (step.read packets (at + count) (so_far.read packets at has few left) few (left_on (joined packets) c.args.bytes.now at count left))
          );
    }

pub returns-clause-read : goal.returns-clause-read
returns-clause-read c packets at has few left =
    let so_far = c.loop-count.invariant in
    let reads = reads_here packets at c.args.self.now.refused c.args.self.now c.requires.none has in
    subst (λ (n : ℕ). Reads packets n c.loop-count.self.refused c.loop-count.self)
    (taken_all packets at c.loop-count.count c.args.bytes.now reads.within left so_far.within (omega (arith, c.loop-count-test.false))) (so_far.read packets at has few left)

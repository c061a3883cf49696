use Rattle.std.proofs.Common.{rules, ◌≡◌, ◌∙◌, ◌<◌, ◌≤◌, ◌+◌, ◌*◌, ◌%◌, ◌^◌, Some, is_some, cond, IfSome, slice_get, subst, ap, arith, bit_or}
use Rattle.shelf_io.specs.Source.{Takes}
use Rattle.bit_cursor.specs.BitReader.{bits_left}
use Rattle.shelf_io.proofs.Taken.{takes_twice}
use Rattle.bit_cursor.proofs.Left.{told_bits, told_more, told_end}
use Rattle.bit_cursor.proofs.bit_reader.BitReader.fetch_bytes.Goals.{else-loop-held-test, then-loop-held-test+in-Ok-None}
use Rattle.bit_cursor.proofs.bit_reader.BitReader.fetch_bytes.Goals as goal

pub loop-held-preserved : goal.loop-held-preserved
loop-held-preserved g c =
    let told = g.S.Source.left c.loop-held.self.source.now in
    let after = g.S.Source.left c.take_byte.new.self in
    let h = c.loop-held.held in
    let w = c.loop-held.word in
    let byte = c.in-Ok-Some.byte in
    let so_far = c.loop-held.invariant in
    let first : IfSome told (λ bytes. Some byte ≡ slice_get bytes 0) = subst (λ o. IfSome told (λ bytes. o ≡ slice_get bytes 0)) c.in-Ok-Some.field-0-is c.in-Ok-Some.ensures.told in
    let takes : Takes told after (g.S.Source.most c.loop-held.self.source.now) (g.S.Source.most c.take_byte.new.self) 1 =
    subst (λ o. Takes told after (g.S.Source.most c.loop-held.self.source.now) (g.S.Source.most c.take_byte.new.self) (cond (is_some o) 1 0)) c.in-Ok-Some.field-0-is c.in-Ok-Some.ensures.ok in
    let short : h ≤ 56 = omega arith in
    let small : byte < 2 ^ 8 = search rules in
    record {
      left = ap (λ x. told_bits after (h + 8) (bit_or (w * 2 ^ 8 % 2 ^ 64) x)) c.from.ensures ∙ told_more told after h w byte short small first takes.rest ∙ so_far.left;
      place = omega (arith, so_far.place, so_far.within);
      few = omega arith;
      within = omega (arith, so_far.within);
      ends = omega (arith, so_far.ends, takes.fewer);
      taken = record {
        count = so_far.taken.count + 1;
        asked = omega (arith, so_far.taken.asked, so_far.taken.came);
        came = omega (arith, so_far.taken.came);
        taken = takes_twice _ _ _ _ _ _ _ _ so_far.taken.taken takes;
      };
      keeps = record {
        same_source = so_far.keeps.same_source;
        keeps = g.met.S.Source.keeps_on _ _ _ so_far.keeps.keeps c.in-Ok-Some.ensures.keeps;
        faults = omega (arith, so_far.keeps.faults, c.in-Ok-Some.ensures.causes.faults_grow);
        absences = omega (arith, so_far.keeps.absences, c.in-Ok-Some.ensures.causes.absences_grow);
      };
      same_taken = so_far.same_taken;
      same_held = so_far.same_held;
      rises = omega (arith, so_far.rises);
    }

pub returns-clause-enough : goal.returns-clause-enough
returns-clause-enough g c few =
    let told = g.S.Source.left c.loop-held.self.source.now in
    elim c.loop-held-test.branch [
      | else-loop-held-test w ↦ absurd (omega (arith, few, w.loop-held-test.false))
      | then-loop-held-test+in-Ok-None w ↦
          told_end told (bits_left c.args.self.now) c.loop-held.held c.loop-held.word
          (subst (λ o. IfSome told (λ bytes. o ≡ slice_get bytes 0)) w.in-Ok-None.field-0-is w.in-Ok-None.ensures.told) c.loop-held.invariant.left
    ]

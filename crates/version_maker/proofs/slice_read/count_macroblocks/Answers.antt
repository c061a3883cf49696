use Rattle.std.proofs.Common.{◌≡◌, ◌≤◌, ◌+◌, ◌∷◌, ◌++◌, ℕ, List, [], Some, Bool, true, false, length, get_or, refl, sym, ap, subst, ◌∙◌, inl, arith}
use Rattle.std.specs.Prelude.{◌==◌, ◌&&◌, not, slice_index}
use Rattle.std.specs.List.{sum_by}
use Rattle.std.proofs.lemmas.Result.{err_from_is_err_and}
use Rattle.bit_cursor.specs.BitReader.{bits_left, place}
use Rattle.bit_cursor.proofs.Source.{keeps_then}
use Rattle.picture_grammar.specs.Grammar.{many}
use Rattle.picture_grammar.specs.Grammar.Next.{more, last}
use Rattle.picture_grammar.specs.Slice.{next_macroblock}
use Rattle.grammar_reading.proofs.Several.{several-more, several-end}
use Rattle.video_headers.specs.Private.Reading.{Rests}
use Rattle.macroblock_reader.specs.SliceFault.{refusal_told}
use Rattle.macroblock_reader.specs.SliceCursor.{next_of}
use Rattle.picture_reader.specs.Told.{RefusesTold}
use Rattle.picture_reader.proofs.Told.{reads-told, explains-told, list-refused, span-whole}
use Rattle.requantiser.proofs.MacroblockSteps.{span_of}
use Rattle.version_maker.specs.declared.slice_count.VersionCount.{VersionCount}
use Rattle.version_maker.specs.Private.Counts.{AreCounted}
use Rattle.version_maker.proofs.Counts.{can-count, counted-more, none-counted, state-kept}
use Rattle.version_maker.proofs.SliceSteps.{closed-behind, is-first, last-closed, more-open, none-told, spelled-next}
use Rattle.version_maker.proofs.slice_read.count_macroblocks.Goals as goal

pub macroblocks-init : goal.macroblocks-init
macroblocks-init g c =
    let (bits, told) = c.requires.told in
    record {
      macroblocks = [];
      stands = c.new-cursor.ensures;
      columns_left = omega (arith, c.new-span.ensures.end, c.new-cursor.ensures.left);
      spans = c.new-span.ensures.so_far;
      bits = bits;
      told = told;
      middle = bits;
      front = refl;
      left = told;
      ends = refl;
      closed = false;
      is_closed = inl refl;
      each = λ k d below. none-counted c.args.picture.seq.now c.args.picture.coding.now (slice_index c.args.ratios.now k) c.args.code (get_or c.args.counts.now k d) (c.requires.start k d below);
      states = λ k d below. let is = c.requires.start k d below in (is.ratio, is.source_code);
      code = c.requires.code;
      keeps = record { same_source = refl; keeps = g.met.S.Source.keeps_itself _; faults = omega arith; absences = omega arith };
    }

pub returns-in_err-is_more-clause-gives : goal.returns-in_err-is_more-clause-gives
returns-in_err-is_more-clause-gives g c = λ bits told_bits.
    let next = next_macroblock c.args.picture.seq.now c.args.picture.coding.now in
    let inv = c.macroblocks.invariant in
    let end : ℕ = place c.args.from.now + length bits in
    let both : Some bits ≡ Some inv.bits = sym told_bits ∙ inv.told in
    let same : bits ≡ inv.bits = cc in
    let has : Rests c.macroblocks.from end inv.middle = record { told = inv.left; ends = omega (arith, inv.ends, ap length same) } in
    let told = refusal_told c.in_err-is_more.field-0.0 in
    let refused = explains-told (next inv.macroblocks) c.macroblocks.from end inv.middle told (c.in_err-is_more.ensures.refused c.args.picture.seq.now inv.macroblocks inv.stands) has in
    let p = err_from_is_err_and c.from_residual.result c.from_residual.ensures.1 in
    rw (p.1, p.2) (subst (λ (b : List ℕ). RefusesTold (many next) told end b) (sym same) (list-refused next inv.macroblocks told end inv.bits inv.middle inv.front refused))

pub returns-in_err-closed-clause-gives : goal.returns-in_err-closed-clause-gives
returns-in_err-closed-clause-gives g c = λ bits told_bits.
    let p = err_from_is_err_and c.from_residual-in_err-closed.result c.from_residual-in_err-closed.ensures.1 in
    rw (p.1, p.2)
    (none-told (many (next_macroblock c.args.picture.seq.now c.args.picture.coding.now)) (refusal_told c.in_err-closed.field-0.0) (place c.args.from.now + length bits) bits c.in_err-closed.ensures.outside)

pub returns-then-not-is_more-clause-gives : goal.returns-then-not-is_more-clause-gives
returns-then-not-is_more-clause-gives g c = λ bits told_bits.
    let seq = c.args.picture.seq.now in
    let coding = c.args.picture.coding.now in
    let next = next_macroblock seq coding in
    let inv = c.macroblocks.invariant in
    let ms = inv.macroblocks in
    let end : ℕ = place c.args.from.now + length bits in
    let both : Some bits ≡ Some inv.bits = sym told_bits ∙ inv.told in
    let same : bits ≡ inv.bits = cc in
    let has : Rests c.macroblocks.from end inv.middle = record { told = inv.left; ends = omega (arith, inv.ends, ap length same) } in
    let (rest, s, behind) = reads-told (next ms) c.macroblocks.from end inv.middle c.next.new.from (next_of c.next.new.into c.in_ok-is_more.is_more)
    (c.in_ok-is_more.ensures.ok seq ms inv.stands) has in
    let closed : (next ms).Spells (last tt) inv.middle rest = subst (λ (b : Bool). (next ms).Spells (next_of c.next.new.into b) inv.middle rest) c.if-not-is_more.true s in
    let all_read : inv.closed ≡ true = last-closed seq coding inv.closed ms inv.middle rest inv.is_closed closed in
    record {
      macroblocks = ms;
      rest = rest;
      spelled = subst (λ (b : List ℕ). (many next).Spells (ms, tt) b rest) (sym same) (several-end next ms tt inv.bits inv.middle rest inv.front closed);
      left = behind.told;
      ends = behind.ends;
      spans = span-whole seq coding ms c.macroblocks.span inv.middle rest inv.spans closed;
      few = omega (arith, inv.columns_left, c.columns-columns.ensures.value, c.columns-columns.ensures.few);
      each = λ k d below.
          let start : VersionCount = get_or c.args.counts.now k d in
          subst (λ (b : Bool). AreCounted seq coding start.state ms b (get_or c.macroblocks.counts k d)) all_read (inv.each k d below);
    }

pub count_next-in_force-requires-clause-spelled : goal.count_next-in_force-requires-clause-spelled
count_next-in_force-requires-clause-spelled g c =
    let seq = c.args.picture.seq.now in
    let coding = c.args.picture.coding.now in
    let next = next_macroblock seq coding in
    let inv = c.macroblocks.invariant in
    let ms = inv.macroblocks in
    let m = c.next.new.into in
    let has : Rests c.macroblocks.from (place c.args.from.now + length inv.bits) inv.middle = record { told = inv.left; ends = inv.ends } in
    let (rest, s, behind) = reads-told (next ms) c.macroblocks.from (place c.args.from.now + length inv.bits) inv.middle c.next.new.from (next_of m c.in_ok-is_more.is_more)
    (c.in_ok-is_more.ensures.ok seq ms inv.stands) has in
    let one : (next ms).Spells (more m) inv.middle rest = subst (λ (b : Bool). (next ms).Spells (next_of m b) inv.middle rest) c.if-not-is_more.false s in
    spelled-next seq coding ms m inv.middle rest one

pub count_next-in_force-requires-clause-each : goal.count_next-in_force-requires-clause-each
count_next-in_force-requires-clause-each g c = λ k d below.
    let inv = c.macroblocks.invariant in
    let states = inv.states k d below in
    let start : VersionCount = get_or c.args.counts.now k d in
    let few : sum_by span_of inv.macroblocks + span_of c.next.new.into ≤ 4096 = omega (
      arith,
      inv.spans.end,
      inv.columns_left,
      c.in_ok-is_more.ensures.counted c.if-not-is_more.false,
      c.columns-columns.ensures.value,
      c.columns-columns.ensures.few,
    ) in
    can-count c.args.picture.seq.now c.args.picture.coding.now start.state inv.macroblocks inv.closed (slice_index c.args.ratios.now k) c.macroblocks.in_force c.next.new.into
    (get_or c.macroblocks.counts k d) few states.0 states.1 (inv.each k d below)

pub with-span-requires : goal.with-span-requires
with-span-requires g c =
    omega (arith, c.macroblocks.invariant.columns_left, c.in_ok-is_more.ensures.counted c.if-not-is_more.false, c.columns-columns.ensures.value, c.columns-columns.ensures.few)

pub macroblocks-preserved : goal.macroblocks-preserved
macroblocks-preserved g c =
    let seq = c.args.picture.seq.now in
    let coding = c.args.picture.coding.now in
    let next = next_macroblock seq coding in
    let inv = c.macroblocks.invariant in
    let ms = inv.macroblocks in
    let m = c.next.new.into in
    let end : ℕ = place c.args.from.now + length inv.bits in
    let has : Rests c.macroblocks.from end inv.middle = record { told = inv.left; ends = inv.ends } in
    let (rest, s, behind) = reads-told (next ms) c.macroblocks.from end inv.middle c.next.new.from (next_of m c.in_ok-is_more.is_more)
    (c.in_ok-is_more.ensures.ok seq ms inv.stands) has in
    let one : (next ms).Spells (more m) inv.middle rest = subst (λ (b : Bool). (next ms).Spells (next_of m b) inv.middle rest) c.if-not-is_more.false s in
    let was_open : inv.closed ≡ false = more-open seq coding inv.closed ms m inv.middle rest inv.is_closed one in
    let stands = c.in_ok-is_more.ensures.behind seq ms inv.stands c.if-not-is_more.false in
    let is_span = c.with-span.ensures.so_far ms m inv.spans refl in
    let closed : Bool = c.in_ok-closed.closed in
    let is_inner : c.is_inner-inner.result ≡ (not (length ms == 0) && not closed) =
    c.is_inner-inner.ensures ∙ ap (λ (b : Bool). not b && not closed) (is-first ms c.macroblocks.span inv.spans) in
    record {
      macroblocks = ms ++ m ∷ [];
      stands = stands;
      columns_left = omega (arith, inv.columns_left, c.in_ok-is_more.ensures.counted c.if-not-is_more.false, c.with-span.ensures.end);
      spans = record { first = is_span.first; end = is_span.end };
      bits = inv.bits;
      told = inv.told;
      middle = rest;
      front = several-more next ms m inv.bits inv.middle rest inv.front one;
      left = c.is_closed.ensures.left ∙ behind.told;
      ends = omega (arith, c.is_closed.ensures.place, behind.ends);
      closed = closed;
      is_closed = closed-behind closed c.next.new.self.first ms m (bits_left c.next.new.from) rest stands.first behind.told c.in_ok-closed.ensures.closed c.in_ok-closed.ensures.going;
      each = λ k d below.
          let start : VersionCount = get_or c.args.counts.now k d in
          counted-more seq coding start.state ms m c.is_inner-inner.result closed (get_or c.macroblocks.counts k d) (get_or c.count_next-in_force.new.counts k d) is_inner
          (subst (λ (b : Bool). AreCounted seq coding start.state ms b (get_or c.macroblocks.counts k d)) was_open (inv.each k d below))
          (c.count_next-in_force.ensures.each k d below);
      states = λ k d below.
          let states = inv.states k d below in
          let kept = state-kept seq coding c.is_inner-inner.result m (slice_index c.args.ratios.now k) c.macroblocks.in_force
          (get_or c.macroblocks.counts k d) (get_or c.count_next-in_force.new.counts k d) states.0 states.1 (c.count_next-in_force.ensures.each k d below) in
          (kept.0, kept.1 ∙ sym c.count_next-in_force.ensures.code);
      code = c.count_next-in_force.ensures.is_code;
      keeps = keeps_then g.met.S.Source.keeps_on (keeps_then g.met.S.Source.keeps_on inv.keeps c.in_ok-is_more.ensures.keeps) c.in_ok-closed.ensures.keeps;
    }

use Rattle.std.proofs.Common.{◌≡◌, ◌==◌, ◌&&◌, not, ℕ, List, Bool, [], ◌∷◌, ◌++◌, rules, refl, sym, ap, subst, ◌∙◌, length, arith}
use Rattle.std.proofs.lemmas.Result.{err_from_is_err_and}
use Rattle.bit_cursor.specs.BitReader.{bits_left}
use Rattle.bit_cursor.proofs.Source.{keeps_then}
use Rattle.syntax_types.specs.declared.macroblock.Macroblock.{Macroblock}
use Rattle.picture_grammar.specs.Grammar.Next.{more, last}
use Rattle.picture_grammar.specs.Slice.{next_macroblock}
use Rattle.grammar_reading.proofs.Several.{several-more, several-end}
use Rattle.grammar_reading.specs.Several.{SpellsFront}
use Rattle.video_headers.specs.Private.Reading.{Rests}
use Rattle.macroblock_reader.specs.SliceFault.{refusal_told}
use Rattle.macroblock_reader.specs.SliceCursor.{StandsBehind, next_of}
use Rattle.macroblock_writer.proofs.Going.{goes-as, goes-nowhere, goes-then}
use Rattle.picture_reader.specs.Coverage.{IsSpan}
use Rattle.picture_reader.proofs.Told.{reads-told, explains-told, list-refused, span-whole}
use Rattle.requantiser.specs.Steps.{IsStep, taken_by, state_behind, AreSteps}
use Rattle.requantiser.proofs.Steps.{length-taken}
use Rattle.version_maker.proofs.Counts.{skipped-behind, state-behind}
use Rattle.version_maker.proofs.MadeSlices.{closes-last, closing-kept, later-state, none-in-order, one-more-in-order, taken-more, written-more}
use Rattle.version_maker.proofs.SliceSteps.{spelled-next}
use Rattle.version_maker.proofs.slice_version.make_macroblocks.Goals as goal

pub macroblocks-init : goal.macroblocks-init
macroblocks-init g c = record {
  steps = [];
  behind = refl;
  first = refl;
  stands = c.new-cursor.ensures;
  counted = omega (arith, c.new-cursor.ensures.left, c.new-span.ensures.end);
  spans = c.new-span.ensures.so_far;
  room = omega (arith, c.new-cursor.ensures.left, c.requires.none);
  read = λ end bits has. (bits, refl, has, none-in-order c.args.picture.seq.now c.args.picture.coding.now c.args.start bits);
  keeps = search rules;
  goes = goes-nowhere c.args.to.now c.requires.goes;
}

pub returns-in_err-is_more-clause-gives : goal.returns-in_err-is_more-clause-gives
returns-in_err-is_more-clause-gives g c = λ end bits has.
    let next = next_macroblock c.args.picture.seq.now c.args.picture.coding.now in
    let inv = c.macroblocks.invariant in
    let ms = taken_by inv.steps in
    let (middle, spelled, left, order) = inv.read end bits has in
    let told = refusal_told c.in_err-is_more.field-0.0 in
    let refused = explains-told (next ms) c.macroblocks.from end middle told (c.in_err-is_more.ensures.refused c.args.picture.seq.now ms inv.stands) left in
    let p = err_from_is_err_and c.from_residual.result c.from_residual.ensures.1 in
    rw (p.1, p.2) (list-refused next ms told end bits middle spelled refused)

pub returns-then-not-is_more-clause-gives : goal.returns-then-not-is_more-clause-gives
returns-then-not-is_more-clause-gives g c = λ end bits has.
    let seq = c.args.picture.seq.now in
    let coding = c.args.picture.coding.now in
    let next = next_macroblock seq coding in
    let inv = c.macroblocks.invariant in
    let ms = taken_by inv.steps in
    let (middle, spelled, left, order) = inv.read end bits has in
    let (rest, s, behind) = reads-told (next ms) c.macroblocks.from end middle c.next.new.from (next_of c.next.new.into c.in_ok-is_more.is_more)
    (c.in_ok-is_more.ensures.ok seq ms inv.stands) left in
    let closed : (next ms).Spells (last tt) middle rest = subst (λ (b : Bool). (next ms).Spells (next_of c.next.new.into b) middle rest) c.if-not-is_more.true s in
    record {
      steps = inv.steps;
      rest = rest;
      spelled = several-end next ms tt bits middle rest spelled closed;
      left = behind;
      spans = span-whole seq coding ms c.macroblocks.span middle rest inv.spans closed;
      in_order = subst (λ (n : ℕ). AreSteps seq coding n 0 c.args.start inv.steps) (sym (length-taken inv.steps)) (order.0 (closes-last seq coding ms middle rest closed));
      goes = inv.goes;
    }

pub with-span-requires : goal.with-span-requires
with-span-requires g c =
    omega (arith, c.macroblocks.invariant.counted, c.in_ok-is_more.ensures.counted c.if-not-is_more.false, c.columns-columns.ensures.value, c.columns-columns.ensures.few)

pub make_macroblock-requires-clause-spelled : goal.make_macroblock-requires-clause-spelled
make_macroblock-requires-clause-spelled g c =
    let seq = c.args.picture.seq.now in
    let coding = c.args.picture.coding.now in
    let next = next_macroblock seq coding in
    let inv = c.macroblocks.invariant in
    let ms = taken_by inv.steps in
    let m = c.next.new.into in
    let (end, bits, has) = c.requires.told in
    let (middle, spelled, left, order) = inv.read end bits has in
    let (rest, s, behind) = reads-told (next ms) c.macroblocks.from end middle c.next.new.from (next_of m c.in_ok-is_more.is_more)
    (c.in_ok-is_more.ensures.ok seq ms inv.stands) left in
    let one : (next ms).Spells (more m) middle rest = subst (λ (b : Bool). (next ms).Spells (next_of m b) middle rest) c.if-not-is_more.false s in
    spelled-next seq coding ms m middle rest one

pub make_macroblock-requires-clause-room : goal.make_macroblock-requires-clause-room
make_macroblock-requires-clause-room g c =
    omega (arith, c.macroblocks.invariant.room, c.in_ok-is_more.ensures.counted c.if-not-is_more.false, c.columns-columns.ensures.value, c.columns-columns.ensures.few)

pub macroblocks-preserved : goal.macroblocks-preserved
macroblocks-preserved g c =
    let seq = c.args.picture.seq.now in
    let coding = c.args.picture.coding.now in
    let start = c.args.start in
    let next = next_macroblock seq coding in
    let inv = c.macroblocks.invariant in
    let ms = taken_by inv.steps in
    let m = c.next.new.into in
    let made = c.in_ok-make_macroblock.ensures in
    let step = made.step in
    let taken : taken_by (inv.steps ++ step ∷ []) ≡ ms ++ m ∷ [] = taken-more inv.steps step m made.same in
    let is_span = c.with-span.ensures.so_far ms m inv.spans refl in
    let span : IsSpan (taken_by (inv.steps ++ step ∷ [])) c.with-span.result = subst (λ (xs : List Macroblock). IsSpan xs c.with-span.result) (sym taken) is_span in
    let is : IsStep seq coding c.is_inner-inner.result (state_behind start inv.steps) step =
    subst (λ s. IsStep seq coding c.is_inner-inner.result s step) (sym inv.behind) made.is in
    let inner : c.is_inner-inner.result ≡ (not (length inv.steps == 0) && not c.in_ok-is_last.is_last) =
    c.is_inner-inner.ensures ∙ ap (λ (b : Bool). not b && not c.in_ok-is_last.is_last) inv.first in
    record {
      steps = inv.steps ++ step ∷ [];
      behind = state-behind start inv.steps step ∙ sym made.state;
      first = later-state inv.steps step;
      stands = subst (λ (xs : List Macroblock). StandsBehind seq xs c.next.new.self) (sym taken) (c.in_ok-is_more.ensures.behind seq ms inv.stands c.if-not-is_more.false);
      counted = omega (arith, inv.counted, c.in_ok-is_more.ensures.counted c.if-not-is_more.false, c.with-span.ensures.end);
      spans = record { first = span.first; end = span.end };
      room = omega (
        arith,
        inv.room,
        c.in_ok-is_more.ensures.counted c.if-not-is_more.false,
        skipped-behind step.from step.made c.macroblocks.state step.behind made.is.state,
        ap (λ (x : Macroblock). x.skipped_before) made.same,
        ap (λ s. s.skipped) made.state,
      );
      read = λ end bits has.
          let (middle, spelled, left, order) = inv.read end bits has in
          let (rest, s, behind) = reads-told (next ms) c.macroblocks.from end middle c.next.new.from (next_of m c.in_ok-is_more.is_more)
          (c.in_ok-is_more.ensures.ok seq ms inv.stands) left in
          let one : (next ms).Spells (more m) middle rest = subst (λ (b : Bool). (next ms).Spells (next_of m b) middle rest) c.if-not-is_more.false s in
          let now : Rests c.is_closed.new.from end rest = record {
            told = c.in_ok-is_last.ensures.left ∙ behind.told;
            ends = omega (arith, c.in_ok-is_last.ensures.place, behind.ends);
          } in
          let stands = c.in_ok-is_more.ensures.behind seq ms inv.stands c.if-not-is_more.false in
          let last = c.in_ok-is_last.ensures in
          let closing = closing-kept seq ms m c.next.new.self c.in_ok-is_last.is_last (bits_left c.next.new.from) rest behind.told last.closed last.going stands in (
            rest,
            subst (λ (xs : List Macroblock). SpellsFront next [] xs bits rest) (sym taken) (several-more next ms m bits middle rest spelled one),
            now,
            one-more-in-order seq coding start inv.steps step ms m middle rest c.is_inner-inner.result c.in_ok-is_last.is_last (length-taken inv.steps) one order closing.0 closing.1 inner is,
          );
      keeps = keeps_then g.met.S.Source.keeps_on (keeps_then g.met.S.Source.keeps_on inv.keeps c.in_ok-is_more.ensures.keeps) c.in_ok-is_last.ensures.keeps;
      goes = goes-as (goes-then inv.goes made.put) (written-more coding inv.steps step);
    }

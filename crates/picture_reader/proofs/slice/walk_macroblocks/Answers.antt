use Rattle.std.proofs.Common.{Bool, [], refl, ap, subst, ◌∙◌, ◌∷◌, ◌++◌, arith}
use Rattle.std.proofs.lemmas.Result.{err_from_is_err_and}
use Rattle.bit_cursor.proofs.Source.{keeps_then}
use Rattle.picture_grammar.specs.Grammar.Next.{more, last}
use Rattle.picture_grammar.specs.Slice.{next_macroblock}
use Rattle.grammar_reading.proofs.Several.{several-more, several-end}
use Rattle.macroblock_reader.specs.SliceFault.{refusal_told}
use Rattle.macroblock_reader.specs.SliceCursor.{next_of}
use Rattle.picture_reader.proofs.Told.{reads-told, explains-told, list-refused, span-whole}
use Rattle.picture_reader.proofs.slice.walk_macroblocks.Goals as goal

pub returns-in_err-is_more-clause-gives : goal.returns-in_err-is_more-clause-gives
returns-in_err-is_more-clause-gives g c = λ end bits has.
    let next = next_macroblock c.args.picture.seq.now c.args.picture.coding.now in
    let inv = c.macroblocks.invariant in
    let (middle, spelled, left) = inv.read end bits has in
    let told = refusal_told c.in_err-is_more.field-0.0 in
    let refused = explains-told (next inv.macroblocks) c.macroblocks.from end middle told (c.in_err-is_more.ensures.refused c.args.picture.seq.now inv.macroblocks inv.stands) left in
    let p = err_from_is_err_and c.from_residual.result c.from_residual.ensures.1 in
    rw (p.1, p.2) (list-refused next inv.macroblocks told end bits middle spelled refused)

pub returns-then-not-is_more-clause-gives : goal.returns-then-not-is_more-clause-gives
returns-then-not-is_more-clause-gives g c = λ end bits has.
    let next = next_macroblock c.args.picture.seq.now c.args.picture.coding.now in
    let inv = c.macroblocks.invariant in
    let ms = inv.macroblocks in
    let (middle, spelled, left) = inv.read end bits has in
    let (rest, s, behind) = reads-told (next ms) c.macroblocks.from end middle c.next.new.from (next_of c.next.new.into c.in_ok-is_more.is_more)
    (c.in_ok-is_more.ensures.ok c.args.picture.seq.now ms inv.stands) left in
    let closed : (next ms).Spells (last tt) middle rest = subst (λ (b : Bool). (next ms).Spells (next_of c.next.new.into b) middle rest) c.if-not-is_more.true s in
    record {
      macroblocks = ms;
      rest = rest;
      spelled = several-end next ms tt bits middle rest spelled closed;
      left = behind;
      spans = span-whole c.args.picture.seq.now c.args.picture.coding.now ms c.macroblocks.span middle rest inv.spans closed;
      kept = inv.kept;
    }

pub with-span-requires : goal.with-span-requires
with-span-requires g c =
    omega (arith, c.macroblocks.invariant.counted, c.in_ok-is_more.ensures.counted c.if-not-is_more.false, c.columns-columns.ensures.value, c.columns-columns.ensures.few)

pub macroblocks-preserved : goal.macroblocks-preserved
macroblocks-preserved g c =
    let next = next_macroblock c.args.picture.seq.now c.args.picture.coding.now in
    let inv = c.macroblocks.invariant in
    let ms = inv.macroblocks in
    let m = c.next.new.into in
    let is_span = c.with-span.ensures.so_far ms m inv.spans refl in
    record {
      macroblocks = ms ++ m ∷ [];
      stands = c.in_ok-is_more.ensures.behind c.args.picture.seq.now ms inv.stands c.if-not-is_more.false;
      counted = omega (arith, inv.counted, c.in_ok-is_more.ensures.counted c.if-not-is_more.false, c.with-span.ensures.end);
      spans = record { first = is_span.first; end = is_span.end };
      kept = λ keep. c.in_ok-keep_macroblock.ensures keep ∙ ap (λ l. l ++ m ∷ []) (inv.kept keep);
      read = λ end bits has.
          let (middle, spelled, left) = inv.read end bits has in
          let (rest, s, behind) = reads-told (next ms) c.macroblocks.from end middle c.next.new.from (next_of m c.in_ok-is_more.is_more)
          (c.in_ok-is_more.ensures.ok c.args.picture.seq.now ms inv.stands) left in
          let one : (next ms).Spells (more m) middle rest = subst (λ (b : Bool). (next ms).Spells (next_of m b) middle rest) c.if-not-is_more.false s in
          (rest, several-more next ms m bits middle rest spelled one, behind);
      keeps = keeps_then g.met.S.Source.keeps_on inv.keeps c.in_ok-is_more.ensures.keeps;
    }

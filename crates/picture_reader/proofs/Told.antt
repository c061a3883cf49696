-- What readers say, where all bits are told.
use Rattle.std.proofs.Common.{◌≡◌, ◌≢◌, ℕ, ◌+◌, ◌<◌, List, [], ◌∷◌, ◌++◌, length, Option, Some, None, IfSome, refl, sym, ap, subst, ◌∙◌, arith}
use Rattle.std.specs.Option.{option_map}
use Rattle.std.proofs.lemmas.List.{length-append}
use Rattle.std.proofs.lemmas.List.Sums.{sum_by-cons}
use Rattle.shelf_io.specs.declared.source.Source.{Ghosts}
use Rattle.bit_cursor.specs.declared.bit_reader.BitReader.{BitReader}
use Rattle.bit_cursor.specs.BitReader.{bits_left, place}
use Rattle.picture_grammar.specs.Grammar.{Grammar, many, Next}
use Rattle.picture_grammar.specs.Grammar.Next.{more, last}
use Rattle.grammar_reading.specs.BitsRead.{PlacedRefusal, IsSpelled, ExplainsFrom, Reads, Explains}
use Rattle.grammar_reading.specs.Several.{SpellsFront}
use Rattle.grammar_reading.proofs.Several.{several-refused}
use Rattle.std.specs.List.{sum_by}
use Rattle.syntax_types.specs.declared.macroblock.Macroblock.{Macroblock}
use Rattle.syntax_types.specs.declared.picture.PicCoding.{PicCoding}
use Rattle.syntax_types.specs.declared.picture.SeqState.{SeqState}
use Rattle.picture_grammar.specs.Picture.{first_column}
use Rattle.picture_grammar.specs.Slice.{next_macroblock}
use Rattle.video_headers.specs.Private.Reading.{Rests}
use Rattle.picture_reader.specs.declared.coverage.Span.{Span}
use Rattle.picture_reader.specs.Coverage.{IsSpan}
use Rattle.picture_reader.specs.Told.{RefusesTold}
use Rattle.picture_reader.specs.Coverage.{IsSpanSoFar}

module _ {A S : Type 0} {g : Ghosts S} (grammar : Grammar A) (old : BitReader S g) (end : ℕ) (bits : List ℕ) where
  -- a value that was read is spelled by the bits that were left
  pub reads-told : (new : BitReader S g) (value : A) → Reads grammar value old new → Rests old end bits → (rest : List ℕ) × grammar.Spells value bits rest × Rests new end rest
  reads-told new value r has = by_bits (bits_left new) refl r.spelled r.left where
    by_bits : (after : Option (List ℕ)) → bits_left new ≡ after → IsSpelled grammar value r.front after → bits_left old ≡ option_map (λ (rest : List ℕ). r.front ++ rest) after
        → (rest : List ℕ) × grammar.Spells value bits rest × Rests new end rest
    by_bits None e s split = absurd (let never : Some bits ≡ None = sym has.told ∙ split in cc)
    by_bits (Some rest) e s split =
        let both : Some bits ≡ Some (r.front ++ rest) = sym has.told ∙ split in
        let same : bits ≡ r.front ++ rest = cc in (
          rest,
          subst (λ (b : List ℕ). grammar.Spells value b rest) (sym same) s,
          record {
            told = e;
            ends = omega (arith, r.moved, has.ends, ap length same, length-append r.front rest);
          },
        )

  -- a refusal that a fault tells is one of the bits that were left
  pub explains-told : (told : Option PlacedRefusal) → Explains grammar old told → Rests old end bits → RefusesTold grammar told end bits
  explains-told None explains has = tt
  explains-told (Some said) explains has =
      let r = subst (λ (o : Option (List ℕ)). IfSome o (λ b. ExplainsFrom grammar (Some said) b (place old))) has.told explains in
      (r.left, r.refused, omega (arith, r.moved, has.ends, ap length r.split, length-append r.front r.left))

-- ---- the macroblocks of a slice

pub list-refused : {A B : Type 0} (next : List A → Grammar (Next A B)) (values : List A) (told : Option PlacedRefusal) (end : ℕ) (bits middle : List ℕ) → SpellsFront next [] values bits middle
    → RefusesTold (next values) told end middle → RefusesTold (many next) told end bits
list-refused next values None end bits middle s r = tt
list-refused next values (Some said) end bits middle s (left, r, at) = (left, several-refused next values bits middle left said.refusal s r, at)

-- a slice has a macroblock
never-first : (seq : SeqState) (coding : PicCoding) (bits rest : List ℕ) → (next_macroblock seq coding []).Spells (last tt) bits rest → ⊥
never-first seq coding bits rest (m, middle, s, (e, f)) = let e' : last tt ≡ more m = e in cc

span-some : (ms : List Macroblock) → ms ≢ [] → first_column ms < sum_by (λ m. m.skipped_before + 1) ms
span-some [] some = absurd (some refl)
span-some (m ∷ ms) some = omega (arith, sum_by-cons (λ m. m.skipped_before + 1) m ms)

pub span-whole : (seq : SeqState) (coding : PicCoding) (ms : List Macroblock) (span : Span) (bits rest : List ℕ) → IsSpanSoFar ms span
    → (next_macroblock seq coding ms).Spells (last tt) bits rest → IsSpan ms span
span-whole seq coding [] span bits rest so_far s = absurd (never-first seq coding bits rest s)
span-whole seq coding (m ∷ ms) span bits rest so_far s = record {
  first = so_far.first;
  end = so_far.end;
  some = (let some = span-some (m ∷ ms) (λ e. let e' : m ∷ ms ≡ [] = e in cc) in omega
      (arith, some, so_far.first, so_far.end));
}

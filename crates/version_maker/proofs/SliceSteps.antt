-- One more macroblock of a slice, and whether the slice is closed behind it.
use Rattle.std.proofs.Common.{◌≡◌, ℕ, Option, Some, None, IfSome, List, [], ◌∷◌, ◌++◌, Bool, true, false, refl, sym, ◌∙◌, ap, subst, inl, inr, arith, length}
use Rattle.std.specs.Prelude.{◌==◌, ◌⊎◌, IsNone}
use Rattle.std.proofs.lemmas.Bool.{eq-eqb, ne_eqb}
use Rattle.std.proofs.lemmas.List.{length-append}
use Rattle.std.proofs.lemmas.List.Sums.{sum_by-cons}
use Rattle.syntax_types.specs.declared.macroblock.Macroblock.{Macroblock}
use Rattle.syntax_types.specs.declared.picture.PicCoding.{PicCoding}
use Rattle.syntax_types.specs.declared.picture.SeqState.{SeqState}
use Rattle.picture_grammar.specs.Grammar.{Grammar, Next}
use Rattle.picture_grammar.specs.Grammar.Next.{more, last}
use Rattle.picture_grammar.specs.Macroblock.{macroblock}
use Rattle.picture_grammar.specs.Slice.{ClosesSlice, columns, columns_left, next_macroblock}
use Rattle.grammar_reading.specs.BitsRead.{PlacedRefusal}
use Rattle.picture_reader.specs.declared.coverage.Span.{Span}
use Rattle.picture_reader.specs.Coverage.{IsSpanSoFar}
use Rattle.picture_reader.specs.Told.{RefusesTold}
use Rattle.requantiser.specs.VersionState.{IsSpelledMacroblock}
use Rattle.requantiser.proofs.MacroblockSteps.{span_of}
use Rattle.version_maker.specs.Private.Read.{IsClosed}

-- a macroblock that comes next, or this one where the end does
of-next : Macroblock → Next Macroblock (Unit {0}) → Macroblock
of-next other (more m) = m
of-next other (last end) = other

-- bits that spell one more macroblock spell a macroblock
pub spelled-next : (seq : SeqState) (coding : PicCoding) (ms : List Macroblock) (m : Macroblock) (bits rest : List ℕ) → (next_macroblock seq coding ms).Spells (more m) bits rest
    → IsSpelledMacroblock coding m
unfolding of-next
spelled-next seq coding [] m bits rest (a, middle, s, (e, f)) = record {
  first = true;
  columns_left = columns seq;
  bits = bits;
  rest = middle;
  spelled = subst (λ (x : Macroblock). (macroblock coding true (columns seq)).Spells x bits middle) (sym (ap (of-next m) e)) s;
}
spelled-next seq coding (x ∷ xs) m bits rest (inl (closes, (e, f))) = absurd (let never : more m ≡ last tt = e in cc)
spelled-next seq coding (x ∷ xs) m bits rest (inr (open_, (a, middle, s, (e, f)))) = record {
  first = false;
  columns_left = columns_left seq (x ∷ xs);
  bits = bits;
  rest = middle;
  spelled = subst (λ (y : Macroblock). (macroblock coding false (columns_left seq (x ∷ xs))).Spells y bits middle) (sym (ap (of-next m) e)) s;
}

-- where one more macroblock is spelled the slice isn't closed, and it is where its end is
pub more-open : (seq : SeqState) (coding : PicCoding) (closed : Bool) (ms : List Macroblock) (m : Macroblock) (bits rest : List ℕ) → IsClosed closed ms bits
    → (next_macroblock seq coding ms).Spells (more m) bits rest → closed ≡ false
more-open seq coding false ms m bits rest is s = refl
more-open seq coding true [] m bits rest is s = absurd (is.0 refl)
more-open seq coding true (x ∷ xs) m bits rest is (inl (closes, (e, f))) = absurd (let never : more m ≡ last tt = e in cc)
more-open seq coding true (x ∷ xs) m bits rest is (inr (goes_on, s)) = absurd (goes_on is.1)

pub last-closed : (seq : SeqState) (coding : PicCoding) (closed : Bool) (ms : List Macroblock) (bits rest : List ℕ) → IsClosed closed ms bits
    → (next_macroblock seq coding ms).Spells (last tt) bits rest → closed ≡ true
last-closed seq coding true ms bits rest is s = refl
last-closed seq coding false [] bits rest is (m, middle, s, (e, f)) = absurd (let never : last tt ≡ more m = e in cc)
last-closed seq coding false (x ∷ xs) bits rest (inl none) s = absurd (let e : x ∷ xs ≡ [] = none in cc)
last-closed seq coding false (x ∷ xs) bits rest (inr goes_on) (inl (closes, s)) = absurd (goes_on closes)
last-closed seq coding false (x ∷ xs) bits rest (inr goes_on) (inr (open_, (m, middle, s, (e, f)))) = absurd (let never : last tt ≡ more m = e in cc)

-- what a cursor says of the close behind a macroblock that was read
pub closed-behind : (closed first : Bool) (ms : List Macroblock) (m : Macroblock) (left : Option (List ℕ)) (rest : List ℕ) → first ≡ (length (ms ++ m ∷ []) == 0) → left ≡ Some rest
    → (closed ≡ true → (first ≡ false) × IfSome left ClosesSlice) → (closed ≡ false → (first ≡ true) ⊎ IfSome left (λ b. ClosesSlice b → ⊥))
    → IsClosed closed (ms ++ m ∷ []) rest
closed-behind true first ms m left rest is told shut going = (
  λ none. absurd (omega (arith, length-append ms (m ∷ []), ap length none)),
  subst (λ (o : Option (List ℕ)). IfSome o ClosesSlice) told (shut refl).1,
)
closed-behind false first ms m left rest is told shut going = by_going (going refl)
  where
    later : first ≡ false
    later = is ∙ ne_eqb (length (ms ++ m ∷ [])) 0 (λ e. absurd (omega (arith, length-append ms (m ∷ []), e)))

    by_going : (first ≡ true) ⊎ IfSome left (λ b. ClosesSlice b → ⊥) → IsClosed false (ms ++ m ∷ []) rest
    by_going (inl first_one) = absurd (let e : true ≡ false = sym first_one ∙ later in cc)
    by_going (inr goes_on) = inr (subst (λ (o : Option (List ℕ)). IfSome o (λ b. ClosesSlice b → ⊥)) told goes_on)

-- no column is held before the first macroblock
pub is-first : (ms : List Macroblock) (span : Span) → IsSpanSoFar ms span → (span.end == 0) ≡ (length ms == 0)
is-first [] span is = eq-eqb span.end 0 is.end
is-first (m ∷ ms) span is =
    ne_eqb span.end 0 (λ e. absurd (omega (arith, is.end, sum_by-cons span_of m ms, e))) ∙ sym (ne_eqb (length (m ∷ ms)) 0 (λ e. absurd (omega (arith, e))))

-- a fault that tells no refusal
pub none-told : {A : Type 0} (grammar : Grammar A) (told : Option PlacedRefusal) (end : ℕ) (bits : List ℕ) → IsNone told → RefusesTold grammar told end bits
none-told grammar None end bits none = tt
none-told grammar (Some said) end bits none = absurd (let never : true ≡ false = none in cc)

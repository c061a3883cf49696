-- Flags by their bits as numbers.
use Rattle.std.proofs.Common.{
  ◌≡◌,
  ℕ,
  zero,
  suc,
  ◌<◌,
  ◌+◌,
  ◌==◌,
  ◌&&◌,
  List,
  [],
  ◌∷◌,
  ◌++◌,
  length,
  Option,
  Some,
  None,
  IfSome,
  Result,
  Ok,
  Err,
  IsErrAnd,
  Bool,
  true,
  false,
  refl,
  sym,
  ap,
  ap₂,
  subst,
  ◌∙◌,
  inl,
  inr,
  arith,
}
use Rattle.shelf_io.specs.declared.source.Source.{Ghosts}
use Rattle.bit_lists.specs.Bits.{bits_of}
use Rattle.bit_lists.specs.Fields.{flag}
use Rattle.bit_cursor.specs.declared.bit_reader.BitReader.{BitReader}
use Rattle.picture_grammar.specs.Refusal.{Refusal}
use Rattle.picture_grammar.specs.Element.{Rule, rule, passes, MayStand, Stands, IsRefused, uimsbf, flag_where}
use Rattle.picture_grammar.specs.Headers.{is_from_to}
use Rattle.grammar_reading.specs.BitsRead.{PlacedRefusal}
use Rattle.video_headers.specs.declared.fault.HeadFault.{HeadFault}
use Rattle.video_headers.specs.HeadFault.{refusal_told}
use Rattle.video_headers.specs.declared.limit.Limit.{Limit}
use Rattle.video_headers.specs.Private.Why.{refusal_of}
use Rattle.video_headers.specs.Private.Limits.{AreRules, IsFlagRule}
use Rattle.video_headers.specs.Private.Reading.{Goes, Stops, AnswersBits}
use Rattle.video_headers.proofs.Limited.{NumberCode}
use Rattle.grammar_reading.proofs.ReadElements.{FlagCode}

-- the same rules for bits and for flags
abbrev AreSame : List (Rule ℕ) → List (Rule Bool) → Type 0
AreSame [] [] = Unit {0}
AreSame [] (s ∷ ss) = ⊥
AreSame (r ∷ rs) [] = ⊥
AreSame (r ∷ rs) (s ∷ ss) = (r.refusal ≡ s.refusal) × ((is_set : Bool) → s.test is_set ≡ r.test (flag is_set)) × AreSame rs ss

one-bit : (value : ℕ) → value < 2 → (flag (value == 1) ≡ value) × (bits_of 1 value ≡ flag (value == 1) ∷ [])
unfolding bits_of
one-bit zero lt = (refl, refl)
one-bit (suc zero) lt = (refl, refl)
one-bit (suc (suc n)) lt = absurd (omega arith)

flag-bit : (is_set : Bool) → (flag is_set < 2) × (bits_of 1 (flag is_set) ≡ flag is_set ∷ [])
unfolding bits_of
flag-bit true = (omega arith, refl)
flag-bit false = (omega arith, refl)

passes-same : (rs : List (Rule ℕ)) (ss : List (Rule Bool)) (is_set : Bool) → AreSame rs ss → passes ss is_set ≡ passes rs (flag is_set)
passes-same [] [] is_set same = refl
passes-same [] (s ∷ ss) is_set same = absurd same
passes-same (r ∷ rs) [] is_set same = absurd same
passes-same (r ∷ rs) (s ∷ ss) is_set (kind, test, same) = ap₂ (λ (a b : Bool). a && b) (test is_set) (passes-same rs ss is_set same)

module _ (bits : List ℕ) (rs : List (Rule ℕ)) (ss : List (Rule Bool)) (same : AreSame rs ss) where
  may-flag : MayStand (NumberCode 1) rs bits → MayStand FlagCode ss bits
  may-flag m =
      let one = one-bit m.value m.coded.0 in record {
        value = m.value == 1;
        code = m.code;
        coded = m.coded.1 ∙ one.1;
        passing = passes-same rs ss (m.value == 1) same ∙ ap (passes rs) one.0 ∙ m.passing;
        agrees = m.agrees;
      }

  may-number : MayStand FlagCode ss bits → MayStand (NumberCode 1) rs bits
  may-number m =
      let one = flag-bit m.value in record {
        value = flag m.value;
        code = m.code;
        coded = (one.0, m.coded ∙ sym one.1);
        passing = sym (passes-same rs ss m.value same) ∙ m.passing;
        agrees = m.agrees;
      }

  stands-number : Stands FlagCode ss bits → Stands (NumberCode 1) rs bits
  stands-number m =
      let one = flag-bit m.value in record {
        value = flag m.value;
        code = m.code;
        coded = (one.0, m.coded ∙ sym one.1);
        passing = sym (passes-same rs ss m.value same) ∙ m.passing;
        first = m.first;
      }

-- where the rules are split, so are the others
record SplitsSo (before after : List (Rule ℕ)) (broken : Rule ℕ) (ss : List (Rule Bool)) : Type 0 where
  front : List (Rule Bool)
  here : Rule Bool
  back : List (Rule Bool)
  order : ss ≡ front ++ here ∷ back
  fronts : AreSame before front
  firsts : AreSame (before ++ broken ∷ []) (front ++ here ∷ [])
  kind : broken.refusal ≡ here.refusal

splits : (before after : List (Rule ℕ)) (broken : Rule ℕ) (ss : List (Rule Bool)) → AreSame (before ++ broken ∷ after) ss → SplitsSo before after broken ss
splits [] after broken [] same = absurd same
splits [] after broken (s ∷ ss) (kind, test, same) = record { front = []; here = s; back = ss; order = refl; fronts = tt; firsts = (kind, test, tt); kind = kind }
splits (r ∷ before) after broken [] same = absurd same
splits (r ∷ before) after broken (s ∷ ss) (kind, test, same) =
    let h = splits before after broken ss same in
    record {
      front = s ∷ h.front;
      here = h.here;
      back = h.back;
      order = ap
          (λ (xs : List (Rule Bool)). s ∷ xs) h.order;
      fronts = (kind, test, h.fronts);
      firsts = (kind, test, h.firsts);
      kind = h.kind;
    }

refused-flag : (bits : List ℕ) (rs : List (Rule ℕ)) (ss : List (Rule Bool)) (none kind : Refusal) → AreSame rs ss → IsRefused (NumberCode 1) none rs bits kind → IsRefused FlagCode none ss bits kind
refused-flag bits rs ss none kind same (inl (n, e)) = inl ((λ m. n (may-number bits [] [] tt m)), e)
refused-flag bits rs ss none kind same (inr (inl b)) =
    let h = splits b.before b.after b.broken ss (subst (λ (xs : List (Rule ℕ)). AreSame xs ss) b.order same) in
    inr (inl (record {
      before = h.front;
      broken = h.here;
      after = h.back;
      order = h.order;
      so_far = may-flag bits b.before h.front h.fronts b.so_far;
      none = λ m. b.none (may-number bits (b.before ++ b.broken ∷ []) (h.front ++ h.here ∷ []) h.firsts m);
      named = b.named ∙ h.kind;
    }))
refused-flag bits rs ss none kind same (inr (inr (m, n, e))) = inr (inr (may-flag bits rs ss same m, (λ s. n (stands-number bits rs ss same s)), e))

module _ (rs : List (Rule ℕ)) (ss : List (Rule Bool)) (same : AreSame rs ss) {from : ℕ → List ℕ → Type 0} where
  goes-flag_same : {to : ℕ → List ℕ → Type 0} (bit : ℕ) → bit < 2 → Goes (uimsbf 1 rs) bit from to → Goes (flag_where ss) (bit == 1) from to
  goes-flag_same bit below goes = record {
    on = λ end bits left.
        let one = one-bit bit below in
        let (rest, (code, (fits, is), passing, split), left') = goes.on end bits left in
        (rest, (code, is ∙ one.1, passes-same rs ss (bit == 1) same ∙ ap (passes rs) one.0 ∙ passing, split), left');
  }

  stops-flag_same : (told : Option PlacedRefusal) → Stops (uimsbf 1 rs) told from → Stops (flag_where ss) told from
  stops-flag_same told stops = record { why = λ end bits left. by_told told end bits (stops.why end bits left) } where
    by_told : (told : Option PlacedRefusal) (end : ℕ) (bits : List ℕ) → IfSome told (λ said. (left : List ℕ) × (uimsbf 1 rs).Refuses bits said.refusal left × (said.at + length left ≡ end))
        → IfSome told (λ said. (left : List ℕ) × (flag_where ss).Refuses bits said.refusal left × (said.at + length left ≡ end))
    by_told None end bits why = tt
    by_told (Some said) end bits (left, (e, r), ends) = (left, (e, refused-flag bits rs ss _ said.refusal same r), ends)

-- ---- whole answers

module _ (rs : List (Rule ℕ)) (ss : List (Rule Bool)) (same : AreSame rs ss) {S : Type 0} {g : Ghosts S} {old new : BitReader S g} where
  answers-bit : (bit : ℕ) → bit < 2 → AnswersBits (uimsbf 1 rs) (Ok bit) old new → AnswersBits (flag_where ss) (Ok (bit == 1)) old new
  answers-bit bit below a = record { gives = goes-flag_same rs ss same bit below a.gives; runs = a.runs; failed = λ is. cc; missing = λ is. cc }

  answers-no_bit : {e : HeadFault} (result : Result Bool HeadFault) → IsErrAnd result (λ f. f ≡ e) → AnswersBits (uimsbf 1 rs) (Err e) old new → AnswersBits (flag_where ss) result old new
  answers-no_bit (Ok w) is a = absurd is
  answers-no_bit {e} (Err fault) is a =
      subst (λ (f : HeadFault). AnswersBits (flag_where ss) (Err f) old new) (sym is) (record {
        gives = stops-flag_same rs ss same (refusal_told e) a.gives;
        runs = a.runs;
        failed = λ is. a.failed (let e = is in cc);
        missing = λ is. a.missing (let e = is in cc);
      })

-- ---- a flag with no rule, and one with a limit of its bit

abbrev bit_rules : Limit → List (Rule ℕ)
bit_rules l = rule (refusal_of l.otherwise) (is_from_to l.least l.most) ∷ []

module _ {S : Type 0} {g : Ghosts S} {old new : BitReader S g} where
  pub answers-flag : (bit : ℕ) → bit < 2 → ((rules : List (Rule ℕ)) → AreRules 1 [] rules → AnswersBits (uimsbf 1 rules) (Ok bit) old new) → AnswersBits (flag_where []) (Ok (bit == 1)) old new
  answers-flag bit below a = answers-bit [] [] tt bit below (a [] tt)

  pub answers-no_flag : {e : HeadFault} (result : Result Bool HeadFault) → IsErrAnd result (λ f. f ≡ e)
      → ((rules : List (Rule ℕ)) → AreRules 1 [] rules → AnswersBits (uimsbf 1 rules) (Err e) old new) → AnswersBits (flag_where []) result old new
  answers-no_flag result is a = answers-no_bit [] [] tt result is (a [] tt)

  pub answers-limited_flag : (l : Limit) (r : Rule Bool) → IsFlagRule l r → (bit : ℕ) → bit < 2 → ((rules : List (Rule ℕ)) → AreRules 1 (l ∷ []) rules → AnswersBits (uimsbf 1 rules) (Ok bit) old new)
      → AnswersBits (flag_where (r ∷ [])) (Ok (bit == 1)) old new
  answers-limited_flag l r is bit below a = answers-bit (bit_rules l) (r ∷ []) (sym is.0, is.1, tt) bit below (a (bit_rules l) (refl, (λ number lt. refl), tt))

  pub answers-no_limited_flag : (l : Limit) (r : Rule Bool) → IsFlagRule l r → {e : HeadFault} (result : Result Bool HeadFault) → IsErrAnd result (λ f. f ≡ e)
      → ((rules : List (Rule ℕ)) → AreRules 1 (l ∷ []) rules → AnswersBits (uimsbf 1 rules) (Err e) old new) → AnswersBits (flag_where (r ∷ [])) result old new
  answers-no_limited_flag l r is result err a = answers-no_bit (bit_rules l) (r ∷ []) (sym is.0, is.1, tt) result err (a (bit_rules l) (refl, (λ number lt. refl), tt))

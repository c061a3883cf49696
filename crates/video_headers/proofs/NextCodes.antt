-- Start codes that may come, by the one that does.
use Rattle.std.proofs.Common.{
  ◌≡◌,
  ◌⊎◌,
  ℕ,
  ◌+◌,
  ◌*◌,
  ◌≤◌,
  ◌^◌,
  ◌<◌,
  ◌&&◌,
  nat_eq,
  List,
  [],
  ◌∷◌,
  ◌++◌,
  length,
  take,
  replicate,
  Option,
  Some,
  None,
  IfSome,
  Result,
  Ok,
  Err,
  MatchResult,
  Bool,
  true,
  false,
  refl,
  sym,
  ap,
  subst,
  ◌∙◌,
  inl,
  inr,
  arith,
  append_assoc,
  eq-eqb,
}
use Rattle.std.proofs.lemmas.Bool.{cases_Bool, eqb-true}
use Rattle.std.proofs.lemmas.List.{length-append, length-take}
use Rattle.shelf_io.specs.declared.fault.Fault.{Fault}
use Rattle.shelf_io.specs.declared.fault.Fault.TheVariants.{Failed, Missing}
use Rattle.shelf_io.specs.declared.source.Source.{Ghosts}
use Rattle.bit_lists.specs.Bits.{IsPrefix, bits_of}
use Rattle.bit_lists.proofs.BitLemmas.{length-bits_of}
use Rattle.bit_lists.proofs.PrefixLemmas.{IsPrefix-append, IsPrefix-self}
use Rattle.bit_cursor.specs.declared.bit_reader.BitReader.{BitReader}
use Rattle.picture_grammar.specs.Refusal.{Refusal}
use Rattle.picture_grammar.specs.Refusal.Refusal.{End}
use Rattle.picture_grammar.specs.Grammar.{Grammar, if_next}
use Rattle.picture_grammar.specs.Element.{MayStand, Stands, uimsbf, rule}
use Rattle.picture_grammar.specs.StartCode.{start_code_prefix, start_code_bits, zero_byte, start_code, StartCodeComes}
use Rattle.picture_grammar.proofs.ElementLaws.{breaks}
use Rattle.picture_grammar.proofs.Codes.{free-number, free-behind}
use Rattle.picture_grammar.proofs.HeaderLaws.{exact-start_code}
use Rattle.picture_laws.proofs.StartCodes.{code-made, comes-spelled}
use Rattle.grammar_reading.specs.BitsRead.{PlacedRefusal}
use Rattle.grammar_reading.specs.Several.{several}
use Rattle.grammar_reading.proofs.Several.{several-end, several-refused}
use Rattle.video_headers.specs.declared.code.Comes.{Comes}
use Rattle.video_headers.specs.declared.code.Comes.TheVariants.{Code, NoCode, Nothing}
use Rattle.video_headers.specs.declared.code.NextCode.{NextCode}
use Rattle.video_headers.specs.declared.fault.HeadFault.{HeadFault}
use Rattle.video_headers.specs.declared.fault.HeadFault.TheVariants.{Outside}
use Rattle.video_headers.specs.declared.why.Why.{Why}
use Rattle.video_headers.specs.declared.why.Why.TheVariants as why
use Rattle.video_headers.specs.HeadFault.{refusal_told}
use Rattle.video_headers.specs.Runs.{Runs}
use Rattle.video_headers.specs.Private.NextCode.{zero_item, ComesHere, ComesNext, NextRests, is_one, byte_of, refused_code}
use Rattle.video_headers.specs.Private.Reading.{Goes, Stops, Answers, AnswersLook}
use Rattle.video_headers.specs.Private.Why.{refusal_of, fault_at}
use Rattle.video_headers.specs.Private.Wholes.{Wholes}
use Rattle.video_headers.proofs.Looks.{looked}
use Rattle.video_headers.proofs.Reading.{runs-none, runs-then}

abbrev ByteCode : ℕ → List ℕ → Type 0
ByteCode byte code = (byte < 2 ^ 8) × (code ≡ start_code_bits byte)

abbrev NumberCode : ℕ → List ℕ → Type 0
NumberCode number code = (number < 2 ^ 8) × (code ≡ bits_of 8 number)

code-length : (byte : ℕ) → length (start_code_bits byte) ≡ 32
code-length byte = omega (arith, length-append start_code_prefix (bits_of 8 byte), length-bits_of 24 1, length-bits_of 8 byte)

pub front-short : (front bits : List ℕ) → IsPrefix front bits → length front ≤ length bits
front-short front bits first = omega (arith, ap length first, length-take (length front) bits)

prefix-here : (byte : ℕ) (here behind : List ℕ) → here ≡ start_code_bits byte ++ behind → IsPrefix start_code_prefix here
prefix-here byte here behind split =
    subst (IsPrefix start_code_prefix) (sym (split ∙ append_assoc start_code_prefix (bits_of 8 byte) behind)) (IsPrefix-append start_code_prefix (bits_of 8 byte ++ behind))

pub not-empty : IsPrefix start_code_prefix [] → ⊥
not-empty first = omega (arith, front-short start_code_prefix [] first, length-bits_of 24 1)

-- the kind of refusal where none of the codes comes that may
abbrev pub kind_of : Comes → Why → Refusal
kind_of (Code byte) why = refusal_of why
kind_of NoCode why = refusal_of why
kind_of Nothing why = End

module _ (codes : ℕ → Bool) (zeros here bits behind : List ℕ) (spelled : (refusal : Refusal) → (several (zero_item refusal)).Spells zeros bits here) where
  pub code-spelled : (refusal : Refusal) (comes : Comes) → ComesHere comes here behind → is_one codes comes ≡ true → (start_code refusal codes).Spells (byte_of comes) bits behind
  code-spelled refusal (Code byte) (fits, split) is = (
    (zeros, tt),
    here,
    several-end (zero_item refusal) zeros tt bits here here (spelled refusal) (inl (prefix-here byte here behind split, (refl, refl))),
    (start_code_bits byte, (fits, refl), ap (λ (b : Bool). b && true) is, split),
  )
  code-spelled refusal NoCode found is = cc
  code-spelled refusal Nothing found is = cc

  -- the codes that may come are some
  module _ (some : ℕ) (some_fits : some < 2 ^ 8) (some_may : codes some ≡ true) where
    pub code-refused : (why : Why) (comes : Comes) → ComesHere comes here behind → is_one codes comes ≡ false → (start_code (refusal_of why) codes).Refuses bits (kind_of comes why) here
    code-refused why (Code byte) (fits, split) not =
        inr (
          (zeros, tt),
          here,
          several-end (zero_item (refusal_of why)) zeros tt bits here here (spelled (refusal_of why)) (inl (prefix-here byte here behind split, (refl, refl))),
          (
            refl,
            inr (inl (breaks ByteCode (free-behind start_code_prefix 8) byte (start_code_bits byte) (fits, refl) here
                (subst (IsPrefix (start_code_bits byte)) (sym split) (IsPrefix-append (start_code_bits byte) behind)) [] []
                (rule (refusal_of why) codes) refl not)),
          ),
        )
    code-refused why NoCode (byte, some_bit, (none, fits, split)) not =
        let fails : nat_eq byte 0 ≡ false = elim (cases_Bool (nat_eq byte 0)) [ inl e ↦ absurd (some_bit (eqb-true byte 0 e)) | inr e ↦ e ] in
        let first : IsPrefix (bits_of 8 byte) here = subst (IsPrefix (bits_of 8 byte)) (sym split) (IsPrefix-append (bits_of 8 byte) _) in
        inl (several-refused (zero_item (refusal_of why)) zeros bits here here (refusal_of why) (spelled (refusal_of why))
        (inr (none, inl (refl, inr (inl (breaks NumberCode (free-number 8) byte (bits_of 8 byte) (fits, refl) here first [] [] (rule (refusal_of why) (λ b. nat_eq b 0)) refl fails))))))
    code-refused why Nothing (inl empty) not =
        let none : IsPrefix start_code_prefix here → ⊥ = λ first. not-empty (subst (IsPrefix start_code_prefix) empty first) in
        let short : length here ≡ 0 = ap length empty in
        inl (several-refused (zero_item (refusal_of why)) zeros bits here here End (spelled (refusal_of why))
        (inr (
          none,
          inl (
            refl,
            inr (inr (
              record { value = 0; code = bits_of 8 0; coded = (omega arith, refl); passing = refl; agrees = inr (subst (λ (b : List ℕ). IsPrefix b (bits_of 8 0)) (sym empty) refl) },
              λ stands. omega (arith, short, front-short stands.code here stands.first, ap length stands.coded.1, length-bits_of 8 stands.value),
              refl,
            )),
          ),
        )))
    code-refused why Nothing (inr prefix) not =
        let short : length here ≡ 24 = ap length prefix ∙ length-bits_of 24 1 in
        inr (
          (zeros, tt),
          here,
          several-end (zero_item (refusal_of why)) zeros tt bits here here (spelled (refusal_of why))
              (inl (subst (IsPrefix start_code_prefix) (sym prefix) (IsPrefix-self start_code_prefix), (refl, refl))),
          (
            refl,
            inr (inr (
              record {
                value = some;
                code = start_code_bits some;
                coded = (some_fits, refl);
                passing = ap (λ (b : Bool). b && true) some_may;
                agrees = inr (subst (λ (b : List ℕ). IsPrefix b (start_code_bits some)) (sym prefix) (IsPrefix-append start_code_prefix (bits_of 8 some)));
              },
              λ stands. omega (arith, short, front-short stands.code here stands.first, ap length stands.coded.1, code-length stands.value),
              refl,
            )),
          ),
        )

told-why : {A : Type 0} (grammar : Grammar A) (why : Why) (at end : ℕ) (bits left : List ℕ) → grammar.Refuses bits (refusal_of why) left → at + length left ≡ end
    → IfSome (refusal_told (fault_at why at)) (λ said. (left : List ℕ) × grammar.Refuses bits said.refusal left × (said.at + length left ≡ end))
told-why grammar why.BadHeader at end bits left r e = (left, r, e)
told-why grammar why.NotMpeg2 at end bits left r e = (left, r, e)
told-why grammar why.Profile at end bits left r e = (left, r, e)
told-why grammar why.LowDelay at end bits left r e = (left, r, e)
told-why grammar why.Size at end bits left r e = (left, r, e)
told-why grammar why.End at end bits left r e = (left, r, e)

told-code : {A : Type 0} (grammar : Grammar A) (comes : Comes) (why : Why) (at end : ℕ) (bits left : List ℕ) → grammar.Refuses bits (kind_of comes why) left → at + length left ≡ end
    → IfSome (refusal_told (refused_code comes why at)) (λ said. (left : List ℕ) × grammar.Refuses bits said.refusal left × (said.at + length left ≡ end))
told-code grammar (Code byte) why at end bits left r e = told-why grammar why at end bits left r e
told-code grammar NoCode why at end bits left r e = told-why grammar why at end bits left r e
told-code grammar Nothing why at end bits left r e = (left, r, e)

inside : (why : Why) (at : ℕ) (fault : Fault) → fault_at why at ≡ Outside fault → ⊥
inside why.BadHeader at fault e = cc
inside why.NotMpeg2 at fault e = cc
inside why.Profile at fault e = cc
inside why.LowDelay at fault e = cc
inside why.Size at fault e = cc
inside why.End at fault e = cc

never_outside : (comes : Comes) (why : Why) (at : ℕ) (fault : Fault) → refused_code comes why at ≡ Outside fault → ⊥
never_outside (Code byte) why at fault e = inside why at fault e
never_outside NoCode why at fault e = inside why at fault e
never_outside Nothing why at fault e = cc

-- ---- as readers

module _ {S : Type 0} {g : Ghosts S} (codes : ℕ → Bool) (next : NextCode) (reader : BitReader S g) (itself : (x : S) → g.keeps x x) where
  pub code-expected : (why : Why) → is_one codes next.comes ≡ true
      → Answers (start_code (refusal_of why) codes) (λ (b : ℕ). b) (Ok (byte_of next.comes)) (NextRests next reader)
      (λ b. Wholes reader) reader reader
  code-expected why is = record {
    gives = record {
      on = λ end bits n. (n.coming.behind, code-spelled codes n.zeros n.here bits n.coming.behind n.spelled (refusal_of why) next.comes n.coming.found is, n.coming.left);
    };
    runs = runs-none reader itself;
    failed = λ is. cc;
    missing = λ is. cc;
  }

  pub code-unexpected : (why : Why) (some : ℕ) → some < 2 ^ 8 → codes some ≡ true → is_one codes next.comes ≡ false → (e : HeadFault) → e ≡ refused_code next.comes why next.at
      → Answers (start_code (refusal_of why) codes) (λ (b : ℕ). b) (Err e) (NextRests next reader) (λ b. Wholes reader) reader reader
  code-unexpected why some fits may not e is =
      subst (λ (f : HeadFault). Answers (start_code (refusal_of why) codes) (λ (b : ℕ). b) (Err f) (NextRests next reader) (λ b. Wholes reader) reader reader) (sym is) (record {
        gives = record {
          why = λ end bits n.
              told-code (start_code (refusal_of why) codes) next.comes why next.at end bits n.here
              (code-refused codes n.zeros n.here bits n.coming.behind n.spelled some fits may why next.comes n.coming.found not) n.coming.total;
        };
        runs = runs-none reader itself;
        failed = λ is. absurd (never_outside next.comes why next.at Failed (let e = is in cc));
        missing = λ is. absurd (never_outside next.comes why next.at Missing (let e = is in cc));
      })

  pub code-comes : is_one codes next.comes ≡ true → (end : ℕ) (bits : List ℕ) → NextRests next reader end bits → StartCodeComes codes bits
  code-comes is end bits n =
      comes-spelled Refusal.BadHeader codes (byte_of next.comes) bits n.coming.behind (code-spelled codes n.zeros n.here bits n.coming.behind n.spelled Refusal.BadHeader next.comes n.coming.found is)

  pub none-comes : is_one codes next.comes ≡ false → (end : ℕ) (bits : List ℕ) → NextRests next reader end bits → StartCodeComes codes bits → ⊥
  none-comes not end bits n c =
      let s = subst (λ (b : List ℕ). (start_code Refusal.BadHeader codes).Spells c.byte b c.rest)
      (sym (c.stands ∙ append_assoc (replicate (8 * c.zeros) 0) (start_code_bits c.byte) c.rest))
      (code-made Refusal.BadHeader codes c.byte c.zeros c.rest c.is_byte c.is_one) in
      (exact-start_code Refusal.BadHeader codes).not_both c.byte bits c.rest n.here (kind_of next.comes why.BadHeader) s
      (code-refused codes n.zeros n.here bits n.coming.behind n.spelled c.byte c.is_byte c.is_one why.BadHeader next.comes n.coming.found not)

-- a look that shows a refusal
pub look-refused : {S : Type 0} {g : Ghosts S} (keeps_on : (x y z : S) → g.keeps x y → g.keeps y z → g.keeps x z) {from : ℕ → List ℕ → Type 0}
    {old mid new : BitReader S g} {A V W : Type 0} {grammar : Grammar A} {v : V} {value : W → A} (why : Why) (at : ℕ)
    {to : V → ℕ → List ℕ → Type 0} {last : W → ℕ → List ℕ → Type 0} → AnswersLook (Ok v) from to old mid → Runs mid new
    → ((end : ℕ) (bits : List ℕ) → from end bits → to v end bits → (left : List ℕ) × grammar.Refuses bits (refusal_of why) left
    × (at + length left ≡ end)) → Answers grammar value (Err (fault_at why at)) from last old new
look-refused keeps_on {grammar = grammar} why at a b shows = record {
  gives = record {
    why = λ end bits left.
        let (rest, refused, ends) = shows end bits left (looked a end bits left) in
        told-why grammar why at end bits rest refused ends;
  };
  runs = runs-then keeps_on a.runs b;
  failed = λ is. absurd (inside why at Failed (let e = is in cc));
  missing = λ is. absurd (inside why at Missing (let e = is in cc));
}

-- ---- what stands only where a code comes

module _ {A : Type 0} (IsSuch : List ℕ → Type 0) (then else : Grammar A) where
  told-such : (told : Option PlacedRefusal) (bits : List ℕ) (end : ℕ) → IsSuch bits → IfSome told (λ said. (left : List ℕ) × then.Refuses bits said.refusal left × (said.at + length left ≡ end))
      → IfSome told (λ said. (left : List ℕ) × (if_next IsSuch then else).Refuses bits said.refusal left × (said.at + length left ≡ end))
  told-such None bits end is r = tt
  told-such (Some said) bits end is (left, r, e) = (left, inl (is, r), e)

  told-other : (told : Option PlacedRefusal) (bits : List ℕ) (end : ℕ) → (IsSuch bits → ⊥) → IfSome told (λ said. (left : List ℕ) × else.Refuses bits said.refusal left × (said.at + length left ≡ end))
      → IfSome told (λ said. (left : List ℕ) × (if_next IsSuch then else).Refuses bits said.refusal left × (said.at + length left ≡ end))
  told-other None bits end is r = tt
  told-other (Some said) bits end is (left, r, e) = (left, inr (is, r), e)

  module _ (from : ℕ → List ℕ → Type 0) {W : Type 0} (value : W → A) (last : W → ℕ → List ℕ → Type 0) where
    gives-such : (result : Result W HeadFault) → ((end : ℕ) (bits : List ℕ) → from end bits → IsSuch bits)
        → MatchResult result (λ w. Goes then (value w) from (last w)) (λ fault. Stops then (refusal_told fault) from)
        → MatchResult result (λ w. Goes (if_next IsSuch then else) (value w) from (last w)) (λ fault. Stops (if_next IsSuch then else) (refusal_told fault) from)
    gives-such (Ok w) is a = record { on = λ end bits left. let (rest, s, there) = a.on end bits left in (rest, inl (is end bits left, s), there) }
    gives-such (Err fault) is a = record { why = λ end bits left. told-such (refusal_told fault) bits end (is end bits left) (a.why end bits left) }

    gives-other : (result : Result W HeadFault) → ((end : ℕ) (bits : List ℕ) → from end bits → IsSuch bits → ⊥)
        → MatchResult result (λ w. Goes else (value w) from (last w)) (λ fault. Stops else (refusal_told fault) from)
        → MatchResult result (λ w. Goes (if_next IsSuch then else) (value w) from (last w)) (λ fault. Stops (if_next IsSuch then else) (refusal_told fault) from)
    gives-other (Ok w) is a = record { on = λ end bits left. let (rest, s, there) = a.on end bits left in (rest, inr (is end bits left, s), there) }
    gives-other (Err fault) is a = record { why = λ end bits left. told-other (refusal_told fault) bits end (is end bits left) (a.why end bits left) }

module _ {A : Type 0} {IsSuch : List ℕ → Type 0} {then else : Grammar A} {from : ℕ → List ℕ → Type 0} {W : Type 0} {value : W → A} {S : Type 0}
    {g : Ghosts S} {last : W → ℕ → List ℕ → Type 0} {old new : BitReader S g} {result : Result W HeadFault} where
  pub answers-such : ((end : ℕ) (bits : List ℕ) → from end bits → IsSuch bits) → Answers then value result from last old new → Answers (if_next IsSuch then else) value result from last old new
  answers-such is a = record { gives = gives-such IsSuch then else from value last result is a.gives; runs = a.runs; failed = a.failed; missing = a.missing }

  pub answers-other : ((end : ℕ) (bits : List ℕ) → from end bits → IsSuch bits → ⊥) → Answers else value result from last old new → Answers (if_next IsSuch then else) value result from last old new
  answers-other is a = record { gives = gives-other IsSuch then else from value last result is a.gives; runs = a.runs; failed = a.failed; missing = a.missing }

-- Identifiers of extensions, by the four bits that stand there.
use Rattle.std.proofs.Common.{
  ◌≡◌,
  ℕ,
  ◌+◌,
  ◌%◌,
  ◌^◌,
  ◌<◌,
  ◌==◌,
  ◌&&◌,
  not,
  List,
  [],
  ◌∷◌,
  ◌++◌,
  length,
  drop,
  Option,
  Some,
  None,
  Ok,
  IfSome,
  Bool,
  true,
  false,
  refl,
  sym,
  ap,
  ap₂,
  subst,
  ◌∙◌,
  inl,
  inr,
  arith,
}
use Rattle.std.proofs.lemmas.List.{take-append-drop}
use Rattle.shelf_io.specs.declared.source.Source.{Ghosts}
use Rattle.bit_lists.specs.Bits.{IsPrefix, bits_of}
use Rattle.bit_lists.proofs.BitLemmas.{length-bits_of}
use Rattle.bit_lists.proofs.PrefixLemmas.{IsPrefix-append}
use Rattle.bit_cursor.specs.Shown.{IsFirstNumber}
use Rattle.bit_cursor.specs.declared.bit_reader.BitReader.{BitReader}
use Rattle.bit_cursor.specs.BitReader.{bits_left, place}
use Rattle.shelf_io.specs.Source.{without_front}
use Rattle.picture_grammar.specs.Refusal.Refusal.{End, Profile, BadHeader}
use Rattle.picture_grammar.specs.Element.{rule}
use Rattle.picture_grammar.specs.Head.{is_scalable}
use Rattle.picture_grammar.proofs.ElementLaws.{breaks}
use Rattle.picture_grammar.proofs.Codes.{free-number}
use Rattle.video_headers.specs.declared.part.Part.{Part}
use Rattle.video_headers.specs.declared.part.Part.TheVariants.{Sequence, Group, Picture}
use Rattle.video_headers.specs.declared.why.Why.TheVariants as why
use Rattle.video_headers.specs.Private.Part.{identifiers_of, has_extensions, identifier, checked, checked_number, FourTaken}
use Rattle.video_headers.specs.Private.Reading.{Rests, Answers, AnswersLook}
use Rattle.video_headers.specs.Private.Wholes.{Wholes}
use Rattle.video_headers.proofs.Looks.{look-goes}
use Rattle.video_headers.proofs.NextCodes.{front-short, look-refused}
use Rattle.video_headers.proofs.Reading.{runs-none}
use Rattle.video_headers.proofs.ToldFields.{told-of}
use Rattle.grammar_reading.proofs.ReadElements.{none_left}
use Rattle.video_headers.proofs.ZeroBytes.{rests-passed}

abbrev FourBits : ℕ → List ℕ → Type 0
FourBits number code = (number < 2 ^ 4) × (code ≡ bits_of 4 number)

pub four-taken : {S : Type 0} {g : Ghosts S} (number : ℕ) (old new : BitReader S g) → IfSome (bits_left old) (λ bits. IsFirstNumber 4 bits number)
    → number < 2 ^ 4 → bits_left new ≡ without_front (bits_left old) 4 → place new ≡ place old + 4
    → (end : ℕ) (bits : List ℕ) → Wholes old end bits → FourTaken (Some number) new end bits
four-taken number old new front fits left moved end bits here =
    let is = told-of (λ bits. IsFirstNumber 4 bits number) (bits_left old) bits here.rests.told front in
    let split : bits ≡ bits_of 4 number ++ drop 4 bits = sym (take-append-drop 4 bits) ∙ ap (λ (f : List ℕ). f ++ drop 4 bits) is.front in
    (drop 4 bits, fits, split, rests-passed 4 old new left moved end bits is.enough here.rests)

pub four-missing : {S : Type 0} {g : Ghosts S} (old new : BitReader S g) → IfSome (bits_left old) (λ bits. length bits < 4)
    → (end : ℕ) (bits : List ℕ) → Wholes old end bits → FourTaken None new end bits
four-missing old new short end bits here =
    let few = told-of (λ bits. length bits < 4) (bits_left old) bits here.rests.told short in none_left bits (omega (arith, here.whole, few))

pub some-identifier : (part : Part) → has_extensions part ≡ true → (number : ℕ) × (number < 2 ^ 4) × (is_scalable number ≡ false) × (identifiers_of part number ≡ true)
some-identifier Sequence is = (2, omega arith, refl, refl)
some-identifier Group is = cc
some-identifier Picture is = (3, omega arith, refl, refl)

both-pass : (scalable allowed : Bool) → scalable ≡ false → allowed ≡ true → (not scalable && (allowed && true)) ≡ true
both-pass scalable allowed s a = ap₂ (λ (x y : Bool). not x && (y && true)) s a

module _ (may_come : ℕ → Bool) {S : Type 0} {g : Ghosts S} (new : BitReader S g) (number end : ℕ) (bits : List ℕ) (taken : FourTaken (Some number) new end bits) where
  first-four : IsPrefix (bits_of 4 number) bits
  first-four = let (behind, fits, split, left) = taken in subst (IsPrefix (bits_of 4 number)) (sym split) (IsPrefix-append (bits_of 4 number) behind)

  pub identifier-spelled : is_scalable number ≡ false → may_come number ≡ true → (rest : List ℕ) × (identifier may_come).Spells number bits rest × Rests new end rest
  identifier-spelled other allowed =
      let (behind, fits, split, left) = taken in
      (behind, (bits_of 4 number, (fits, refl), both-pass (is_scalable number) (may_come number) other allowed, split), left)

  pub identifier-scalable : is_scalable number ≡ true → (identifier may_come).Refuses bits Profile bits
  identifier-scalable is =
      let (behind, fits, split, left) = taken in (
        refl,
        inr (inl (breaks FourBits (free-number 4) number (bits_of 4 number) (fits, refl) bits first-four [] (rule BadHeader may_come ∷ [])
            (rule Profile (λ n. not (is_scalable n))) refl (ap not is))),
      )

  pub identifier-bad : is_scalable number ≡ false → may_come number ≡ false → (identifier may_come).Refuses bits BadHeader bits
  identifier-bad other not_allowed =
      let (behind, fits, split, left) = taken in (
        refl,
        inr (inl (breaks FourBits (free-number 4) number (bits_of 4 number) (fits, refl) bits first-four
            (rule Profile (λ n. not (is_scalable n)) ∷ []) [] (rule BadHeader may_come) (ap (λ (x : Bool). not x && true) other) not_allowed)),
      )

pub identifier-cut : (part : Part) → has_extensions part ≡ true → (bits : List ℕ) → bits ≡ [] → (identifier (identifiers_of part)).Refuses bits End bits
identifier-cut part has bits empty =
    let (number, fits, other, allowed) = some-identifier part has in
    let short : length bits ≡ 0 = ap length empty in (
      refl,
      inr (inr (
        record {
          value = number;
          code = bits_of 4 number;
          coded = (fits, refl);
          passing = both-pass (is_scalable number) (identifiers_of part number) other allowed;
          agrees = inr (subst (λ (b : List ℕ). IsPrefix b (bits_of 4 number)) (sym empty) refl);
        },
        λ stands. omega (arith, short, front-short stands.code bits stands.first, ap length stands.coded.1, length-bits_of 4 stands.value),
        refl,
      )),
    )

-- ---- the reader of an identifier

module _ (part : Part) (has : has_extensions part ≡ true) {S : Type 0} {g : Ghosts S} (itself : (x : S) → g.keeps x x)
    (keeps_on : (x y z : S) → g.keeps x y → g.keeps y z → g.keeps x z) {old new : BitReader S g} (at : ℕ) (is_at : at ≡ place old) where
  by_tests : (number : ℕ) (scalable allowed : Bool) → is_scalable number ≡ scalable → identifiers_of part number ≡ allowed → AnswersLook (Ok (Some number)) (Wholes old) (λ n. FourTaken n new) old new
      → Answers (identifier (identifiers_of part)) (λ (v : ℕ). v) (checked_number scalable allowed number at) (Wholes old) (λ v. Rests new) old new
  by_tests number true allowed s t a =
      look-refused keeps_on why.Profile at a (runs-none new itself)
      (λ end bits left taken. (
        bits,
        identifier-scalable (identifiers_of part) new number end bits taken s,
        omega (arith, is_at, left.rests.ends),
      ))
  by_tests number false true s t a = look-goes keeps_on number a (runs-none new itself) (λ end bits taken. identifier-spelled (identifiers_of part) new number end bits taken s t)
  by_tests number false false s t a =
      look-refused keeps_on why.BadHeader at a (runs-none new itself)
      (λ end bits left taken. (bits, identifier-bad (identifiers_of part) new number end bits taken s t, omega (arith, is_at, left.rests.ends)))

  pub identifier-answers : (number : Option ℕ) → AnswersLook (Ok number) (Wholes old) (λ n. FourTaken n new) old new
      → Answers (identifier (identifiers_of part)) (λ (v : ℕ). v) (checked number part at) (Wholes old) (λ v. Rests new) old new
  identifier-answers None a =
      look-refused keeps_on why.End at a (runs-none new itself) (λ end bits left empty. (bits, identifier-cut part has bits empty, omega (arith, is_at, left.rests.ends)))
  identifier-answers (Some number) a = by_tests number (is_scalable number) (identifiers_of part number) refl refl a

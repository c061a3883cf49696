-- A line that may stand at a place is read there, and nothing else is.
use Rattle.std.proofs.Common.{
  ◌≡◌,
  ℕ,
  zero,
  suc,
  ◌-◌,
  ◌^◌,
  ◌<◌,
  ◌≤◌,
  ◌&&◌,
  ◌==◌,
  ◌⊎◌,
  nat_lt,
  false,
  List,
  [],
  ◌∷◌,
  ◌++◌,
  length,
  get_or,
  take,
  drop,
  codes,
  All,
  Option,
  Some,
  None,
  decimal,
  refl,
  sym,
  ap,
  subst,
  ◌∙◌,
  append_assoc,
  arith,
  inl,
  inr,
  lit≤,
  lt-ltb,
  le-ltb,
  eq-eqb,
  ne_eqb,
  drop_at,
  take-append-drop,
  get_or-take,
}
use Rattle.std.specs.List.{flat_map}
use Rattle.std.specs.Option.{option_map_or}
use Rattle.std.specs.Str.Parse.{digits_value}
use Rattle.std.specs.Net.Reader.{read_number}
use Rattle.std.proofs.lemmas.Bool.{cases_lt, and_left, and_right, and_from, both_ways}
use Rattle.std.proofs.lemmas.List.{get_or_append_left}
use Rattle.std.proofs.lemmas.List.Elements.{All-nil, All-cons, All-head, All-tail}
use Rattle.std.proofs.lemmas.List.Concat.{flat_map-cons}
use Rattle.std.proofs.lemmas.Fmt.{decimal_is_IsNumeral, decimal_digit, first_decimal, decimal-digits_value}
use Rattle.std.proofs.lemmas.Str.Parse.{numerals_by_value, tells_digits}
use Rattle.std.proofs.NetLemmas.Numbers.{NoDigit, read_number_some, read_number_sound}
use Rattle.std.proofs.NetLemmas.Options.{cond_none, and_then_some, same_parts}
use Rattle.version_table.specs.declared.line.StatedVersion.{StatedVersion}
use Rattle.version_table.specs.Lines.{line_end, text_of_version}
use Rattle.version_table.specs.Order.{IsStated, IsStatedVersion}
use Rattle.version_table.specs.Private.Reading.{◌>>=◌, after, number_at, number_line, version_at, versions_at}
use Rattle.version_table.proofs.Words.{after-append, after_sound}

-- ---- numbers

-- a decimal has one digit, or begins with another digit than 0
no_leading_zero : (n : ℕ) (rest : List ℕ) → IsStated n → (nat_lt 1 (length (decimal n)) && (get_or (decimal n ++ rest) 0 0 == 48)) ≡ false
no_leading_zero n rest small =
    elim (cases_lt n 10) [
      | inl one ↦ and_left _ _ (le-ltb 1 (length (decimal n)) (omega (arith, ap length (decimal_digit n one))))
      | inr more ↦
          let first = first_decimal n (omega arith) small in
          let same = get_or_append_left (decimal n) rest 0 0 (decimal_is_IsNumeral n small).0.0 in
          and_right _ _ (ne_eqb (get_or (decimal n ++ rest) 0 0) 48 (omega arith))
    ]

pub number_again : (n : ℕ) (rest : List ℕ) → IsStated n → NoDigit 10 rest → number_at (decimal n ++ rest) ≡ Some (n, rest)
unfolding number_at
number_again n rest small stop =
    let (numeral, value) = decimal_is_IsNumeral n small in
    let read = read_number_some 10 (2 ^ 64 - 1) (decimal n) rest numeral (omega arith) stop in
    rw (read, no_leading_zero n rest small, drop_at (decimal n) rest _ refl, value)

pub record IsNumber (text : List ℕ) (n : ℕ) (rest : List ℕ) : Type 0 where
  pub stated : IsStated n
  pub parts : text ≡ decimal n ++ rest

pub number_sound : (text rest : List ℕ) (n : ℕ) → number_at text ≡ Some (n, rest) → IsNumber text n rest
unfolding number_at
number_sound text rest n e =
    and_then_some _ (read_number 10 (2 ^ 64 - 1) text) _ e λ m read kept.
    let (test, some) = cond_none _ _ _ kept in
    let (value_is, rest_is) = same_parts m.0 n (drop m.1 text) rest some in
    let (number, fits, len, stop) = read_number_sound 10 (2 ^ 64 - 1) text m.0 m.1 (lit≤ tt) read in
    let ds = take m.1 text in
    let some_digit : 0 < m.1 = omega (arith, number.0.0) in
    let alone : get_or ds 0 0 ≡ 48 → length ds ≡ 1 = λ zero_first.
    elim (cases_lt 1 m.1) [
      | inl more ↦ absurd (both_ways _ test (and_from _ _ (lt-ltb _ _ more) (eq-eqb _ _ (sym (get_or-take m.1 text 0 0 some_digit) ∙ zero_first))))
      | inr one ↦ omega arith
    ] in
    let small : digits_value 10 ds < 2 ^ 64 = omega (arith, number.1) in
    let spelled = decimal-digits_value (numerals_by_value _ tells_digits) ds number.0.1 number.0.0 alone small in
    record { stated = omega arith; parts = rw (← value_is, ← number.1, spelled, ← rest_is) (sym (take-append-drop m.1 text)) }

-- ---- a word, a number, the line end

three_parts : (a b c rest : List ℕ) → (a ++ b ++ c) ++ rest ≡ a ++ (b ++ (c ++ rest))
three_parts a b c rest = simp append_assoc

pub number_line_again : (word : List ℕ) (n : ℕ) (rest : List ℕ) → IsStated n → number_line word ((word ++ decimal n ++ line_end) ++ rest) ≡ Some (n, rest)
unfolding number_line
number_line_again word n rest small =
    rw (three_parts word (decimal n) line_end rest, after-append word (decimal n ++ (line_end ++ rest)), number_again n (line_end ++ rest) small (lit≤ tt), after-append line_end rest) refl

-- a line of a number, and what follows it
pub record IsNumberLine (word text : List ℕ) (n : ℕ) (rest : List ℕ) : Type 0 where
  pub stated : IsStated n
  pub parts : text ≡ (word ++ decimal n ++ line_end) ++ rest

pub number_line_sound : (word text rest : List ℕ) (n : ℕ) → number_line word text ≡ Some (n, rest) → IsNumberLine word text n rest
unfolding number_line
number_line_sound word text rest n e =
    and_then_some _ (after word text) _ e λ front word_read e1.
    and_then_some _ (number_at front) _ e1 λ m number_read e2.
    and_then_some _ (after line_end m.1) _ e2 λ behind end_read e3.
    let (n_is, rest_is) = same_parts m.0 n behind rest e3 in
    let number = number_sound front m.1 m.0 number_read in
    let word_is = after_sound word text front word_read in
    let end_is = after_sound line_end m.1 behind end_read in
    let whole : text ≡ (word ++ decimal m.0 ++ line_end) ++ behind =
    word_is ∙ ap (λ (t : List ℕ). word ++ t) (number.parts ∙ ap (λ (t : List ℕ). decimal m.0 ++ t) end_is) ∙ sym (three_parts word (decimal m.0) line_end behind) in
    record {
      stated = subst IsStated n_is number.stated;
      parts = whole ∙ ap (λ (k : ℕ). (word ++ decimal k ++ line_end) ++ behind) n_is
          ∙ ap (λ (t : List ℕ). (word ++ decimal n ++ line_end) ++ t) rest_is;
    }

-- ---- versions

pub four_parts : (a b c d rest : List ℕ) → (a ++ b ++ c ++ d) ++ rest ≡ a ++ (b ++ (c ++ (d ++ rest)))
four_parts a b c d rest = simp append_assoc

version_again : (version : StatedVersion) (rest : List ℕ) → IsStated version.bytes → IsStated version.distortion → NoDigit 10 rest
    → version_at (decimal version.bytes ++ (codes ":" ++ (decimal version.distortion ++ rest))) ≡ Some (version, rest)
unfolding version_at
version_again version rest bytes distortion stop =
    rw (
      number_again version.bytes (codes ":" ++ (decimal version.distortion ++ rest)) bytes (lit≤ tt),
      after-append (codes ":") (decimal version.distortion ++ rest),
      number_again version.distortion rest distortion stop,
    ) refl

pub record IsVersionText (text : List ℕ) (version : StatedVersion) (rest : List ℕ) : Type 0 where
  pub bytes : IsStated version.bytes
  pub distortion : IsStated version.distortion
  pub parts : text ≡ decimal version.bytes ++ (codes ":" ++ (decimal version.distortion ++ rest))

version_sound : (text rest : List ℕ) (version : StatedVersion) → version_at text ≡ Some (version, rest) → IsVersionText text version rest
unfolding version_at
version_sound text rest version e =
    and_then_some _ (number_at text) _ e λ b bytes_read e1.
    and_then_some _ (after (codes ":") b.1) _ e1 λ front colon_read e2.
    and_then_some _ (number_at front) _ e2 λ d distortion_read e3.
    let made : StatedVersion = record { bytes = b.0; distortion = d.0 } in
    let (version_is, rest_is) = same_parts made version d.1 rest e3 in
    let bytes = number_sound text b.1 b.0 bytes_read in
    let distortion = number_sound front d.1 d.0 distortion_read in
    let colon = after_sound (codes ":") b.1 front colon_read in
    let whole : IsVersionText text made d.1 = record {
      bytes = bytes.stated;
      distortion = distortion.stated;
      parts = bytes.parts ∙ ap (λ (t : List ℕ). decimal b.0 ++ t) (colon ∙ ap (λ (t : List ℕ). codes ":" ++ t) distortion.parts);
    } in
    subst (λ (t : List ℕ). IsVersionText text version t) rest_is (subst (λ (v : StatedVersion). IsVersionText text v d.1) version_is whole)

-- a text goes on with no digit, and with no space
pub record Ends (rest : List ℕ) : Type 0 where
  pub digit : NoDigit 10 rest
  pub space : after (codes " ") rest ≡ None

one_version : (version : StatedVersion) (rest : List ℕ) → text_of_version version ++ rest ≡ codes " " ++ (decimal version.bytes ++ (codes ":" ++ (decimal version.distortion ++ rest)))
one_version version rest = four_parts (codes " ") (decimal version.bytes) (codes ":") (decimal version.distortion) rest

-- behind a version comes no digit
pub versions_end : (versions : List StatedVersion) (rest : List ℕ) → Ends rest → NoDigit 10 (flat_map text_of_version versions ++ rest)
versions_end [] rest ends = ends.digit
versions_end (version ∷ versions) rest ends = lit≤ tt

pub versions_again : (most : ℕ) (versions : List StatedVersion) (rest : List ℕ) → length versions ≤ most → All IsStatedVersion versions → Ends rest
    → versions_at most (flat_map text_of_version versions ++ rest) ≡ Some (versions, rest)
unfolding versions_at
versions_again zero [] rest few each ends = rw ends.space refl
versions_again (suc most) [] rest few each ends = rw ends.space refl
versions_again zero (version ∷ versions) rest few each ends = absurd (omega arith)
versions_again (suc most) (version ∷ versions) rest few each ends =
    let others = flat_map text_of_version versions ++ rest in
    let here = All-head IsStatedVersion version versions each in
    let regrouped : flat_map text_of_version (version ∷ versions) ++ rest ≡ codes " " ++ (decimal version.bytes ++ (codes ":" ++ (decimal version.distortion ++ others))) =
    ap (λ (t : List ℕ). t ++ rest) (flat_map-cons text_of_version version versions) ∙ append_assoc (text_of_version version) (flat_map text_of_version versions) rest ∙ one_version version others in
    ap (versions_at (suc most)) regrouped
    ∙ rw (
      after-append (codes " ") (decimal version.bytes ++ (codes ":" ++ (decimal version.distortion ++ others))),
      version_again version others here.0 here.1 (versions_end versions rest ends),
      versions_again most versions rest (omega arith) (All-tail IsStatedVersion version versions each) ends,
    ) refl

pub record AreVersionTexts (most : ℕ) (text : List ℕ) (versions : List StatedVersion) (rest : List ℕ) : Type 0 where
  pub few : length versions ≤ most
  pub each : All IsStatedVersion versions
  pub parts : text ≡ flat_map text_of_version versions ++ rest

pub map_or_cases : {A B : Type 0} (f : A → Option B) (o : Option A) (d : Option B) (y : B) → option_map_or f o d ≡ Some y → ((o ≡ None) × (d ≡ Some y)) ⊎ ((x : A) × (o ≡ Some x) × (f x ≡ Some y))
map_or_cases f None d y e = inl (refl, e)
map_or_cases f (Some x) d y e = inr (x, refl, e)

pub versions_sound : (most : ℕ) (text rest : List ℕ) (versions : List StatedVersion) → versions_at most text ≡ Some (versions, rest) → AreVersionTexts most text versions rest
unfolding versions_at
versions_sound zero text rest versions e =
    elim (map_or_cases (λ front. None) (after (codes " ") text) (Some ([], text)) (versions, rest) e) [
      | inl none ↦
          let (versions_is, rest_is) = same_parts [] versions text rest none.1 in
          subst (λ (vs : List StatedVersion). AreVersionTexts zero text vs rest) versions_is (record { few = omega arith; each = All-nil IsStatedVersion; parts = rest_is })
      | inr some ↦ absurd cc
    ]
versions_sound (suc most) text rest versions e =
    elim (map_or_cases (λ front. version_at front >>= λ version. versions_at most version.1 >>= λ others. Some (version.0 ∷ others.0, others.1))
    (after (codes " ") text) (Some ([], text)) (versions, rest) e) [
      | inl none ↦
          let (versions_is, rest_is) = same_parts [] versions text rest none.1 in
          subst (λ (vs : List StatedVersion). AreVersionTexts (suc most) text vs rest) versions_is (record { few = omega arith; each = All-nil IsStatedVersion; parts = rest_is })
      | inr some ↦
          and_then_some _ (version_at some.0) _ some.2 λ v version_read e1.
          and_then_some _ (versions_at most v.1) _ e1 λ vs versions_read e2.
          let (versions_is, rest_is) = same_parts (v.0 ∷ vs.0) versions vs.1 rest e2 in
          let here = version_sound some.0 v.1 v.0 version_read in
          let others = versions_sound most v.1 vs.1 vs.0 versions_read in
          let space = after_sound (codes " ") text some.0 some.1 in
          let whole : AreVersionTexts (suc most) text (v.0 ∷ vs.0) vs.1 = record {
            few = omega (arith, others.few);
            each = All-cons IsStatedVersion v.0 vs.0 (here.bytes, here.distortion) others.each;
            parts = space ∙ ap (λ (t : List ℕ). codes " " ++ t) here.parts ∙ sym (one_version v.0 v.1) ∙ ap (λ (t : List ℕ). text_of_version v.0 ++ t) others.parts
                ∙ sym (append_assoc (text_of_version v.0) (flat_map text_of_version vs.0) vs.1);
          } in
          subst (λ (t : List ℕ). AreVersionTexts (suc most) text versions t) rest_is (subst (λ (ws : List StatedVersion). AreVersionTexts (suc most) text ws vs.1) versions_is whole)
    ]

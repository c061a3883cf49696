-- Bytes that nobody reads, passed one at a time.
use Rattle.std.proofs.Common.{
  ◌≡◌,
  ℕ,
  ◌+◌,
  ◌%◌,
  ◌^◌,
  ◌<◌,
  ◌≤◌,
  List,
  [],
  ◌∷◌,
  ◌++◌,
  length,
  take,
  drop,
  Option,
  Some,
  None,
  IfSome,
  Result,
  Ok,
  Err,
  MatchResult,
  Bool,
  true,
  false,
  refl,
  sym,
  ap,
  subst,
  ◌∙◌,
  inl,
  inr,
  arith,
}
use Rattle.std.proofs.lemmas.List.{length-take}
use Rattle.shelf_io.specs.declared.source.Source.{Ghosts}
use Rattle.bit_lists.specs.Bits.{IsPrefix, bits_of}
use Rattle.bit_lists.proofs.BitLemmas.{length-bits_of}
use Rattle.bit_cursor.specs.declared.bit_reader.BitReader.{BitReader}
use Rattle.bit_cursor.specs.BitReader.{place}
use Rattle.picture_grammar.specs.Refusal.Refusal.{End}
use Rattle.picture_grammar.specs.Grammar.{Grammar, done, ◌>>=◌, many}
use Rattle.picture_grammar.specs.StartCode.{start_code_prefix}
use Rattle.grammar_reading.specs.BitsRead.{PlacedRefusal}
use Rattle.grammar_reading.proofs.Several.{several-more, several-end, several-refused}
use Rattle.video_headers.specs.declared.fault.HeadFault.{HeadFault}
use Rattle.video_headers.specs.declared.stands.Stands.{Stands}
use Rattle.video_headers.specs.declared.stands.Stands.TheVariants.{Prefix, Zero, Other, Nothing}
use Rattle.video_headers.specs.HeadFault.{refusal_told}
use Rattle.video_headers.specs.Private.Reading.{Rests, Goes, Stops, Answers, AnswersLook}
use Rattle.video_headers.specs.Private.Stands.{StandsAt, StandsNext, BeginsByte, is_prefix, is_nothing}
use Rattle.video_headers.specs.Private.Unread.{unread_item, passed_bytes, BytesPassed}
use Rattle.video_headers.specs.Private.Wholes.{Wholes}
use Rattle.video_headers.proofs.Looks.{looked}
use Rattle.video_headers.proofs.NextCodes.{front-short, not-empty}
use Rattle.video_headers.proofs.ZeroBytes.{wholes-passed}

pub passed-none : {S : Type 0} {g : Ghosts S} (reader : BitReader S g) (end : ℕ) (bits : List ℕ) → Wholes reader end bits → BytesPassed reader end bits
passed-none reader end bits left = record { bytes = []; here = bits; spelled = refl; left = left }

-- what was looked at behind them
pub record PassedTo {S : Type 0} {g : Ghosts S} (stands : Stands) (reader : BitReader S g) (end : ℕ) (bits : List ℕ) : Type 0 where
  pub passed : BytesPassed reader end bits
  pub found : StandsAt stands passed.here

pub passed-to : {S : Type 0} {g : Ghosts S} {mid new : BitReader S g} {stands : Stands} → AnswersLook (Ok stands) (Wholes mid) (λ s. StandsNext s new) mid new
    → (end : ℕ) (bits : List ℕ) → BytesPassed mid end bits → PassedTo stands new end bits
passed-to a end bits z =
    let next = looked a end z.here z.left in
    record { passed = record { bytes = z.bytes; here = z.here; spelled = z.spelled; left = next.left }; found = next.found }

begins-byte : (stands : Stands) (bits : List ℕ) → is_prefix stands ≡ false → is_nothing stands ≡ false → StandsAt stands bits → (byte : ℕ) × BeginsByte byte bits
begins-byte Prefix bits p n found = cc
begins-byte Zero bits p n found = (0, found)
begins-byte Other bits p n (byte, some, begins) = (byte, begins)
begins-byte Nothing bits p n found = cc

pub passed-more : {S : Type 0} {g : Ghosts S} {old new : BitReader S g} (stands : Stands) → is_prefix stands ≡ false → is_nothing stands ≡ false
    → ((end : ℕ) (bits : List ℕ) → 8 ≤ length bits → Rests old end bits → Rests new end (drop 8 bits)) → (end : ℕ) (bits : List ℕ) → PassedTo stands old end bits → BytesPassed new end bits
passed-more {old = old} {new = new} stands p n pass end bits z =
    let (byte, begins) = begins-byte stands z.passed.here p n z.found in
    let (none, fits, split) = begins in record {
      bytes = z.passed.bytes ++ byte ∷ [];
      here = drop 8 z.passed.here;
      spelled = several-more unread_item z.passed.bytes byte bits z.passed.here (drop 8 z.passed.here) z.passed.spelled
          (inr (none, (byte, drop 8 z.passed.here, (bits_of 8 byte, (fits, refl), refl, split), (refl, refl))));
      left = wholes-passed old new pass end byte z.passed.here begins z.passed.left;
    }

at-prefix : (stands : Stands) (bits : List ℕ) → is_prefix stands ≡ true → StandsAt stands bits → IsPrefix start_code_prefix bits
at-prefix Prefix bits is found = found
at-prefix Zero bits is found = cc
at-prefix Other bits is found = cc
at-prefix Nothing bits is found = cc

at-end : (stands : Stands) (bits : List ℕ) → is_nothing stands ≡ true → StandsAt stands bits → bits ≡ []
at-end Prefix bits is found = cc
at-end Zero bits is found = cc
at-end Other bits is found = cc
at-end Nothing bits is found = found

pub passed-whole : {S : Type 0} {g : Ghosts S} {new : BitReader S g} (stands : Stands) → is_prefix stands ≡ true → (end : ℕ) (bits : List ℕ) → PassedTo stands new end bits
    → (rest : List ℕ) × passed_bytes.Spells tt bits rest × Wholes new end rest
passed-whole stands is end bits z = (
  z.passed.here,
  (
    (z.passed.bytes, tt),
    z.passed.here,
    several-end unread_item z.passed.bytes tt bits z.passed.here z.passed.here z.passed.spelled
        (inl (at-prefix stands z.passed.here is z.found, (refl, refl))),
    (refl, refl),
  ),
  z.passed.left,
)

pub passed-cut : {S : Type 0} {g : Ghosts S} {new : BitReader S g} (stands : Stands) (at : ℕ) → is_nothing stands ≡ true → at ≡ place new → (end : ℕ) (bits : List ℕ) → PassedTo stands new end bits
    → (left : List ℕ) × passed_bytes.Refuses bits End left × (at + length left ≡ end)
passed-cut stands at is there end bits z =
    let here = z.passed.here in
    let empty : here ≡ [] = at-end stands here is z.found in
    let short : length here ≡ 0 = ap length empty in (
      here,
      inl (several-refused unread_item z.passed.bytes bits here here End z.passed.spelled
          (inr (
            λ first. not-empty (subst (IsPrefix start_code_prefix) empty first),
            inl (
              refl,
              inr (inr (
                record { value = 0; code = bits_of 8 0; coded = (omega arith, refl); passing = refl; agrees = inr (subst (λ (b : List ℕ). IsPrefix b (bits_of 8 0)) (sym empty) refl) },
                λ stands. omega (arith, short, front-short stands.code here stands.first, ap length stands.coded.1, length-bits_of 8 stands.value),
                refl,
              )),
            ),
          ))),
      omega (arith, there, z.passed.left.rests.ends),
    )

-- ---- grammars grouped the other way

module _ {A B C : Type 0} (first : Grammar A) (second : Grammar B) (made : C) where
  regroup-told : (told : Option PlacedRefusal) (bits : List ℕ) (end : ℕ)
      → IfSome told (λ said. (left : List ℕ) × (first >>= λ a. second >>= λ b. done made).Refuses bits said.refusal left × (said.at + length left ≡ end))
      → IfSome told (λ said. (left : List ℕ) × ((first >>= λ a. second) >>= λ b. done made).Refuses bits said.refusal left × (said.at + length left ≡ end))
  regroup-told None bits end why = tt
  regroup-told (Some said) bits end (left, inl r, e) = (left, inl (inl r), e)
  regroup-told (Some said) bits end (left, inr (a, m, s, inl r), e) = (left, inl (inr (a, m, s, r)), e)
  regroup-told (Some said) bits end (left, inr (a, m, s, inr (b, n, t, none)), e) = absurd none

  regroup-gives : {W : Type 0} (value : W → C) (result : Result W HeadFault) (from : ℕ → List ℕ → Type 0) (last : W → ℕ → List ℕ → Type 0)
      → MatchResult result (λ w. Goes (first >>= λ a. second >>= λ b. done made) (value w) from (last w)) (λ fault. Stops (first >>= λ a. second >>= λ b. done made) (refusal_told fault) from)
      → MatchResult result (λ w. Goes ((first >>= λ a. second) >>= λ b. done made) (value w) from (last w)) (λ fault. Stops ((first >>= λ a. second) >>= λ b. done made) (refusal_told fault) from)
  regroup-gives value (Ok w) from last x = record { on = λ end bits left. let (rest, (a, m, s, (b, n, t, u)), there) = x.on end bits left in (rest, (b, n, (a, m, s, t), u), there) }
  regroup-gives value (Err fault) from last x = record { why = λ end bits left. regroup-told (refusal_told fault) bits end (x.why end bits left) }

  pub regrouped : {W : Type 0} {value : W → C} {result : Result W HeadFault} {from : ℕ → List ℕ → Type 0} {last : W → ℕ → List ℕ → Type 0} {S : Type 0} {g : Ghosts S} {old new : BitReader S g}
      → Answers (first >>= λ a. second >>= λ b. done made) value result from last old new → Answers ((first >>= λ a. second) >>= λ b. done made) value result from last old new
  regrouped {value = value} {result = result} {from = from} {last = last} x = record { gives = regroup-gives value result from last x.gives; runs = x.runs; failed = x.failed; missing = x.missing }

-- Zero bytes that are taken one at a time, and what stands behind them.
use Rattle.std.proofs.Common.{
  ◌≡◌,
  ◌⊎◌,
  ℕ,
  ◌+◌,
  ◌-◌,
  ◌%◌,
  ◌^◌,
  ◌<◌,
  ◌≤◌,
  List,
  [],
  ◌∷◌,
  ◌++◌,
  length,
  drop,
  Option,
  Some,
  None,
  IfSome,
  true,
  Ok,
  append_assoc,
  append-nil,
  refl,
  sym,
  ap,
  subst,
  ◌∙◌,
  inl,
  inr,
  arith,
}
use Rattle.std.specs.Option.{option_map}
use Rattle.std.proofs.lemmas.List.{length-append, length-drop, take-append-drop}
use Rattle.shelf_io.specs.declared.source.Source.{Ghosts}
use Rattle.bit_lists.specs.Bits.{IsPrefix, bits_of}
use Rattle.bit_lists.proofs.BitLemmas.{length-bits_of}
use Rattle.bit_lists.proofs.PrefixLemmas.{IsPrefix-split}
use Rattle.bit_cursor.specs.Shown.{IsFirstNumber}
use Rattle.bit_cursor.specs.declared.bit_reader.BitReader.{BitReader}
use Rattle.bit_cursor.specs.BitReader.{bits_left, place}
use Rattle.shelf_io.specs.Source.{without_front}
use Rattle.picture_grammar.specs.Refusal.{Refusal}
use Rattle.picture_grammar.specs.StartCode.{start_code_prefix}
use Rattle.grammar_reading.specs.Several.{several}
use Rattle.grammar_reading.proofs.Several.{several-more}
use Rattle.video_headers.specs.declared.code.Comes.{Comes}
use Rattle.video_headers.specs.declared.stands.Stands.{Stands}
use Rattle.video_headers.specs.declared.stands.Stands.TheVariants.{Prefix, Zero, Other, Nothing}
use Rattle.video_headers.specs.Private.NextCode.{zero_item, ZerosTaken, BehindZeros, ByteTaken, ComesNext, NextRests, comes_of}
use Rattle.video_headers.specs.Private.Reading.{Rests, AnswersLook}
use Rattle.video_headers.specs.Private.Stands.{StandsAt, StandsNext, BeginsByte, is_zero}
use Rattle.video_headers.specs.Private.Wholes.{Wholes}
use Rattle.video_headers.proofs.Looks.{looked}
use Rattle.video_headers.proofs.ToldFields.{told-of}
use Rattle.grammar_reading.proofs.ReadElements.{none_left}

-- n bits were passed
pub rests-passed : {S : Type 0} {g : Ghosts S} (n : ℕ) (old new : BitReader S g) → bits_left new ≡ without_front (bits_left old) n → place new ≡ place old + n
    → (end : ℕ) (bits : List ℕ) → n ≤ length bits → Rests old end bits → Rests new end (drop n bits)
rests-passed n old new left moved end bits enough here =
    record { told = left ∙ ap (option_map (drop n)) here.told; ends = omega (arith, here.ends, moved, length-drop n bits, enough) }

byte-length : (byte : ℕ) (bits : List ℕ) → BeginsByte byte bits → 8 + length (drop 8 bits) ≡ length bits
byte-length byte bits (none, fits, split) = omega (arith, ap length split, length-append (bits_of 8 byte) (drop 8 bits), length-bits_of 8 byte)

-- a byte was passed
pub wholes-passed : {S : Type 0} {g : Ghosts S} (old new : BitReader S g) → ((end : ℕ) (bits : List ℕ) → 8 ≤ length bits → Rests old end bits → Rests new end (drop 8 bits))
    → (end : ℕ) (byte : ℕ) (bits : List ℕ) → BeginsByte byte bits → Wholes old end bits → Wholes new end (drop 8 bits)
wholes-passed old new passed end byte bits begins left =
    let long = byte-length byte bits begins in
    record { rests = passed end bits (omega (arith, long)) left.rests; whole = omega (arith, long, left.whole); ends = left.ends }

pub zeros-none : {S : Type 0} {g : Ghosts S} (reader : BitReader S g) (end : ℕ) (bits : List ℕ) → Wholes reader end bits → ZerosTaken (place reader) reader end bits
zeros-none reader end bits left = record { zeros = []; here = bits; spelled = λ refusal. refl; left = left; total = left.rests.ends; whole = left.whole }

stands-zero : (stands : Stands) (bits : List ℕ) → is_zero stands ≡ true → StandsAt stands bits → BeginsByte 0 bits
stands-zero Prefix bits is found = cc
stands-zero Zero bits is found = found
stands-zero Other bits is found = cc
stands-zero Nothing bits is found = cc

-- what was looked at behind zeros
pub behind-zeros : {S : Type 0} {g : Ghosts S} {from : ℕ} {mid new : BitReader S g} {stands : Stands} → AnswersLook (Ok stands) (Wholes mid) (λ s. StandsNext s new) mid new
    → (end : ℕ) (bits : List ℕ) → ZerosTaken from mid end bits → BehindZeros stands from new end bits
behind-zeros a end bits z =
    let next = looked a end z.here z.left in
    record { taken = record { zeros = z.zeros; here = z.here; spelled = z.spelled; left = next.left; total = z.total; whole = z.whole }; found = next.found }

pub zeros-more : {S : Type 0} {g : Ghosts S} {from : ℕ} {old new : BitReader S g} (stands : Stands) → is_zero stands ≡ true
    → ((end : ℕ) (bits : List ℕ) → 8 ≤ length bits → Rests old end bits → Rests new end (drop 8 bits))
    → (end : ℕ) (bits : List ℕ) → BehindZeros stands from old end bits → ZerosTaken from new end bits
zeros-more {old = old} {new = new} stands is passed end bits behind =
    let taken = behind.taken in
    let begins = stands-zero stands taken.here is behind.found in
    let (none, fits, split) = begins in record {
      zeros = taken.zeros ++ 0 ∷ [];
      here = drop 8 taken.here;
      spelled = λ refusal. several-more (zero_item refusal) taken.zeros 0 bits taken.here (drop 8 taken.here) (taken.spelled refusal)
          (inr (none, (0, drop 8 taken.here, (bits_of 8 0, (fits, refl), refl, split), (refl, refl))));
      left = wholes-passed old new passed end 0 taken.here begins taken.left;
      total = taken.total;
      whole = taken.whole;
    }

-- ---- what comes behind zeros

pub byte-taken : {S : Type 0} {g : Ghosts S} (byte : ℕ) (old new : BitReader S g) → IfSome (bits_left old) (λ bits. IsFirstNumber 8 bits byte)
    → byte < 2 ^ 8 → bits_left new ≡ without_front (bits_left old) 8 → place new ≡ place old + 8
    → (end : ℕ) (bits : List ℕ) → Wholes old end bits → ByteTaken (Some byte) new end bits
byte-taken byte old new front fits left moved end bits here =
    let is = told-of (λ bits. IsFirstNumber 8 bits byte) (bits_left old) bits here.rests.told front in
    let split : bits ≡ bits_of 8 byte ++ drop 8 bits = sym (take-append-drop 8 bits) ∙ ap (λ (f : List ℕ). f ++ drop 8 bits) is.front in
    let enough = is.enough in (
      drop 8 bits,
      fits,
      split,
      record { rests = rests-passed 8 old new left moved end bits enough here.rests; whole = omega (arith, here.whole, enough, length-drop 8 bits); ends = here.ends },
    )

pub byte-missing : {S : Type 0} {g : Ghosts S} (old new : BitReader S g) → IfSome (bits_left old) (λ bits. length bits < 8) → bits_left new ≡ bits_left old → place new ≡ place old
    → (end : ℕ) (bits : List ℕ) → Wholes old end bits → ByteTaken None new end bits
byte-missing old new short same stays end bits here =
    let few = told-of (λ bits. length bits < 8) (bits_left old) bits here.rests.told short in (
      none_left bits (omega (arith, here.whole, few)),
      record { rests = record { told = same ∙ here.rests.told; ends = omega (arith, here.rests.ends, stays) }; whole = here.whole; ends = here.ends },
    )

prefix-split : (bits : List ℕ) → IsPrefix start_code_prefix bits → bits ≡ start_code_prefix ++ drop 24 bits
prefix-split bits first = IsPrefix-split start_code_prefix bits first ∙ ap (λ (k : ℕ). start_code_prefix ++ drop k bits) (length-bits_of 24 1)

coming : {S : Type 0} {g : Ghosts S} (byte : Option ℕ) (at : ℕ) (new : BitReader S g) (end : ℕ) (bits : List ℕ) → bits ≡ start_code_prefix ++ drop 24 bits → at + length bits ≡ end
    → ByteTaken byte new end (drop 24 bits) → ComesNext (comes_of byte) at new end bits
coming None at new end bits split total (none, left) =
    record { behind = drop 24 bits; left = left; found = inr (split ∙ ap (λ (b : List ℕ). start_code_prefix ++ b) none ∙ append-nil start_code_prefix); total = total }
coming (Some byte) at new end bits split total (behind, fits, later, left) = record {
  behind = behind;
  left = left;
  found = (fits, split ∙ ap (λ (b : List ℕ). start_code_prefix ++ b) later ∙ sym (append_assoc start_code_prefix (bits_of 8 byte) behind));
  total = total;
}

module _ {S : Type 0} {g : Ghosts S} {old mid : BitReader S g} (passed : (end : ℕ) (bits : List ℕ) → 24 ≤ length bits → Rests old end bits → Rests mid end (drop 24 bits)) where
  -- a prefix was passed
  pub prefix-passed : (end : ℕ) (bits : List ℕ) → StandsNext Prefix old end bits → Wholes mid end (drop 24 bits)
  prefix-passed end bits s =
      let long : 24 + length (drop 24 bits) ≡ length bits = omega (arith, ap length (prefix-split bits s.found), length-append start_code_prefix (drop 24 bits), length-bits_of 24 1) in
      record { rests = passed end bits (omega (arith, long)) s.left.rests; whole = omega (arith, long, s.left.whole); ends = s.left.ends }

  -- and then a byte was taken
  pub code-coming : {new : BitReader S g} (byte : Option ℕ) → AnswersLook (Ok byte) (Wholes mid) (λ b. ByteTaken b new) mid new
      → (end : ℕ) (bits : List ℕ) → StandsNext Prefix old end bits → ComesNext (comes_of byte) (place old) new end bits
  code-coming {new = new} byte a end bits s = coming byte (place old) new end bits (prefix-split bits s.found) s.left.rests.ends (looked a end (drop 24 bits) (prefix-passed end bits s))

-- all of it
pub next-rests : {S : Type 0} {g : Ghosts S} {from : ℕ} {mid new : BitReader S g} {stands : Stands} (from' at : ℕ) (comes : Comes) → from' ≡ from → at ≡ place mid
    → AnswersLook (Ok comes) (StandsNext stands mid) (λ c. ComesNext c (place mid) new) mid new → (end : ℕ) (bits : List ℕ) → BehindZeros stands from mid end bits
    → NextRests (record { from = from'; at = at; comes = comes }) new end bits
next-rests from' at comes is is' a end bits b =
    let next = looked a end b.taken.here (record { left = b.taken.left; found = b.found }) in record {
      zeros = b.taken.zeros;
      here = b.taken.here;
      spelled = b.taken.spelled;
      coming = record { behind = next.behind; left = next.left; found = next.found; total = omega (arith, is', next.total) };
      total = omega (arith, is, b.taken.total);
      whole = b.taken.whole;
    }

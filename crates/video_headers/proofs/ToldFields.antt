-- What the readers of fields say of what is left, from what a reader of bits says.
use Rattle.std.proofs.Common.{◌≡◌, ℕ, ◌+◌, ◌-◌, ◌*◌, ◌%◌, ◌^◌, ◌<◌, ◌≤◌, ◌⊎◌, List, [], ◌++◌, length, take, drop, Option, Some, None, IfSome, true, refl, sym, ap, subst, ◌∙◌, inl, inr, arith}
use Rattle.std.specs.Option.{option_map}
use Rattle.std.proofs.lemmas.Nat.{one_shl}
use Rattle.std.proofs.lemmas.List.{length-append, take-append-drop, take_all, length-take}
use Rattle.shelf_io.specs.declared.source.Source.{Ghosts}
use Rattle.bit_lists.specs.Bits.{IsPrefix, bits_of}
use Rattle.bit_lists.proofs.BitLemmas.{length-bits_of}
use Rattle.bit_cursor.specs.declared.bit_reader.BitReader.{BitReader}
use Rattle.bit_cursor.specs.BitReader.{bits_left, place}
use Rattle.shelf_io.specs.Source.{without_front}
use Rattle.bit_cursor.specs.Shown.{IsFirstNumber, IsWindow}
use Rattle.picture_grammar.specs.Refusal.Refusal.{End}
use Rattle.picture_grammar.specs.Grammar.{Grammar}
use Rattle.picture_grammar.specs.Element.{Rule, passes, MayStand, Breaks, uimsbf}
use Rattle.grammar_reading.specs.BitsRead.{PlacedRefusal, ExplainsFrom}
use Rattle.grammar_reading.proofs.ReadElements.{explains-number_end, left-bits}
use Rattle.video_headers.specs.declared.limit.Limit.{Limit}
use Rattle.video_headers.specs.declared.why.Why.{Why}
use Rattle.video_headers.specs.declared.why.Why.TheVariants as why
use Rattle.video_headers.specs.HeadFault.{refusal_told}
use Rattle.video_headers.specs.Private.Why.{refusal_of, fault_at}
use Rattle.video_headers.specs.Private.Limits.{first_broken, AreRules}
use Rattle.video_headers.specs.Private.Reading.{Rests, Goes, Stops}
use Rattle.video_headers.proofs.Limited.{NumberCode, Agrees, AreLeft, left-shown, limited, Says}

-- ---- from told bits

pub told-of : (A : List ℕ → Type 0) (told : Option (List ℕ)) (bits : List ℕ) → told ≡ Some bits → IfSome told A → A bits
told-of A told bits e is = subst (λ (t : Option (List ℕ)). IfSome t A) e is

pub stops-explained : {A : Type 0} (grammar : Grammar A) (told : Option PlacedRefusal) {S : Type 0} {g : Ghosts S} (reader : BitReader S g)
    → IfSome (bits_left reader) (λ bits. ExplainsFrom grammar told bits (place reader)) → Stops grammar told (Rests reader)
stops-explained grammar told reader explains = record {
  why = λ end bits left. by_told told end bits left.ends (told-of (λ bits. ExplainsFrom grammar told bits (place reader)) (bits_left reader) bits left.told explains);
} where
  by_told : (told : Option PlacedRefusal) (end : ℕ) (bits : List ℕ) → place reader + length bits ≡ end → ExplainsFrom grammar told bits (place reader)
      → IfSome told (λ said. (left : List ℕ) × grammar.Refuses bits said.refusal left × (said.at + length left ≡ end))
  by_told None end bits ends e = tt
  by_told (Some said) end bits ends r = (r.left, r.refused, omega (arith, ends, r.moved, ap length r.split, length-append r.front r.left))

pub stops-end : (n : ℕ) {S : Type 0} {g : Ghosts S} (reader : BitReader S g) (at : ℕ) → at ≡ place reader → IfSome (bits_left reader) (λ bits. length bits < n)
    → Stops (uimsbf n []) (Some (record { refusal = End; at = at })) (Rests reader)
stops-end n reader at is short =
    subst (λ (k : ℕ). Stops (uimsbf n []) (Some (record { refusal = End; at = k })) (Rests reader)) (sym is)
    (stops-explained (uimsbf n []) _ reader (explains-number_end n (bits_left reader) (place reader) short (left-bits reader)))

-- ---- numbers within limits

module _ (n : ℕ) {S : Type 0} {g : Ghosts S} (reader : BitReader S g) (number known last at : ℕ) (limits : List Limit)
    (shows : IfSome (bits_left reader) (λ bits. IsWindow n bits number known)) (below : number < 2 ^ n)
    (filled : number % 2 ^ (n - known) ≡ 0) (is_last : last ≡ number + (2 ^ (n - known) - 1)) (is_at : at ≡ place reader) where
  says : (rules : List (Rule ℕ)) → AreRules n limits rules → (bits : List ℕ) → bits_left reader ≡ Some bits → Says n bits rules (first_broken number last limits)
  says rules are bits told = limited n bits [] rules limits number last
      (left-shown n bits number known last (told-of (λ bits. IsWindow n bits number known) (bits_left reader) bits told shows) below filled is_last)
      are

  told_why : (why : Why) (rules : List (Rule ℕ)) (bits : List ℕ) (end : ℕ) → place reader + length bits ≡ end → (uimsbf n rules).Refuses bits (refusal_of why) bits
      → IfSome (refusal_told (fault_at why at)) (λ said. (left : List ℕ) × (uimsbf n rules).Refuses bits said.refusal left × (said.at + length left ≡ end))
  told_why why.BadHeader rules bits end ends r = (bits, r, omega (arith, ends, is_at))
  told_why why.NotMpeg2 rules bits end ends r = (bits, r, omega (arith, ends, is_at))
  told_why why.Profile rules bits end ends r = (bits, r, omega (arith, ends, is_at))
  told_why why.LowDelay rules bits end ends r = (bits, r, omega (arith, ends, is_at))
  told_why why.Size rules bits end ends r = (bits, r, omega (arith, ends, is_at))
  told_why why.End rules bits end ends r = (bits, r, omega (arith, ends, is_at))

  pub limited-broken : (why : Why) → first_broken number last limits ≡ Some why → (rules : List (Rule ℕ)) → AreRules n limits rules
      → Stops (uimsbf n rules) (refusal_told (fault_at why at)) (Rests reader)
  limited-broken why found rules are = record {
    why = λ end bits left.
        let broken : Breaks (NumberCode n) rules bits (refusal_of why) = subst (Says n bits rules) found (says rules are bits left.told) in
        told_why why rules bits end left.ends (refl, inr (inl broken));
  }

  pub limited-cut : first_broken number last limits ≡ None → known < n → (rules : List (Rule ℕ)) → AreRules n limits rules
      → Stops (uimsbf n rules) (Some (record { refusal = End; at = at })) (Rests reader)
  limited-cut found lt rules are = record {
    why = λ end bits left.
        let may : MayStand (NumberCode n) rules bits = subst (Says n bits rules) found (says rules are bits left.told) in
        let shown = told-of (λ bits. IsWindow n bits number known) (bits_left reader) bits left.told shows in
        let few : length bits < n = omega (arith, shown.known) in (
          bits,
          (
            refl,
            inr (inr (
              may,
              λ stands. omega (arith, few, ap length stands.first, length-take (length stands.code) bits, ap length stands.coded.1, length-bits_of n stands.value),
              refl,
            )),
          ),
          omega (arith, left.ends, is_at),
        );
  }

  pub limited-goes : first_broken number last limits ≡ None → n ≤ known → {after : BitReader S g} → bits_left after ≡ without_front (bits_left reader) n → place after ≡ place reader + n
      → (rules : List (Rule ℕ)) → AreRules n limits rules → Goes (uimsbf n rules) number (Rests reader) (Rests after)
  limited-goes found ge {after} left moved rules are = record {
    on = λ end bits here.
        let may : MayStand (NumberCode n) rules bits = subst (Says n bits rules) found (says rules are bits here.told) in
        let shown = told-of (λ bits. IsWindow n bits number known) (bits_left reader) bits here.told shows in
        let all : known ≡ n = omega (arith, shown.known) in
        let long : n ≤ length bits = omega (arith, shown.known) in
        let first : take n bits ≡ bits_of n number = sym shown.front ∙ ap (λ (k : ℕ). take k (bits_of n number)) all ∙ take_all n (bits_of n number) (omega (arith, length-bits_of n number)) in
        let only = left-shown n bits number known last shown below filled is_last in
        let one : 2 ^ (n - known) ≡ 1 = ap (λ (k : ℕ). 2 ^ k) (let e : n - known ≡ 0 = omega (arith, all) in e) in
        let passing : passes rules number ≡ true = only_one may (omega (arith, is_last, one)) only in
        let split : bits ≡ bits_of n number ++ drop n bits = sym (take-append-drop n bits) ∙ ap (λ (f : List ℕ). f ++ drop n bits) first in (
          drop n bits,
          (bits_of n number, (below, refl), passing, split),
          record { told = left ∙ ap (option_map (drop n)) here.told; ends = omega (arith, here.ends, moved, ap length split, length-append (bits_of n number) (drop n bits), length-bits_of n number) },
        );
  } where
    only_one : {bits : List ℕ} → MayStand (NumberCode n) rules bits → last ≡ number → AreLeft n bits [] number last → passes rules number ≡ true
    only_one {bits} m one only =
        let agrees : Agrees n bits m.value = subst (λ (c : List ℕ). IsPrefix c bits ⊎ IsPrefix bits c) m.coded.1 m.agrees in
        let range = only.inside m.value m.coded.0 refl agrees in
        let same : m.value ≡ number = omega (arith, range.0, range.1, one) in
        subst (λ (v : ℕ). passes rules v ≡ true) same m.passing

-- a one shifted within a word
pub one-shifted : (k : ℕ) → k ≤ 24 → 1 * 2 ^ k % 2 ^ 32 ≡ 2 ^ k
one-shifted k le = one_shl k 32 (omega (arith, le))

-- nothing is told
pub stops-nothing : {A : Type 0} (grammar : Grammar A) (from : ℕ → List ℕ → Type 0) → Stops grammar None from
stops-nothing grammar from = record { why = λ end bits left. tt }

pub bits-goes : (n number : ℕ) {S : Type 0} {g : Ghosts S} (reader after : BitReader S g) → IfSome (bits_left reader) (λ bits. IsFirstNumber n bits number) → number < 2 ^ n
    → bits_left after ≡ without_front (bits_left reader) n → place after ≡ place reader + n → Goes (uimsbf n []) number (Rests reader) (Rests after)
bits-goes n number reader after front below left moved = record {
  on = λ end bits here.
      let is = told-of (λ bits. IsFirstNumber n bits number) (bits_left reader) bits here.told front in
      let split : bits ≡ bits_of n number ++ drop n bits = sym (take-append-drop n bits) ∙ ap (λ (f : List ℕ). f ++ drop n bits) is.front in (
        drop n bits,
        (bits_of n number, (below, refl), refl, split),
        record { told = left ∙ ap (option_map (drop n)) here.told; ends = omega (arith, here.ends, moved, ap length split, length-append (bits_of n number) (drop n bits), length-bits_of n number) },
      );
}

-- all bits of a number are known
pub one-number : (n known : ℕ) → n ≤ known → 2 ^ (n - known) ≡ 1
one-number n known le = ap (λ (k : ℕ). 2 ^ k) (let e : n - known ≡ 0 = omega arith in e)

-- Start codes by their four bytes.
use Rattle.std.proofs.Common.{◌≡◌, ℕ, ◌+◌, ◌-◌, ◌*◌, ◌<◌, ◌≤◌, nat_lt, nat_eq, Bool, true, false, List, ◌++◌, get_or, length, take, drop, Some, refl, sym, ap, ◌∙◌, arith, eq-eqb}
use Rattle.std.proofs.lemmas.Bool.{and_parts, and_from, eqb-true, lt-ltb, ltb-true}
use Rattle.std.proofs.lemmas.List.{drop-drop, length-take}
use Rattle.bit_lists.specs.Fields.{bit_list, bits_of_byte}
use Rattle.bit_lists.proofs.ByteLemmas.{bit_list-take, length-bit_list}
use Rattle.es_units.specs.StartCodes.{is_start_code_at, start_code_at, has_code}
use Rattle.es_units.proofs.Codes.{no_code, code_is}
use Rattle.picture_grammar.specs.StartCode.{start_code_prefix}
use Rattle.picture_heads.proofs.Bytes.{code-bits}
use Rattle.unit_laws.proofs.SliceCodes.{PrefixStands}

-- the bytes 00 00 01 stand at the place, with this value behind them
pub record Code (es : List ℕ) (at value : ℕ) : Type 0 where
  pub within : at + 3 < length es
  pub first : get_or es at 0 ≡ 0
  pub second : get_or es (at + 1) 0 ≡ 0
  pub third : get_or es (at + 2) 0 ≡ 1
  pub last : get_or es (at + 3) 0 ≡ value

pub code-is : (es : List ℕ) (at value : ℕ) → Code es at value → is_start_code_at es at ≡ true
code-is es at value code = and_from _ _ (lt-ltb _ _ code.within) (and_from _ _ (eq-eqb _ _ code.first) (and_from _ _ (eq-eqb _ _ code.second) (eq-eqb _ _ code.third)))

pub is-code : (es : List ℕ) (at : ℕ) → is_start_code_at es at ≡ true → Code es at (get_or es (at + 3) 0)
is-code es at is =
    let tests = and_parts (nat_lt (at + 3) (length es)) _ is in
    let more = and_parts (nat_eq (get_or es at 0) 0) _ tests.1 in
    let others = and_parts (nat_eq (get_or es (at + 1) 0) 0) (nat_eq (get_or es (at + 2) 0) 1) more.1 in
    record {
      within = ltb-true (at + 3) (length es) tests.0;
      first = eqb-true _ 0 more.0;
      second = eqb-true _ 0 others.0;
      third = eqb-true _ 1 others.1;
      last = refl;
    }

said : (es : List ℕ) (at : ℕ) → is_start_code_at es at ≡ true → start_code_at es at ≡ Some (get_or es (at + 3) 0)
said es at is = rw is refl

pub code-has : (test : ℕ → Bool) (es : List ℕ) (at value : ℕ) → Code es at value → test value ≡ true → has_code test es at ≡ true
code-has test es at value code passes = code_is test es at (get_or es (at + 3) 0) (said es at (code-is es at value code)) ∙ ap test code.last ∙ passes

-- a code of a kind
pub record CodeOf (test : ℕ → Bool) (es : List ℕ) (at : ℕ) : Type 0 where
  pub value : ℕ
  pub code : Code es at value
  pub passes : test value ≡ true

pub has-code : (test : ℕ → Bool) (es : List ℕ) (at : ℕ) → has_code test es at ≡ true → CodeOf test es at
has-code test es at has = by_code (is_start_code_at es at) refl
  where
    by_code : (there : Bool) → is_start_code_at es at ≡ there → CodeOf test es at
    by_code true is = record { value = get_or es (at + 3) 0; code = is-code es at is; passes = sym (code_is test es at (get_or es (at + 3) 0) (said es at is)) ∙ has }
    by_code false is = absurd (let none : has_code test es at ≡ false = no_code test es at is in let both : true ≡ false = sym has ∙ none in cc)

pub not-code : (test : ℕ → Bool) (es : List ℕ) (at : ℕ) → (CodeOf test es at → ⊥) → has_code test es at ≡ false
not-code test es at none = by_test (has_code test es at) refl
  where
    by_test : (has : Bool) → has_code test es at ≡ has → has_code test es at ≡ false
    by_test true has = absurd (none (has-code test es at has))
    by_test false has = has

-- ---- in bits

-- a code's prefix in the bits from a place on
pub prefix-there : (es : List ℕ) (from at value : ℕ) → from ≤ at → Code es at value → PrefixStands (bit_list (drop from es)) (bits_of_byte value ++ bit_list (drop (at + 4) es))
prefix-there es from at value le code =
    let k : ℕ = at - from in
    let back : from + k ≡ at = omega (arith, le) in
    let bits : bit_list (drop at es) ≡ start_code_prefix ++ (bits_of_byte value ++ bit_list (drop (at + 4) es)) =
    (code-bits es at (code-is es at value code)).1 ∙ ap (λ (v : ℕ). start_code_prefix ++ (bits_of_byte v ++ bit_list (drop (at + 4) es))) code.last in
    record {
      front = bit_list (take k (drop from es));
      split = bit_list-take k (drop from es) ∙ ap (λ (x : List ℕ). bit_list (take k (drop from es)) ++ bit_list x) (drop-drop k from es ∙ ap (λ (n : ℕ). drop n es) back)
          ∙ ap (λ (x : List ℕ). bit_list (take k (drop from es)) ++ x) bits;
      whole = omega (arith, length-bit_list (take k (drop from es)));
    }

-- a code in the bits of all bytes, behind those of the bytes before it
pub record CodeBits (es : List ℕ) (at : ℕ) : Type 0 where
  pub front : List ℕ
  pub after : List ℕ
  pub split : bit_list es ≡ front ++ (start_code_prefix ++ after)
  pub size : length front ≡ 8 * at

pub code-split : (es : List ℕ) (at value : ℕ) → Code es at value → CodeBits es at
code-split es at value code =
    let bits = (code-bits es at (code-is es at value code)).1 in
    let within = code.within in
    record {
      front = bit_list (take at es);
      after = bits_of_byte (get_or es (at + 3) 0) ++ bit_list (drop (at + 4) es);
      split = bit_list-take at es ∙ ap (λ (x : List ℕ). bit_list (take at es) ++ x) bits;
      size = length-bit_list (take at es) ∙ omega (arith, length-take at es, within);
    }

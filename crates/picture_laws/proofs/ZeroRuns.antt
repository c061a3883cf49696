-- Zero bits on end in what a grammar spells: never 23, from so many before to so many behind.
use Rattle.std.proofs.Common.{
  ◌≡◌,
  ◌&&◌,
  ◌+◌,
  ◌<◌,
  ◌≤◌,
  ◌≢◌,
  ℕ,
  zero,
  suc,
  nat_le,
  nat_lt,
  List,
  [],
  ◌∷◌,
  ◌++◌,
  length,
  replicate,
  Option,
  Some,
  None,
  Bool,
  true,
  false,
  cond,
  refl,
  sym,
  ap,
  subst,
  ◌∙◌,
  inl,
  inr,
  arith,
  append_assoc,
}
use Rattle.std.specs.List.{list_all}
use Rattle.std.proofs.lemmas.Bool.{and_parts, leb-true, ltb-true}
use Rattle.bit_lists.specs.Bits.{number_of}
use Rattle.bit_lists.specs.Fields.{flag}
use Rattle.bit_lists.proofs.BitLemmas.{length-bits_of}
use Rattle.prefix_codes.specs.Entry.{Entry}
use Rattle.prefix_codes.specs.declared.table_name.TableName.{TableName}
use Rattle.prefix_codes.specs.TableName.{entries, code_in}
use Rattle.prefix_codes.proofs.TableLemmas.{code_in-passes}
use Rattle.picture_grammar.specs.Refusal.{Refusal}
use Rattle.picture_grammar.specs.Grammar.{Grammar, done, ◌>>=◌, optional, when, if_next, repeated, each, many, SpellsList, Next, one_item_more}
use Rattle.picture_grammar.specs.Grammar.Next.{more, last}
use Rattle.picture_grammar.specs.Element.{Rule, passes, element, vlclbf, uimsbf, flag_where}
use Rattle.picture_laws.specs.Spellable.{IsSpellable}
use Rattle.picture_laws.proofs.ReadBack.{spellable}

-- behind so many zeros, fewer than 23 stand on end
abbrev pub AreShort : ℕ → List ℕ → Type 0
AreShort n [] = Unit {0}
AreShort n (zero ∷ bits) = (n + 1 < 23) × AreShort (n + 1) bits
AreShort n (suc m ∷ bits) = AreShort 0 bits

-- how many zeros stand at the end
abbrev pub zeros_behind : ℕ → List ℕ → ℕ
zeros_behind n [] = n
zeros_behind n (zero ∷ bits) = zeros_behind (n + 1) bits
zeros_behind n (suc m ∷ bits) = zeros_behind 0 bits

pub short-append : (n : ℕ) (a b : List ℕ) → AreShort n a → AreShort (zeros_behind n a) b → AreShort n (a ++ b)
short-append n [] b s t = t
short-append n (zero ∷ a) b s t = (s.0, short-append (n + 1) a b s.1 t)
short-append n (suc m ∷ a) b s t = short-append 0 a b s t

pub behind-append : (n : ℕ) (a b : List ℕ) → zeros_behind n (a ++ b) ≡ zeros_behind (zeros_behind n a) b
behind-append n [] b = refl
behind-append n (zero ∷ a) b = behind-append (n + 1) a b
behind-append n (suc m ∷ a) b = behind-append 0 a b

pub short-behind : (n : ℕ) (a b : List ℕ) → AreShort n (a ++ b) → AreShort (zeros_behind n a) b
short-behind n [] b s = s
short-behind n (zero ∷ a) b s = short-behind (n + 1) a b s.1
short-behind n (suc m ∷ a) b s = short-behind 0 a b s

pub short-fewer : (m n : ℕ) (bits : List ℕ) → m ≤ n → AreShort n bits → AreShort m bits
short-fewer m n [] le s = tt
short-fewer m n (zero ∷ bits) le s = (omega (arith, s.0), short-fewer (m + 1) (n + 1) bits (omega arith) s.1)
short-fewer m n (suc k ∷ bits) le s = s

pub behind-fewer : (m n : ℕ) (bits : List ℕ) → m ≤ n → zeros_behind m bits ≤ zeros_behind n bits
behind-fewer m n [] le = le
behind-fewer m n (zero ∷ bits) le = behind-fewer (m + 1) (n + 1) bits (omega arith)
behind-fewer m n (suc k ∷ bits) le = omega arith

pub short-zeros : (n k : ℕ) (bits : List ℕ) → AreShort n (replicate (suc k) 0 ++ bits) → n + suc k < 23
short-zeros n zero bits s = s.0
short-zeros n (suc k) bits s = omega (arith, short-zeros (n + 1) k bits s.1)

-- ---- any bits, and bits that aren't all 0

pub any-short : (n : ℕ) (bits : List ℕ) → n + length bits ≤ 22 → AreShort n bits
any-short n [] le = tt
any-short n (zero ∷ bits) le = (omega arith, any-short (n + 1) bits (omega arith))
any-short n (suc m ∷ bits) le = any-short 0 bits (omega arith)

pub any-behind : (n : ℕ) (bits : List ℕ) → zeros_behind n bits ≤ n + length bits
any-behind n [] = omega arith
any-behind n (zero ∷ bits) = omega (arith, any-behind (n + 1) bits)
any-behind n (suc m ∷ bits) = omega (arith, any-behind 0 bits)

pub some-short : (n : ℕ) (bits : List ℕ) → number_of bits ≢ 0 → n + length bits ≤ 23 → AreShort n bits × (zeros_behind n bits + 1 ≤ length bits)
unfolding number_of
some-short n [] some le = absurd (some refl)
some-short n (zero ∷ bits) some le =
    let later = some-short (n + 1) bits (λ none. some (omega (arith, none))) (omega arith) in
    let most : zeros_behind (n + 1) bits + 1 ≤ length bits = later.1 in
    ((omega (arith, most), later.0), omega (arith, most))
some-short n (suc m ∷ bits) some le = (any-short 0 bits (omega arith), omega (arith, any-behind 0 bits))

-- ---- grammars

-- from at most so many zeros, what spells a value has no 23 on end, and leaves at most so many by the value
pub record IsShort {A : Type 0} (from : ℕ) (to : A → ℕ) (grammar : Grammar A) : Type 0 where
  pub runs : (v : A) (bits rest : List ℕ) → grammar.Spells v bits rest → (front : List ℕ) × (bits ≡ front ++ rest) × AreShort from front × (zeros_behind from front ≤ to v)

pub short-done : {A : Type 0} (from : ℕ) (to : A → ℕ) (value : A) → from ≤ to value → IsShort from to (done value)
short-done {A} from to value le = record { runs = λ v bits rest (e, f). ([], f, tt, subst (λ (x : A). from ≤ to x) (sym e) le) }

pub short-element : {A : Type 0} (from : ℕ) (to : A → ℕ) (Codes : A → List ℕ → Type 0) (refusal : Refusal) (rules : List (Rule A))
    → ((value : A) (code : List ℕ) → Codes value code → passes rules value ≡ true → AreShort from code × (zeros_behind from code ≤ to value)) → IsShort from to (element Codes refusal rules)
short-element from to Codes refusal rules each = record {
  runs = λ v bits rest (code, coded, passing, split). let (short, le) = each v code coded passing in (code, split, short, le);
}

pub short-bind : {A B : Type 0} (from : ℕ) (between : A → ℕ) (to : B → ℕ) (first : Grammar A) (next : A → Grammar B)
    → IsShort from between first → ((a : A) → IsSpellable first a → IsShort (between a) to (next a)) → IsShort from to (first >>= next)
short-bind from between to first next short each = record {
  runs = λ v bits rest (a, middle, s, t).
      let (f, p, short_f, le) = short.runs a bits middle s in
      let (g, q, short_g, le') = (each a (spellable first a bits middle s)).runs v middle rest t in (
        f ++ g,
        p ∙ ap (λ (m : List ℕ). f ++ m) q ∙ sym (append_assoc f g rest),
        short-append from f g short_f (short-fewer (zeros_behind from f) (between a) g le short_g),
        omega (arith, behind-append from f g, behind-fewer (zeros_behind from f) (between a) g le, le'),
      );
}

pub short-weak : {A : Type 0} (from other : ℕ) (to later : A → ℕ) (grammar : Grammar A) → other ≤ from → ((v : A) → to v ≤ later v) → IsShort from to grammar → IsShort other later grammar
short-weak from other to later grammar le each short = record {
  runs = λ v bits rest s.
      let (f, p, short_f, le') = short.runs v bits rest s in
      (f, p, short-fewer other from f le short_f, omega (arith, behind-fewer other from f le, le', each v));
}

pub short-when : {A : Type 0} (from : ℕ) (to : A → ℕ) (test : Bool) (grammar : Grammar A) (absent : A) → (test ≡ true → IsShort from to grammar)
    → (test ≡ false → from ≤ to absent) → IsShort from to (when test grammar absent)
short-when from to true grammar absent short le = short refl
short-when from to false grammar absent short le = short-done from to absent (le refl)

pub short-optional : {A : Type 0} (from : ℕ) (to : Option A → ℕ) (test : Bool) (grammar : Grammar A)
    → (test ≡ true → IsShort from (λ v. to (Some v)) grammar) → (test ≡ false → from ≤ to None) → IsShort from to (optional test grammar)
short-optional from to true grammar short le = short-bind from (λ v. to (Some v)) to grammar (λ value. done (Some value)) (short refl) (λ v s. short-done (to (Some v)) to (Some v) (omega arith))
short-optional from to false grammar short le = short-done from to None (le refl)

pub short-if_next : {A : Type 0} (from : ℕ) (to : A → ℕ) (IsSuch : List ℕ → Type 0) (then else : Grammar A) → IsShort from to then → IsShort from to else → IsShort from to (if_next IsSuch then else)
short-if_next {A} from to IsSuch then else short other = record { runs = runs } where
  runs : (v : A) (bits rest : List ℕ) → (if_next IsSuch then else).Spells v bits rest → (front : List ℕ) × (bits ≡ front ++ rest) × AreShort from front × (zeros_behind from front ≤ to v)
  runs v bits rest (inl (c, s)) = short.runs v bits rest s
  runs v bits rest (inr (c, s)) = other.runs v bits rest s

pub short-repeated : {A : Type 0} (from n : ℕ) (grammar : Grammar A) → IsShort from (λ _. from) grammar → IsShort from (λ _. from) (repeated n grammar)
short-repeated from zero grammar short = short-done from (λ _. from) [] (omega arith)
short-repeated from (suc n) grammar short =
    short-bind from (λ _. from) (λ _. from) grammar (λ value. repeated n grammar >>= λ values. done (value ∷ values)) short
    (λ value s. short-bind from (λ _. from) (λ _. from) (repeated n grammar) (λ values. done (value ∷ values)) (short-repeated from n grammar short)
    (λ values t. short-done from (λ _. from) (value ∷ values) (omega arith)))

pub short-each : {I A : Type 0} (from : ℕ) (is : List I) (grammar : I → Grammar A) → ((i : I) → IsShort from (λ _. from) (grammar i)) → IsShort from (λ _. from) (each is grammar)
short-each from [] grammar short = short-done from (λ _. from) [] (omega arith)
short-each from (i ∷ is) grammar short =
    short-bind from (λ _. from) (λ _. from) (grammar i) (λ value. each is grammar >>= λ values. done (value ∷ values)) (short i)
    (λ value s. short-bind from (λ _. from) (λ _. from) (each is grammar) (λ values. done (value ∷ values)) (short-each from is grammar short)
    (λ values t. short-done from (λ _. from) (value ∷ values) (omega arith)))

pub short-one_more : {A B : Type 0} (from : ℕ) (to : Next A B → ℕ) (grammar : Grammar A) → IsShort from (λ v. to (more v)) grammar → IsShort from to (one_item_more {A = A} {B = B} grammar)
short-one_more {A} {B} from to grammar short =
    let another : A → Grammar (Next A B) = λ value. done (more value) in
    short-bind from (λ v. to (more v)) to grammar another short (λ v s. short-done (to (more v)) to (more v) (omega arith))

module _ {A B : Type 0} (from : ℕ) (to : Next A B → ℕ) (next : List A → Grammar (Next A B)) (again : (v : A) → to (more v) ≤ from) (short : (before : List A) → IsShort from to (next before)) where
  list_short : (before values : List A) (end : B) (bits rest : List ℕ) → SpellsList next before values end bits rest
      → (front : List ℕ) × (bits ≡ front ++ rest) × AreShort from front × (zeros_behind from front ≤ to (last end))
  list_short before [] end bits rest s = (short before).runs (last end) bits rest s
  list_short before (v ∷ vs) end bits rest (middle, s, t) =
      let (f, p, short_f, le) = (short before).runs (more v) bits middle s in
      let (g, q, short_g, le') = list_short (before ++ v ∷ []) vs end middle rest t in
      let fewer : zeros_behind from f ≤ from = omega (arith, le, again v) in (
        f ++ g,
        p ∙ ap (λ (m : List ℕ). f ++ m) q ∙ sym (append_assoc f g rest),
        short-append from f g short_f (short-fewer (zeros_behind from f) from g fewer short_g),
        omega (arith, behind-append from f g, behind-fewer (zeros_behind from f) from g fewer, le'),
      )

  pub short-many : IsShort from (λ (found : List A × B). to (last found.1)) (many next)
  short-many = record { runs = λ v bits rest s. list_short [] v.0 v.1 bits rest s }

-- ---- elements

-- any number of so many bits
pub short-uimsbf : (from n : ℕ) (rules : List (Rule ℕ)) → from + n ≤ 22 → IsShort from (λ _. from + n) (uimsbf n rules)
short-uimsbf from n rules le = short-element from (λ _. from + n) _ _ rules (λ v code coded passing.
    let count : length code ≡ n = ap length coded.1 ∙ length-bits_of n v in
    (any-short from code (omega arith), omega (arith, any-behind from code)))

-- a flag that is set leaves none
abbrev pub behind_flag : ℕ → Bool → ℕ
behind_flag from is_set = cond is_set 0 (from + 1)

pub short-flag : (from : ℕ) (rules : List (Rule Bool)) → from < 22 → IsShort from (behind_flag from) (flag_where rules)
short-flag from rules lt = short-element from (behind_flag from) _ _ rules (λ is_set code coded passing. by_flag is_set code coded) where
  by_flag : (is_set : Bool) (code : List ℕ) → code ≡ flag is_set ∷ [] → AreShort from code × (zeros_behind from code ≤ behind_flag from is_set)
  by_flag true code e = subst (λ (c : List ℕ). AreShort from c × (zeros_behind from c ≤ 0)) (sym e) (tt, omega arith)
  by_flag false code e = subst (λ (c : List ℕ). AreShort from c × (zeros_behind from c ≤ from + 1)) (sym e) ((omega arith, tt), omega arith)

-- codes of a table that pass the test
abbrev pub are_short : ℕ → List ℕ → Bool
are_short n [] = true
are_short n (zero ∷ bits) = nat_lt (n + 1) 23 && are_short (n + 1) bits
are_short n (suc m ∷ bits) = are_short 0 bits

short-tested : (n : ℕ) (bits : List ℕ) → are_short n bits ≡ true → AreShort n bits
short-tested n [] e = tt
short-tested n (zero ∷ bits) e = let parts = and_parts (nat_lt (n + 1) 23) (are_short (n + 1) bits) e in (ltb-true (n + 1) 23 parts.0, short-tested (n + 1) bits parts.1)
short-tested n (suc m ∷ bits) e = short-tested 0 bits e

abbrev pub is_short_entry : ℕ → (ℕ → ℕ) → Entry → Bool
is_short_entry from to e = are_short from e.1 && nat_le (zeros_behind from e.1) (to e.0)

pub short-code : (from : ℕ) (to : ℕ → ℕ) (table : TableName) (symbol : ℕ) (code : List ℕ) → list_all (is_short_entry from to) (entries table) ≡ true → code_in table symbol ≡ Some code
    → AreShort from code × (zeros_behind from code ≤ to symbol)
short-code from to table symbol code all listed =
    let parts = and_parts (are_short from code) (nat_le (zeros_behind from code) (to symbol)) (code_in-passes (is_short_entry from to) table symbol code all listed) in
    (short-tested from code parts.0, leb-true (zeros_behind from code) (to symbol) parts.1)

pub short-vlclbf : (from : ℕ) (to : ℕ → ℕ) (table : TableName) (refusal : Refusal) (rules : List (Rule ℕ))
    → list_all (is_short_entry from to) (entries table) ≡ true → IsShort from to (vlclbf table refusal rules)
short-vlclbf from to table refusal rules all = short-element from to _ refusal rules (λ symbol code listed passing. short-code from to table symbol code all listed)

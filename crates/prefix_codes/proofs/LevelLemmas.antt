-- The words of a table's levels answer which code begins a window: a test of each word, computed for each table, and what
-- it says of windows.
use Rattle.std.proofs.Common.{
  ◌≡◌,
  ℕ,
  zero,
  suc,
  ◌+◌,
  ◌-◌,
  ◌*◌,
  ◌/◌,
  ◌%◌,
  ◌^◌,
  ◌<◌,
  ◌≤◌,
  ◌↔◌,
  Bool,
  true,
  false,
  not,
  ◌&&◌,
  ◌||◌,
  nat_eq,
  nat_lt,
  nat_le,
  List,
  [],
  ◌∷◌,
  length,
  take,
  drop,
  get_or,
  Option,
  Some,
  None,
  slice_get,
  refl,
  sym,
  ap,
  ap₂,
  subst,
  eq-eqb,
  ◌∙◌,
  inl,
  inr,
  arith,
  add-zero,
  zero-add,
}
use Rattle.std.specs.List.{list_all}
use Rattle.std.proofs.lemmas.Bool.{and_parts, and_from, or_cases, eqb-true, ltb-true, leb-true, cond-true, cond-false, cases_Bool, not-true, both_ways, lt-ltb, le-ltb}
use Rattle.std.proofs.Math.Nat.{div-div-eq-div-mul, mod-lt}
use Rattle.std.proofs.lemmas.Nat.{mod-pow-add, pow-add, pow_pos}
use Rattle.std.proofs.lemmas.List.{get_or-take, get_or-drop, length-take, length-take-le, length-drop, take-take}
use Rattle.bit_lists.specs.Bits.{bits_of, front_of, IsPrefix}
use Rattle.bit_lists.proofs.BitLemmas.{length-bits_of, take-bits_of, bits_of-mod}
use Rattle.bit_lists.proofs.PrefixLemmas.{IsPrefix-either, IsPrefix-through}
use Rattle.prefix_codes.specs.declared.lookup.TheConstants.{WINDOW_BITS}
use Rattle.prefix_codes.specs.declared.tables.TheConstants.{FIRST_BITS, LINK}
use Rattle.prefix_codes.specs.declared.table_name.TableName.{TableName}
use Rattle.prefix_codes.specs.declared.table_name.TableName.TheVariants.{Address, TypeI, TypeP, TypeB, Pattern, Motion, DcLuma, DcChroma, CoeffZero, CoeffFirst, CoeffOne}
use Rattle.prefix_codes.specs.Entry.{Entry}
use Rattle.prefix_codes.specs.TableName.{entries, code_in, Begins}
use Rattle.prefix_codes.specs.Private.Words.{number_in, length_in, answer_of}
use Rattle.prefix_codes.specs.Private.Levels.{first_of, second_of, Answers}
use Rattle.prefix_codes.proofs.Computing.{tables}
use Rattle.prefix_codes.proofs.TableLemmas.{begins, begins_from_IsPrefix, code_in-entry, code_in-passes, Begins-same}

-- ---- the test

-- the entry whose code begins some bits
unfoldable pub found_in : List Entry → List ℕ → Option Entry
found_in [] bits = None
found_in (e ∷ es) bits = elim (begins e.1 bits) [ true ↦ Some e | false ↦ found_in es bits ]

-- the bits are enough to tell whether the entry's code begins them
abbrev pub is_decided : List ℕ → Entry → Bool
is_decided bits e = begins e.1 bits || not (begins bits e.1)

-- a word has the entry that was found
abbrev pub has_found : ℕ → Option Entry → Bool
has_found word None = nat_eq (length_in word) 0
has_found word (Some e) = nat_eq (number_in word) e.0 && (nat_eq (length_in word) (length e.1) && nat_lt 0 (length_in word))

-- a word says which code begins these bits, whatever follows them
abbrev pub is_last : List Entry → List ℕ → ℕ → Bool
is_last es bits word = list_all (is_decided bits) es && has_found word (found_in es bits)

-- and so do these words for numbers of so many bits, from one on
unfoldable pub are_last : List Entry → ℕ → ℕ → List ℕ → Bool
are_last es size number [] = true
are_last es size number (word ∷ words) = is_last es (bits_of size number) word && are_last es size (suc number) words

-- the words to which a word leads
abbrev pub behind : List ℕ → ℕ → List ℕ
behind second word = take (2 ^ length_in word) (drop (number_in word) second)

-- a word of a first level is the last one for a number, or leads to words that are
unfoldable pub is_first : Bool → List Entry → List ℕ → ℕ → ℕ → Bool
is_first true es second number word = is_last es (bits_of FIRST_BITS number) word
is_first false es second number word =
    nat_le (length_in word) (WINDOW_BITS - FIRST_BITS)
    && (nat_le (number_in word + 2 ^ length_in word) (length second)
    && are_last es (FIRST_BITS + length_in word) (number * 2 ^ length_in word) (behind second word))

unfoldable pub are_first : List Entry → List ℕ → ℕ → List ℕ → Bool
are_first es second number [] = true
are_first es second number (word ∷ words) = is_first (nat_lt word LINK) es second number word && are_first es second (suc number) words

-- the test, computed for each table
levels_tell : (table : TableName) → are_first (entries table) (second_of table) 0 (first_of table) ≡ true
unfolding tables begins found_in are_last is_first are_first first_of second_of
levels_tell Address = refl
levels_tell TypeI = refl
levels_tell TypeP = refl
levels_tell TypeB = refl
levels_tell Pattern = refl
levels_tell Motion = refl
levels_tell DcLuma = refl
levels_tell DcChroma = refl
levels_tell CoeffZero = refl
levels_tell CoeffFirst = refl
levels_tell CoeffOne = refl

-- ---- what is found among entries

pub IsPrefix_from_begins : (xs ys : List ℕ) → begins xs ys ≡ true → IsPrefix xs ys
unfolding begins
IsPrefix_from_begins [] ys h = refl
IsPrefix_from_begins (x ∷ xs) [] h = cc
IsPrefix_from_begins (x ∷ xs) (y ∷ ys) h =
    let parts = and_parts (nat_eq x y) (begins xs ys) h in
    ap₂ (λ (b : ℕ) (bs : List ℕ). b ∷ bs) (sym (eqb-true x y parts.0)) (IsPrefix_from_begins xs ys parts.1)

found_here : (e : Entry) (es : List Entry) (bits : List ℕ) → begins e.1 bits ≡ true → found_in (e ∷ es) bits ≡ Some e
unfolding found_in
found_here e es bits h = rw (h, found_in) refl

found_later : (e : Entry) (es : List Entry) (bits : List ℕ) → begins e.1 bits ≡ false → found_in (e ∷ es) bits ≡ found_in es bits
unfolding found_in
found_later e es bits h = rw (h, found_in) refl

found_at : (es : List Entry) (bits : List ℕ) (f : Entry) → found_in es bits ≡ Some f → (i : ℕ) × (slice_get es i ≡ Some f) × (begins f.1 bits ≡ true)
unfolding found_in
found_at [] bits f found = cc
found_at (e ∷ es) bits f found = elim (cases_Bool (begins e.1 bits)) [
  | inl here ↦
      let same : Some e ≡ Some f = sym (found_here e es bits here) ∙ found in
      (0, same, subst (λ (g : Entry). begins g.1 bits ≡ true) (let is : e ≡ f = cc in is) here)
  | inr later ↦
      let rest = found_at es bits f (sym (found_later e es bits later) ∙ found) in
      (suc rest.0, rest.1, rest.2)
]

none_found : (es : List Entry) (bits : List ℕ) → found_in es bits ≡ None → list_all (λ e. not (begins e.1 bits)) es ≡ true
none_found [] bits none = refl
none_found (e ∷ es) bits none = elim (cases_Bool (begins e.1 bits)) [
  | inl here ↦ let clash : Some e ≡ None = sym (found_here e es bits here) ∙ none in cc
  | inr later ↦ and_from _ _ (ap not later) (none_found es bits (sym (found_later e es bits later) ∙ none))
]

pub not_zero : (n : ℕ) → 0 < n → nat_eq n 0 ≡ false
not_zero n lt = elim (cases_Bool (nat_eq n 0)) [
  | inl none ↦ absurd (let is : n ≡ 0 = eqb-true n 0 none in omega arith)
  | inr some ↦ some
]

-- ---- answers

same_pair : (a b s n : ℕ) (x : Option (ℕ × ℕ)) → x ≡ Some (a, b) → x ≡ Some (s, n) → (a ≡ s) × (b ≡ n)
same_pair a b s n x is other =
    let first : ℕ × ℕ = (a, b) in
    let second : ℕ × ℕ = (s, n) in
    let some : Some first ≡ Some second = sym is ∙ other in
    let both : first ≡ second = cc in
    (ap (λ (p : ℕ × ℕ). p.0) both, ap (λ (p : ℕ × ℕ). p.1) both)

-- ---- what a last word says of all bits behind a front

module _ (table : TableName) (bits whole : List ℕ) (word : ℕ) (test : is_last (entries table) bits word ≡ true) (front : IsPrefix bits whole) where
  decided : list_all (is_decided bits) (entries table) ≡ true
  decided = (and_parts (list_all (is_decided bits) (entries table)) (has_found word (found_in (entries table) bits)) test).0

  has : has_found word (found_in (entries table) bits) ≡ true
  has = (and_parts (list_all (is_decided bits) (entries table)) (has_found word (found_in (entries table) bits)) test).1

  -- a code that begins all the bits begins the front
  begins_front : (s : ℕ) (code : List ℕ) → code_in table s ≡ Some code → IsPrefix code whole → begins code bits ≡ true
  begins_front s code listed first =
      elim (or_cases (begins code bits) (not (begins bits code)) (code_in-passes (is_decided bits) table s code decided listed)) [
        | inl here ↦ here
        | inr apart ↦ elim (IsPrefix-either code bits whole first front) [
          | inl shorter ↦ begins_from_IsPrefix code bits shorter
          | inr longer ↦ absurd (both_ways (begins bits code) (not-true (begins bits code) apart) (begins_from_IsPrefix bits code longer))
        ]
      ]

  answer_found : (e : Entry) → found_in (entries table) bits ≡ Some e → (answer_of word ≡ Some (e.0, length e.1)) × Begins table whole e.0 (length e.1)
  answer_found e found =
      let place = found_at (entries table) bits e found in
      let told : has_found word (Some e) ≡ true = subst (λ (o : Option Entry). has_found word o ≡ true) found has in
      let parts = and_parts (nat_eq (number_in word) e.0) (nat_eq (length_in word) (length e.1) && nat_lt 0 (length_in word)) told in
      let lengths = and_parts (nat_eq (length_in word) (length e.1)) (nat_lt 0 (length_in word)) parts.1 in
      let some : 0 < length_in word = ltb-true 0 (length_in word) lengths.1 in
      let is : answer_of word ≡ Some (number_in word, length_in word) = cond-false _ None (Some (number_in word, length_in word)) (not_zero (length_in word) some) in (
        is ∙ ap₂ (λ (s n : ℕ). Some (s, n)) (eqb-true (number_in word) e.0 parts.0) (eqb-true (length_in word) (length e.1) lengths.0),
        record {
          code = e.1;
          listed = code_in-entry table place.0 e place.1;
          counted = refl;
          first = IsPrefix-through e.1 bits whole (IsPrefix_from_begins e.1 bits place.2) front;
        },
      )

  answer_none : found_in (entries table) bits ≡ None → answer_of word ≡ None
  answer_none none =
      let told : has_found word None ≡ true = subst (λ (o : Option Entry). has_found word o ≡ true) none has in
      cond-true _ None (Some (number_in word, length_in word)) told

  pub answers : Answers table whole word
  answers s n = by_cases (found_in (entries table) bits) refl
    where
      by_cases : (o : Option Entry) → found_in (entries table) bits ≡ o → (answer_of word ≡ Some (s, n)) ↔ Begins table whole s n
      by_cases None none = (
        λ answer. (let clash : None ≡ Some (s, n) = sym (answer_none none) ∙ answer in cc),
        λ b.
            let apart = code_in-passes (λ e. not (begins e.1 bits)) table s b.code (none_found (entries table) bits none) b.listed in
            absurd (both_ways (begins b.code bits) (not-true (begins b.code bits) apart) (begins_front s b.code b.listed b.first)),
      )
      by_cases (Some e) found =
          let here = answer_found e found in (
            λ answer.
                let same = same_pair e.0 (length e.1) s n (answer_of word) here.0 answer in
                subst (λ x. Begins table whole x n) same.0 (subst (λ x. Begins table whole e.0 x) same.1 here.1),
            λ b.
                let same = Begins-same table whole e.0 s (length e.1) n here.1 b in
                here.0 ∙ ap₂ (λ (x y : ℕ). Some (x, y)) same.0 same.1,
          )

-- ---- the word at a place of a level

last_at : (es : List Entry) (size number : ℕ) (words : List ℕ) (j : ℕ) → are_last es size number words ≡ true → j < length words → is_last es (bits_of size (number + j)) (get_or words j 0) ≡ true
unfolding are_last
last_at es size number [] j test lt = absurd (omega arith)
last_at es size number (word ∷ words) zero test lt =
    rw add-zero (and_parts (is_last es (bits_of size number) word) (are_last es size (suc number) words) test).0
last_at es size number (word ∷ words) (suc j) test lt =
    let rest = last_at es size (suc number) words j (and_parts (is_last es (bits_of size number) word) (are_last es size (suc number) words) test).1 (omega arith) in
    let place : suc number + j ≡ number + suc j = omega arith in
    subst (λ k. is_last es (bits_of size k) (get_or words j 0) ≡ true) place rest

first_at : (es : List Entry) (second : List ℕ) (number : ℕ) (words : List ℕ) (j : ℕ) → are_first es second number words ≡ true → j < length words
    → is_first (nat_lt (get_or words j 0) LINK) es second (number + j) (get_or words j 0) ≡ true
unfolding are_first
first_at es second number [] j test lt = absurd (omega arith)
first_at es second number (word ∷ words) zero test lt =
    rw add-zero (and_parts (is_first (nat_lt word LINK) es second number word) (are_first es second (suc number) words) test).0
first_at es second number (word ∷ words) (suc j) test lt =
    let rest = first_at es second (suc number) words j (and_parts (is_first (nat_lt word LINK) es second number word) (are_first es second (suc number) words) test).1 (omega arith) in
    let place : suc number + j ≡ number + suc j = omega arith in
    subst (λ k. is_first (nat_lt (get_or words j 0) LINK) es second k (get_or words j 0) ≡ true) place rest

-- ---- the front of a window by its number

front_bits : (k m w : ℕ) → IsPrefix (bits_of k (w / 2 ^ m % 2 ^ k)) (bits_of (k + m) w)
front_bits k m w =
    let front = bits_of k (w / 2 ^ m % 2 ^ k) in
    ap (λ n. take n (bits_of (k + m) w)) (length-bits_of k (w / 2 ^ m % 2 ^ k)) ∙ take-bits_of k m w ∙ sym (bits_of-mod k (w / 2 ^ m))

-- the first k + n bits by the first k and the n behind them
split_front : (k n m w : ℕ) → (w / 2 ^ (n + m) % 2 ^ k) * 2 ^ n + w / 2 ^ m % 2 ^ n ≡ w / 2 ^ m % 2 ^ (k + n)
split_front k n m w =
    let swap : n + m ≡ m + n = omega arith in
    let high : w / 2 ^ (n + m) ≡ w / 2 ^ m / 2 ^ n =
    ap (λ x. w / 2 ^ x) swap ∙ ap (λ x. w / x) (pow-add 2 m n) ∙ sym (div-div-eq-div-mul w (2 ^ m) (2 ^ n)) in
    ap (λ x. x % 2 ^ k * 2 ^ n + w / 2 ^ m % 2 ^ n) high ∙ sym (mod-pow-add (w / 2 ^ m) k n)

-- ---- the words of a table

pub length-first_of : (table : TableName) → length (first_of table) ≡ 256
unfolding first_of
length-first_of Address = refl
length-first_of TypeI = refl
length-first_of TypeP = refl
length-first_of TypeB = refl
length-first_of Pattern = refl
length-first_of Motion = refl
length-first_of DcLuma = refl
length-first_of DcChroma = refl
length-first_of CoeffZero = refl
length-first_of CoeffFirst = refl
length-first_of CoeffOne = refl

module _ (table : TableName) (window : ℕ) where
  abbrev place : ℕ
  place = window / 2 ^ 16 % 2 ^ 8

  abbrev word : ℕ
  word = get_or (first_of table) place 0

  long : length (first_of table) ≡ 256
  long = length-first_of table

  tested : is_first (nat_lt word LINK) (entries table) (second_of table) place word ≡ true
  tested =
      let within : place < length (first_of table) = omega (arith, long) in
      subst (λ k. is_first (nat_lt word LINK) (entries table) (second_of table) k word ≡ true) (zero-add place)
      (first_at (entries table) (second_of table) 0 (first_of table) place (levels_tell table) within)

  -- a word below the links answers
  pub first_answers : word < LINK → Answers table (bits_of WINDOW_BITS window) word
  unfolding is_first
  first_answers below =
      answers table (bits_of 8 place) (bits_of 24 window) word
      (subst (λ b. is_first b (entries table) (second_of table) place word ≡ true) (lt-ltb word LINK below) tested)
      (front_bits 8 16 window)

  -- a link leads to words that answer
  module _ (link : LINK ≤ word) where
    abbrev more : ℕ
    more = length_in word

    link_parts : (more ≤ 16) × (number_in word + 2 ^ more ≤ length (second_of table)) × (are_last (entries table) (8 + more) (place * 2 ^ more) (behind (second_of table) word) ≡ true)
    unfolding is_first
    link_parts =
        let test = subst (λ b. is_first b (entries table) (second_of table) place word ≡ true) (le-ltb word LINK link) tested in
        let parts = and_parts (nat_le more 16) (nat_le (number_in word + 2 ^ more) (length (second_of table))
        && are_last (entries table) (8 + more) (place * 2 ^ more) (behind (second_of table) word)) test in
        let rest = and_parts (nat_le (number_in word + 2 ^ more) (length (second_of table))) (are_last (entries table) (8 + more) (place * 2 ^ more) (behind (second_of table) word)) parts.1 in
        (leb-true more 16 parts.0, leb-true (number_in word + 2 ^ more) (length (second_of table)) rest.0, rest.1)

    abbrev second_place : ℕ
    second_place = window / 2 ^ (16 - more) % 2 ^ more

    pub link_few : more ≤ 16
    link_few = link_parts.0

    pub link_within : number_in word + second_place < length (second_of table)
    link_within = omega (arith, link_parts.1, mod-lt (window / 2 ^ (16 - more)) (pow_pos more))

    pub second_answers : Answers table (bits_of WINDOW_BITS window) (get_or (second_of table) (number_in word + second_place) 0)
    second_answers =
        let below : second_place < 2 ^ more = mod-lt (window / 2 ^ (16 - more)) (pow_pos more) in
        let size : length (behind (second_of table) word) ≡ 2 ^ more =
        length-take-le (2 ^ more) (drop (number_in word) (second_of table)) (omega (arith, length-drop (number_in word) (second_of table), link_parts.1)) in
        let here : get_or (behind (second_of table) word) second_place 0 ≡ get_or (second_of table) (number_in word + second_place) 0 =
        get_or-take (2 ^ more) (drop (number_in word) (second_of table)) second_place 0 below ∙ get_or-drop (number_in word) (second_of table) second_place 0 in
        let last = last_at (entries table) (8 + more) (place * 2 ^ more) (behind (second_of table) word) second_place link_parts.2 (omega (arith, size)) in
        let back : more + (16 - more) ≡ 16 = omega (arith, link_parts.0) in
        let whole : 8 + more + (16 - more) ≡ 24 = omega (arith, link_parts.0) in
        let number : place * 2 ^ more + second_place ≡ window / 2 ^ (16 - more) % 2 ^ (8 + more) =
        ap (λ x. window / 2 ^ x % 2 ^ 8 * 2 ^ more + second_place) (sym back) ∙ split_front 8 more (16 - more) window in
        answers table (bits_of (8 + more) (place * 2 ^ more + second_place)) (bits_of 24 window) (get_or (second_of table) (number_in word + second_place) 0)
        (subst (λ x. is_last (entries table) (bits_of (8 + more) (place * 2 ^ more + second_place)) x ≡ true) here last)
        (subst (λ x. IsPrefix (bits_of (8 + more) x) (bits_of 24 window)) (sym number)
        (subst (λ k. IsPrefix (bits_of (8 + more) (window / 2 ^ (16 - more) % 2 ^ (8 + more))) (bits_of k window)) whole (front_bits (8 + more) (16 - more) window)))

-- ---- a window of which only the first bits are known

-- a code begins the known bits where it begins all and is no longer than the known ones
pub known_begins : (table : TableName) (window known s n : ℕ) → Begins table (bits_of WINDOW_BITS window) s n → n ≤ known → Begins table (front_of WINDOW_BITS window known) s n
known_begins table window known s n b le = record {
  code = b.code;
  listed = b.listed;
  counted = b.counted;
  first = take-take (length b.code) known (bits_of 24 window) (let counted = b.counted in omega arith) ∙ b.first;
}

pub begins_known : (table : TableName) (window known s n : ℕ) → Begins table (front_of WINDOW_BITS window known) s n → Begins table (bits_of WINDOW_BITS window) s n × (n ≤ known)
begins_known table window known s n b =
    let le : length b.code ≤ known = omega (arith, ap length b.first, length-take (length b.code) (front_of 24 window known), length-take known (bits_of 24 window)) in (
      record {
        code = b.code;
        listed = b.listed;
        counted = b.counted;
        first = sym (take-take (length b.code) known (bits_of 24 window) le) ∙ b.first;
      },
      (let counted = b.counted in omega arith),
    )

-- an answer is right where it is Some exactly for a code that begins the bits
abbrev pub IsAnswer : Option (ℕ × ℕ) → TableName → List ℕ → Type 0
IsAnswer answer table bits = (s n : ℕ) → (answer ≡ Some (s, n)) ↔ Begins table bits s n

-- a word's answer, where its code is among the known bits, and where it isn't
module _ (table : TableName) (window known word number len : ℕ) (is : Answers table (bits_of WINDOW_BITS window) word) (number_is : number ≡ number_in word) (len_is : len ≡ length_in word) where
  pub given : 0 < len → answer_of word ≡ Some (number, len)
  given some =
      cond-false _ None (Some (number_in word, length_in word)) (not_zero (length_in word) (omega arith))
      ∙ ap₂ (λ (x y : ℕ). Some (x, y)) (sym number_is) (sym len_is)

  pub known_answer : 0 < len → len ≤ known → IsAnswer (Some (number, len)) table (front_of WINDOW_BITS window known)
  known_answer some le s n = (
    λ same.
        let parts = same_pair number len s n (Some (number, len)) refl same in
        known_begins table window known s n ((is s n).0 (given some ∙ same)) (omega (arith, parts.1)),
    λ b. sym (given some) ∙ (is s n).1 (begins_known table window known s n b).0,
  )

  pub none_known : len ≡ 0 → IsAnswer None table (front_of WINDOW_BITS window known)
  none_known none s n = (
    λ same. cc,
    λ b.
        let test : nat_eq (length_in word) 0 ≡ true = eq-eqb (length_in word) 0 (omega arith) in
        sym (cond-true _ None (Some (number_in word, length_in word)) test) ∙ (is s n).1 (begins_known table window known s n b).0,
  )

  pub unknown_answer : 0 < len → known < len → IsAnswer None table (front_of WINDOW_BITS window known)
  unknown_answer some lt s n = (
    λ same. cc,
    λ b.
        let whole = begins_known table window known s n b in
        let parts = same_pair number len s n (answer_of word) (given some) ((is s n).1 whole.0) in
        absurd (omega (arith, whole.1, parts.1)),
  )

-- ---- a link, by what the code has of it
module _ (table : TableName) (window link more number : ℕ) (is : link ≡ get_or (first_of table) (window / 2 ^ 16 % 2 ^ 8) 0) (longer : LINK ≤ link)
    (more_is : more ≡ length_in link) (number_is : number ≡ number_in link) where
  leads : LINK ≤ get_or (first_of table) (window / 2 ^ 16 % 2 ^ 8) 0
  leads = subst (λ x. LINK ≤ x) is longer

  same_more : length_in (get_or (first_of table) (window / 2 ^ 16 % 2 ^ 8) 0) ≡ more
  same_more = ap length_in (sym is) ∙ sym more_is

  same_number : number_in (get_or (first_of table) (window / 2 ^ 16 % 2 ^ 8) 0) ≡ number
  same_number = ap number_in (sym is) ∙ sym number_is

  pub more_few : more ≤ 16
  more_few = subst (λ x. x ≤ 16) same_more (link_few table window leads)

  pub more_within : number + window / 2 ^ (16 - more) % 2 ^ more < length (second_of table)
  more_within =
      subst (λ x. x + window / 2 ^ (16 - more) % 2 ^ more < length (second_of table)) same_number
      (subst (λ x. number_in (get_or (first_of table) (window / 2 ^ 16 % 2 ^ 8) 0) + window / 2 ^ (16 - x) % 2 ^ x < length (second_of table)) same_more (link_within table window leads))

  pub more_answers : Answers table (bits_of WINDOW_BITS window) (get_or (second_of table) (number + window / 2 ^ (16 - more) % 2 ^ more) 0)
  more_answers =
      let at : number_in (get_or (first_of table) (window / 2 ^ 16 % 2 ^ 8) 0)
      + window / 2 ^ (16 - length_in (get_or (first_of table) (window / 2 ^ 16 % 2 ^ 8) 0)) % 2 ^ length_in
      (get_or (first_of table) (window / 2 ^ 16 % 2 ^ 8) 0)
      ≡ number + window / 2 ^ (16 - more) % 2 ^ more = ap₂ (λ (x y : ℕ). x + window / 2 ^ (16 - y) % 2 ^ y) same_number same_more in
      subst (λ x. Answers table (bits_of 24 window) (get_or (second_of table) x 0)) at (second_answers table window leads)

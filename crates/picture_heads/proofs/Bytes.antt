-- Start codes of bytes in their bits.
use Rattle.std.proofs.Common.{
  ◌≡◌,
  ◌+◌,
  ◌-◌,
  ◌*◌,
  ◌/◌,
  ◌%◌,
  ◌^◌,
  ◌<◌,
  ◌≤◌,
  ℕ,
  zero,
  suc,
  nat_lt,
  nat_eq,
  List,
  [],
  ◌∷◌,
  ◌++◌,
  length,
  take,
  drop,
  get_or,
  true,
  refl,
  sym,
  ap,
  ◌∙◌,
  arith,
  append_assoc,
  append-nil,
  eq-eqb,
  Fits,
  w8,
}
use Rattle.std.proofs.lemmas.Bool.{and_parts, and_from, eqb-true, lt-ltb, ltb-true}
use Rattle.std.proofs.lemmas.List.{length-append, drop_more, drop-drop, length-take, length-drop}
use Rattle.bit_lists.specs.Bits.{bits_of}
use Rattle.bit_lists.specs.Fields.{AreBytes, bits_of_byte, bit_list}
use Rattle.bit_lists.proofs.BitLemmas.{length-bits_of}
use Rattle.bit_lists.proofs.ByteLemmas.{bit_list-take, length-bit_list}
use Rattle.bit_lists.proofs.JoinedLemmas.{bits_of-byte}
use Rattle.bit_lists.proofs.PrefixLemmas.{bit_list-same}
use Rattle.picture_grammar.specs.StartCode.{start_code_prefix, start_code_bits}
use Rattle.es_units.specs.StartCodes.{is_start_code_at}
use Rattle.picture_heads.specs.Private.Walk.{IsFirstCode}
use Rattle.picture_heads.proofs.Clear.{behind_front}

nothing : (xs : List ℕ) → length xs ≡ 0 → xs ≡ []
nothing [] e = refl
nothing (x ∷ xs) e = absurd (omega (arith, e))

-- two lists that are the same, in parts of the same length
pub same_parts : (a b x y : List ℕ) → length a ≡ length b → a ++ x ≡ b ++ y → (a ≡ b) × (x ≡ y)
same_parts a b x y lengths e =
    let (k, p, q) = behind_front a x b y e (omega (arith, lengths)) in
    let none : k ≡ [] = nothing k (omega (arith, lengths, ap length p, length-append a k)) in
    (sym (append-nil a) ∙ ap (λ (z : List ℕ). a ++ z) (sym none) ∙ sym p, q ∙ ap (λ (z : List ℕ). z ++ y) none)

step : (xs : List ℕ) (i j k : ℕ) → j ≡ i → k ≡ i + 1 → i < length xs → drop j xs ≡ get_or xs i 0 ∷ drop k xs
step xs i j k e f lt = rw (e, f) (drop_more xs i 0 lt)

four : List ℕ → ℕ → List ℕ
four xs at = get_or xs at 0 ∷ get_or xs (at + 1) 0 ∷ get_or xs (at + 2) 0 ∷ get_or xs (at + 3) 0 ∷ []

four_drop : (xs : List ℕ) (at : ℕ) → at + 3 < length xs → drop at xs ≡ get_or xs at 0 ∷ get_or xs (at + 1) 0 ∷ get_or xs (at + 2) 0 ∷ get_or xs (at + 3) 0 ∷ drop (at + 4) xs
four_drop xs at lt =
    step xs at at (at + 1) refl refl (omega (arith, lt))
    ∙ ap (λ (z : List ℕ). get_or xs at 0 ∷ z) (step xs (at + 1) (at + 1) (at + 2) refl (omega arith) (omega (arith, lt))
    ∙ ap (λ (z : List ℕ). get_or xs (at + 1) 0 ∷ z) (step xs (at + 2) (at + 2) (at + 3) refl (omega arith) (omega (arith, lt))
    ∙ ap (λ (z : List ℕ). get_or xs (at + 2) 0 ∷ z) (step xs (at + 3) (at + 3) (at + 4) refl (omega arith) lt)))

code_bytes : (byte : ℕ) → start_code_bits byte ≡ bit_list (0 ∷ 0 ∷ 1 ∷ byte ∷ [])
unfolding bits_of
code_bytes byte = ap (λ (x : List ℕ). start_code_prefix ++ x) (bits_of-byte byte)

-- a list of which each item, by its type, is a byte
pub bytes-are : (xs : List ℕ) → ((i : ℕ) → Fits w8 (get_or xs i 0)) → AreBytes xs
bytes-are [] fits = tt
bytes-are (x ∷ xs) fits = ((let first : Fits w8 x = fits 0 in omega (arith, first)), bytes-are xs (λ i. fits (suc i)))

pub byte-at : (xs : List ℕ) (i : ℕ) → AreBytes xs → get_or xs i 0 < 2 ^ 8
byte-at [] i are = omega arith
byte-at (x ∷ xs) zero are = are.0
byte-at (x ∷ xs) (suc i) are = byte-at xs i are.1

prefix-bytes : (rest : List ℕ) → bits_of_byte 0 ++ (bits_of_byte 0 ++ (bits_of_byte 1 ++ rest)) ≡ start_code_prefix ++ rest
unfolding bits_of
prefix-bytes rest = refl

-- a start code in the bytes is one in the bits
pub code-bits : (head : List ℕ) (at : ℕ) → is_start_code_at head at ≡ true
    → (at + 3 < length head) × (bit_list (drop at head) ≡ start_code_prefix ++ (bits_of_byte (get_or head (at + 3) 0) ++ bit_list (drop (at + 4) head)))
code-bits head at is =
    let tests = and_parts (nat_lt (at + 3) (length head)) _ is in
    let within = ltb-true (at + 3) (length head) tests.0 in
    let more = and_parts (nat_eq (get_or head at 0) 0) _ tests.1 in
    let last = and_parts (nat_eq (get_or head (at + 1) 0) 0) (nat_eq (get_or head (at + 2) 0) 1) more.1 in
    let same = four_drop head at within in
    let bytes : drop at head ≡ 0 ∷ 0 ∷ 1 ∷ get_or head (at + 3) 0 ∷ drop (at + 4) head =
    same ∙ rw (eqb-true _ 0 more.0, eqb-true _ 0 last.0, eqb-true _ 1 last.1) refl in
    (within, ap bit_list bytes ∙ prefix-bytes (bits_of_byte (get_or head (at + 3) 0) ++ bit_list (drop (at + 4) head)))

same-four : (a b c d w x y z : ℕ) → a ∷ b ∷ c ∷ d ∷ [] ≡ w ∷ x ∷ y ∷ z ∷ [] → (a ≡ w) × (b ≡ x) × (c ≡ y) × (d ≡ z)
same-four a b c d w x y z e = (cc, cc, cc, cc)

-- a start code in the bits at a whole byte is one in the bytes
pub bits-code : (head following : List ℕ) (at byte : ℕ) (behind : List ℕ) → AreBytes head → byte < 2 ^ 8 → at ≤ length head → length following ≤ length behind
    → bit_list (drop at head) ++ following ≡ start_code_bits byte ++ behind
    → (is_start_code_at head at ≡ true) × (get_or head (at + 3) 0 ≡ byte) × (at + 3 < length head) × (behind ≡ bit_list (drop (at + 4) head) ++ following)
bits-code head following at byte behind are fits within longer e =
    let left : length (bit_list (drop at head) ++ following) ≡ 8 * (length head - at) + length following =
    length-append (bit_list (drop at head)) following ∙ omega (arith, length-bit_list (drop at head), length-drop at head) in
    let right : length (start_code_bits byte ++ behind) ≡ 32 + length behind =
    length-append (start_code_bits byte) behind ∙ omega (arith, length-append start_code_prefix (bits_of 8 byte), length-bits_of 24 1, length-bits_of 8 byte) in
    let lt : at + 3 < length head = omega (arith, ap length e, left, right, longer, within) in
    let a : ℕ = get_or head at 0 in
    let b : ℕ = get_or head (at + 1) 0 in
    let c : ℕ = get_or head (at + 2) 0 in
    let d : ℕ = get_or head (at + 3) 0 in
    let parts : bit_list (a ∷ b ∷ c ∷ d ∷ []) ++ (bit_list (drop (at + 4) head) ++ following) ≡ bit_list (0 ∷ 0 ∷ 1 ∷ byte ∷ []) ++ behind =
    sym (ap (λ (x : List ℕ). bit_list x ++ following) (four_drop head at lt)) ∙ e ∙ ap (λ (x : List ℕ). x ++ behind) (code_bytes byte) in
    let (same, rest) = same_parts (bit_list (a ∷ b ∷ c ∷ d ∷ [])) (bit_list (0 ∷ 0 ∷ 1 ∷ byte ∷ [])) (bit_list (drop (at + 4) head) ++ following) behind refl parts in
    let bytes = bit_list-same (a ∷ b ∷ c ∷ d ∷ []) (0 ∷ 0 ∷ 1 ∷ byte ∷ [])
    (byte-at head at are, (byte-at head (at + 1) are, (byte-at head (at + 2) are, (byte-at head (at + 3) are, tt)))) (omega arith, (omega arith, (omega arith, (fits, tt)))) same in
    let (ea, eb, ec, ed) = same-four a b c d 0 0 1 byte bytes in (
      and_from _ _ (lt-ltb _ _ lt) (and_from _ _ (eq-eqb a 0 ea) (and_from _ _ (eq-eqb b 0 eb) (eq-eqb c 1 ec))),
      ed,
      lt,
      sym rest,
    )

-- where a start code is the first one in the bits from a byte on
pub record IsFound (head following : List ℕ) (at byte : ℕ) (behind : List ℕ) : Type 0 where
  pub code : ℕ
  pub begun : at ≤ code
  pub within : code + 3 < length head
  pub is_code : is_start_code_at head code ≡ true
  pub value : get_or head (code + 3) 0 ≡ byte
  pub rest : behind ≡ bit_list (drop (code + 4) head) ++ following
  pub first : (place : ℕ) → at ≤ place → is_start_code_at head place ≡ true → code ≤ place

pub found-at : (head following : List ℕ) (at byte : ℕ) (behind : List ℕ) → AreBytes head → at ≤ length head → length following % 8 ≡ 0 → length following ≤ length behind
    → IsFirstCode (bit_list (drop at head) ++ following) byte behind → IsFound head following at byte behind
found-at head following at byte behind are within whole longer f =
    let left : length (bit_list (drop at head) ++ following) ≡ 8 * (length head - at) + length following =
    length-append (bit_list (drop at head)) following ∙ omega (arith, length-bit_list (drop at head), length-drop at head) in
    let right : length (f.front ++ start_code_bits byte ++ behind) ≡ length f.front + 32 + length behind =
    length-append (f.front ++ start_code_bits byte) behind
    ∙ omega (arith, length-append f.front (start_code_bits byte), length-append start_code_prefix (bits_of 8 byte), length-bits_of 24 1, length-bits_of 8 byte) in
    let j : ℕ = length f.front / 8 in
    let eights : length f.front ≡ 8 * j = omega (arith, ap length f.split, left, right, whole, f.whole) in
    let fits : j ≤ length head - at = omega (arith, ap length f.split, left, right, longer, eights) in
    let cut : bit_list (drop at head) ≡ bit_list (take j (drop at head)) ++ bit_list (drop (at + j) head) =
    bit_list-take j (drop at head) ∙ ap (λ (x : List ℕ). bit_list (take j (drop at head)) ++ bit_list x) (drop-drop j at head) in
    let size : length (bit_list (take j (drop at head))) ≡ length f.front =
    length-bit_list (take j (drop at head)) ∙ omega (arith, length-take j (drop at head), length-drop at head, fits, eights) in
    let parts : bit_list (take j (drop at head)) ++ (bit_list (drop (at + j) head) ++ following) ≡ f.front ++ (start_code_bits byte ++ behind) =
    sym (append_assoc (bit_list (take j (drop at head))) (bit_list (drop (at + j) head)) following) ∙ sym (ap (λ (x : List ℕ). x ++ following) cut) ∙ f.split
    ∙ append_assoc f.front (start_code_bits byte) behind in
    let (same, rest) = same_parts (bit_list (take j (drop at head))) f.front (bit_list (drop (at + j) head) ++ following) (start_code_bits byte ++ behind) size parts in
    let (is, value, lt, e) = bits-code head following (at + j) byte behind are f.is_byte (omega (arith, fits, within)) longer rest in
    record {
      code = at + j;
      begun = omega arith;
      within = lt;
      is_code = is;
      value = value;
      rest = e;
      first = λ place begun code. (
          let (lt', bits) = code-bits head place code in
          let k : ℕ = place - at in
          let back : at + k ≡ place = omega (arith, begun) in
          let after : List ℕ = bits_of_byte (get_or head (place + 3) 0) ++ bit_list (drop (place + 4) head) in
          let cut' : bit_list (drop at head) ≡ bit_list (take k (drop at head)) ++ (start_code_prefix ++ after) =
          bit_list-take k (drop at head) ∙ ap (λ (x : List ℕ). bit_list (take k (drop at head)) ++ bit_list x) (drop-drop k at head ∙ ap (λ (n : ℕ). drop n head) back)
          ∙ ap (λ (x : List ℕ). bit_list (take k (drop at head)) ++ x) bits in
          let all : bit_list (drop at head) ++ following ≡ bit_list (take k (drop at head)) ++ start_code_prefix ++ (after ++ following) =
          ap (λ (x : List ℕ). x ++ following) (cut' ∙ sym (append_assoc (bit_list (take k (drop at head))) start_code_prefix after))
          ∙ append_assoc (bit_list (take k (drop at head)) ++ start_code_prefix) after following in
          let aligned : length (after ++ following) % 8 ≡ 0 =
          omega (arith, length-append after following, length-append (bits_of_byte (get_or head (place + 3) 0)) (bit_list (drop (place + 4) head)), length-bit_list (drop (place + 4) head), whole) in
          let le = f.first (bit_list (take k (drop at head))) (after ++ following) all aligned in
          omega (arith, le, length-bit_list (take k (drop at head)), length-take k (drop at head), eights, back)
          );
    }

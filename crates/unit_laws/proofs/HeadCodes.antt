-- A head without its vbv_delay has no start code that the head itself hasn't.
use Rattle.std.proofs.Common.{◌≡◌, ◌≢◌, ◌⊎◌, ◌==◌, ◌+◌, ◌-◌, ◌*◌, ◌/◌, ◌%◌, ◌<◌, ◌≤◌, ℕ, zero, suc, List, [], ◌∷◌, ◌++◌, get_or, set, length, replicate, take, drop, refl, sym, ap, ap₂, ◌∙◌, inl, inr, arith, append_assoc, append-nil}
use Rattle.std.proofs.Math.ListN.{get_or-append}
use Rattle.std.proofs.lemmas.Bool.{cases_lt, eqb-true}
use Rattle.std.proofs.lemmas.List.{append_cancel_right, get_or-append-add, get_or-replicate, get_or-set_other, length-append, length-replicate, length-set, length-take}
use Rattle.bit_lists.specs.Bits.{bits_of}
use Rattle.bit_lists.specs.Fields.{bit_list}
use Rattle.bit_lists.proofs.BitLemmas.{length-bits_of}
use Rattle.bit_lists.proofs.ByteLemmas.{bit_list-append, bit_list-take, length-bit_list}
use Rattle.stream_constants.specs.declared.start_codes.TheConstants.{PICTURE}
use Rattle.picture_grammar.specs.Refusal.Refusal.{BadHeader}
use Rattle.picture_grammar.specs.StartCode.{start_code_prefix, start_code_bits}
use Rattle.picture_grammar.proofs.HeaderLaws.{exact-sequence_part, exact-group_part}
use Rattle.picture_laws.proofs.StartCodes.{code-taken}
use Rattle.picture_laws.proofs.Tested.{prefix-zeros}
use Rattle.picture_heads.specs.declared.TheConstants.{NO_DELAY}
use Rattle.picture_heads.specs.Heads.{HasDelay, IsHeadWithoutDelay}
use Rattle.picture_heads.specs.Private.Walk.{LeadsIn, with_ones}
use Rattle.picture_heads.proofs.Bytes.{bits-code, same_parts}
use Rattle.picture_heads.proofs.DelayPlaces.{delay-walk, one-without, set-without}
use Rattle.unit_laws.proofs.Codes.{Code, is-code, code-split}

-- ---- the place of vbv_delay

walk-whole : (n : ℕ) (bits rest : List ℕ) → LeadsIn n bits rest → length rest % 8 ≡ 0
walk-whole zero bits rest found = found.whole
walk-whole (suc n) bits rest (byte, behind, later, found, goes, leads) = walk-whole n later rest leads

-- what stands before vbv_delay ends with the picture's start code and 13 bits
record EndsWithCode (front : List ℕ) : Type 0 where
  before : List ℕ
  thirteen : List ℕ
  split : front ≡ before ++ (start_code_bits PICTURE ++ thirteen)
  size : length thirteen ≡ 13

five : (a b c d e : List ℕ) → a ++ (b ++ (c ++ (d ++ e))) ≡ (a ++ (b ++ (c ++ d))) ++ e
five a b c d e = simp append_assoc

ends-with-code : (head front delay back : List ℕ) → HasDelay head front delay back → EndsWithCode front
ends-with-code head front delay back h =
    let (seq, m1, s1, (group, m2, s2, (byte, m3, s3, (temporal, m4, (c10, (fits, is), p10, split10), (c3, (fits3, is3), p3, split3))))) = h.place in
    let (f1, e1) = (exact-sequence_part h.before).spelled_front seq (bit_list head ++ h.following) m1 s1 in
    let (f2, e2) = exact-group_part.spelled_front group m1 m2 s2 in
    let (n, e3, is_byte, may) = code-taken BadHeader (λ byte. byte == PICTURE) byte m2 m3 s3 in
    let picture : byte ≡ PICTURE = eqb-true byte PICTURE may in
    let last : List ℕ = delay ++ back ++ h.following in
    let zeros : List ℕ = replicate (8 * n) 0 in
    let whole : bit_list head ++ h.following ≡ (f1 ++ f2 ++ zeros) ++ (start_code_bits PICTURE ++ (c10 ++ (c3 ++ last))) =
    e1 ∙ ap (λ (x : List ℕ). f1 ++ x) (e2 ∙ ap (λ (x : List ℕ). f2 ++ x)
    (e3 ∙ ap₂ (λ (b : ℕ) (x : List ℕ). zeros ++ (start_code_bits b ++ x)) picture (split10 ∙ ap (λ (x : List ℕ). c10 ++ x) split3)))
    ∙ joined f1 f2 zeros (start_code_bits PICTURE) (c10 ++ (c3 ++ last)) in
    let parts : bit_list head ++ h.following ≡ front ++ last = ap (λ (x : List ℕ). x ++ h.following) h.parts ∙ four front delay back h.following in
    let same : front ++ last ≡ ((f1 ++ f2 ++ zeros) ++ (start_code_bits PICTURE ++ (c10 ++ c3))) ++ last =
    sym parts ∙ whole ∙ five (f1 ++ f2 ++ zeros) (start_code_bits PICTURE) c10 c3 last in
    record {
      before = f1 ++ f2 ++ zeros;
      thirteen = c10 ++ c3;
      split = append_cancel_right front _ last same;
      size = length-append c10 c3 ∙ omega (arith, ap length is, length-bits_of 10 temporal, ap length is3, length-bits_of 3 kind_of);
    }
  where
    kind_of : ℕ
    kind_of = h.kind

    joined : (a b c d e : List ℕ) → a ++ (b ++ (c ++ (d ++ e))) ≡ (a ++ b ++ c) ++ (d ++ e)
    joined a b c d e = simp append_assoc

    four : (a b c d : List ℕ) → (a ++ b ++ c) ++ d ≡ a ++ (b ++ c ++ d)
    four a b c d = simp append_assoc

-- ---- both heads

-- The two heads have the same bytes but for three, the fifth and the next two behind the picture's start code, and in the
-- other one bits in these are ones.
pub record IsSetHead (from to : List ℕ) : Type 0 where
  pub at : ℕ
  pub code : Code from at PICTURE
  pub room : at + 7 < length from
  pub same_length : length to ≡ length from
  pub same : (i : ℕ) → i ≢ at + 5 → i ≢ at + 6 → i ≢ at + 7 → get_or to i 0 ≡ get_or from i 0
  pub front : List ℕ
  pub back : List ℕ
  pub front_size : length front ≡ 8 * at + 45
  pub ones : bit_list to ≡ front ++ (replicate 16 1 ++ back)

sixteen : bits_of 16 NO_DELAY ≡ replicate 16 1
unfolding bits_of
sixteen = refl

set-others : (xs : List ℕ) (a b c x y z i : ℕ) → i ≢ a → i ≢ b → i ≢ c → get_or (set (set (set xs a x) b y) c z) i 0 ≡ get_or xs i 0
set-others xs a b c x y z i na nb nc = get_or-set_other (set (set xs a x) b y) c i z 0 nc ∙ get_or-set_other (set xs a x) b i y 0 nb ∙ get_or-set_other xs a i x 0 na

set-length : (xs : List ℕ) (a b c x y z : ℕ) → length (set (set (set xs a x) b y) c z) ≡ length xs
set-length xs a b c x y z = length-set (set (set xs a x) b y) c z ∙ length-set (set xs a x) b y ∙ length-set xs a x

pub set-head : (from to : List ℕ) → IsHeadWithoutDelay from to → IsSetHead from to
set-head from to w =
    let h : HasDelay from w.front w.delay w.back = w.source in
    let ends = ends-with-code from w.front w.delay w.back h in
    let walk = delay-walk from w.front w.delay w.back h in
    let aligned : length walk.rest % 8 ≡ 0 = walk-whole walk.codes (bit_list from ++ h.following) walk.rest walk.leads in
    let parts : 8 * length from ≡ length w.front + (16 + length w.back) =
    sym (length-bit_list from) ∙ ap length h.parts ∙ length-append (w.front ++ w.delay) w.back ∙ omega (arith, length-append w.front w.delay, h.delay_bits) in
    let code_size : length (start_code_bits PICTURE) ≡ 32 = length-append start_code_prefix (bits_of 8 PICTURE) ∙ omega (arith, length-bits_of 24 1, length-bits_of 8 PICTURE) in
    let front_size : length w.front ≡ length ends.before + 45 =
    ap length ends.split ∙ length-append ends.before (start_code_bits PICTURE ++ ends.thirteen)
    ∙ omega (arith, length-append (start_code_bits PICTURE) ends.thirteen, code_size, ends.size) in
    let p : ℕ = length ends.before / 8 in
    let eights : length ends.before ≡ 8 * p = omega (arith, walk.size, aligned, h.whole, front_size) in
    let room : p + 7 < length from = omega (arith, parts, front_size, eights, walk.size, walk.enough, aligned, h.whole) in
    let is : IsHeadWithoutDelay from (with_ones from (p + 4)) = set-without from w.front w.delay w.back h (p + 4) (omega (arith, room)) (omega (arith, walk.size, front_size, eights, room)) in
    let same : to ≡ with_ones from (p + 4) = one-without from to (with_ones from (p + 4)) w is in
    let before_bits : bit_list (take p from) ++ bit_list (drop p from) ≡ ends.before ++ (start_code_bits PICTURE ++ (ends.thirteen ++ (w.delay ++ w.back))) =
    sym (bit_list-take p from) ∙ h.parts ∙ append_assoc w.front w.delay w.back ∙ ap (λ (x : List ℕ). x ++ (w.delay ++ w.back)) ends.split
    ∙ sym (joined ends.before (start_code_bits PICTURE) ends.thirteen (w.delay ++ w.back)) in
    let size : length (bit_list (take p from)) ≡ length ends.before = length-bit_list (take p from) ∙ omega (arith, length-take p from, room, eights) in
    let (front_same, rest) = same_parts (bit_list (take p from)) ends.before (bit_list (drop p from)) (start_code_bits PICTURE ++ (ends.thirteen ++ (w.delay ++ w.back))) size before_bits in
    let (is_code, value, lt, behind) = bits-code from [] p PICTURE (ends.thirteen ++ (w.delay ++ w.back)) h.bytes (omega arith) (omega (arith, room)) (omega arith)
    (append-nil (bit_list (drop p from)) ∙ rest) in
    let code = is-code from p is_code in
    record {
      at = p;
      code = record { within = code.within; first = code.first; second = code.second; third = code.third; last = value };
      room = room;
      same_length = ap length same ∙ set-length from (p + 4 + 1) (p + 4 + 2) (p + 4 + 3) _ 255 _;
      same = λ i n5 n6 n7. ap (λ (xs : List ℕ). get_or xs i 0) same
          ∙ set-others from (p + 4 + 1) (p + 4 + 2) (p + 4 + 3) _ 255 _ i (λ e. n5 (omega (arith, e))) (λ e. n6 (omega (arith, e))) (λ e. n7 (omega (arith, e)));
      front = w.front;
      back = w.back;
      front_size = omega (arith, front_size, eights);
      ones = w.without ∙ append_assoc w.front (bits_of 16 NO_DELAY) w.back ∙ ap (λ (x : List ℕ). w.front ++ (x ++ w.back)) sixteen;
    }
  where
    joined : (a b c d : List ℕ) → a ++ (b ++ (c ++ d)) ≡ (a ++ (b ++ c)) ++ d
    joined a b c d = simp append_assoc

-- ---- the codes of a head with something behind it

-- no prefix stands where bits are ones
ones-clash : (x after front rest : List ℕ) → x ++ (start_code_prefix ++ after) ≡ front ++ (replicate 16 1 ++ rest) → length x < length front + 16 → length front < length x + 23 → ⊥
ones-clash x after front rest e low high = elim (cases_lt (length x) (length front)) [
  | inl before ↦
      let k : ℕ = length front - length x in
      let place : length front + 0 ≡ length x + k = omega (arith, before) in
      let zero_there : get_or (x ++ (start_code_prefix ++ after)) (length x + k) 0 ≡ 0 = get_or-append-add x (start_code_prefix ++ after) k 0 ∙ zeros k (omega (arith, high, before)) in
      let one_there : get_or (front ++ (replicate 16 1 ++ rest)) (length front + 0) 0 ≡ 1 = get_or-append-add front (replicate 16 1 ++ rest) 0 0 in
      let both : 0 ≡ 1 = sym zero_there ∙ ap₂ (λ (xs : List ℕ) (i : ℕ). get_or xs i 0) e (sym place) ∙ one_there in
      omega (arith, both)
  | inr behind ↦
      let k : ℕ = length x - length front in
      let place : length x + 0 ≡ length front + k = omega (arith, behind) in
      let zero_there : get_or (x ++ (start_code_prefix ++ after)) (length x + 0) 0 ≡ 0 = get_or-append-add x (start_code_prefix ++ after) 0 0 ∙ zeros 0 (omega arith) in
      let one_there : get_or (front ++ (replicate 16 1 ++ rest)) (length front + k) 0 ≡ 1 =
      get_or-append-add front (replicate 16 1 ++ rest) k 0 ∙ get_or-append (replicate 16 1) rest 0 k (omega (arith, low, behind, length-replicate {A = ℕ} 16 1))
      ∙ get_or-replicate 16 k 1 0 (omega (arith, low, behind)) in
      let both : 0 ≡ 1 = sym zero_there ∙ ap₂ (λ (xs : List ℕ) (i : ℕ). get_or xs i 0) e place ∙ one_there in
      omega (arith, both)
] where
  zeros : (k : ℕ) → k < 23 → get_or (start_code_prefix ++ after) k 0 ≡ 0
  zeros k lt =
      ap (λ (xs : List ℕ). get_or xs k 0) (ap (λ (xs : List ℕ). xs ++ after) prefix-zeros ∙ append_assoc (replicate 23 0) (1 ∷ []) after)
      ∙ get_or-append (replicate 23 0) ((1 ∷ []) ++ after) 0 k (omega (arith, lt, length-replicate {A = ℕ} 23 0)) ∙ get_or-replicate 23 k 0 0 lt

-- the same byte in both, but for three
same-byte : (from to behind : List ℕ) (is : IsSetHead from to) (i : ℕ) → i ≢ is.at + 5 → i ≢ is.at + 6 → i ≢ is.at + 7 → get_or (to ++ behind) i 0 ≡ get_or (from ++ behind) i 0
same-byte from to behind is i n5 n6 n7 = elim (cases_lt i (length from)) [
  | inl lt ↦ get_or-append to behind 0 i (omega (arith, lt, is.same_length)) ∙ is.same i n5 n6 n7 ∙ sym (get_or-append from behind 0 i lt)
  | inr le ↦
      let k : ℕ = i - length from in
      let place : i ≡ length from + k = omega (arith, le) in
      let place' : i ≡ length to + k = omega (arith, le, is.same_length) in
      ap (λ (n : ℕ). get_or (to ++ behind) n 0) place' ∙ get_or-append-add to behind k 0 ∙ sym (ap (λ (n : ℕ). get_or (from ++ behind) n 0) place ∙ get_or-append-add from behind k 0)
]

-- a code of the head without delay, or behind it, stands in the head itself, or behind it
pub kept-code : (from to behind : List ℕ) → IsSetHead from to → (p value : ℕ) → Code (to ++ behind) p value → Code (from ++ behind) p value
kept-code from to behind is p value code = by_place (cases_lt p (is.at + 3)) (cases_lt p (is.at + 8))
  where
    split : bit_list (to ++ behind) ≡ is.front ++ (replicate 16 1 ++ (is.back ++ bit_list behind))
    split =
        bit_list-append to behind ∙ ap (λ (x : List ℕ). x ++ bit_list behind) is.ones ∙ append_assoc is.front (replicate 16 1 ++ is.back) (bit_list behind)
        ∙ ap (λ (x : List ℕ). is.front ++ x) (append_assoc (replicate 16 1) is.back (bit_list behind))

    size : length (to ++ behind) ≡ length (from ++ behind)
    size = length-append to behind ∙ ap (λ (n : ℕ). n + length behind) is.same_length ∙ sym (length-append from behind)

    alike : ((i : ℕ) → p ≤ i → i < p + 4 → get_or (to ++ behind) i 0 ≡ get_or (from ++ behind) i 0) → Code (from ++ behind) p value
    alike same = record {
      within = omega (arith, size, code.within);
      first = sym (same p (omega arith) (omega arith)) ∙ code.first;
      second = sym (same (p + 1) (omega arith) (omega arith)) ∙ code.second;
      third = sym (same (p + 2) (omega arith) (omega arith)) ∙ code.third;
      last = sym (same (p + 3) (omega arith) (omega arith)) ∙ code.last;
    }

    -- the last byte of the picture's prefix is no 0
    third_there : get_or (to ++ behind) (is.at + 2) 0 ≡ 1
    third_there =
        same-byte from to behind is (is.at + 2) (λ e. omega (arith, e)) (λ e. omega (arith, e)) (λ e. omega (arith, e))
        ∙ get_or-append from behind 0 (is.at + 2) (let within = is.code.within in omega (arith, within)) ∙ is.code.third

    before : p < is.at + 3 → Code (from ++ behind) p value
    before lt = elim (cases_lt p (is.at + 2)) [
      | inl early ↦ alike (λ i low high. same-byte from to behind is i (λ e. omega (arith, early, high, e)) (λ e. omega (arith, early, high, e)) (λ e. omega (arith, early, high, e)))
      | inr late ↦
          let place : p ≡ is.at + 2 = omega (arith, lt, late) in
          let both : 0 ≡ 1 = sym code.first ∙ ap (λ (i : ℕ). get_or (to ++ behind) i 0) place ∙ third_there in
          absurd (omega (arith, both))
    ]

    by_place : (p < is.at + 3) ⊎ (is.at + 3 ≤ p) → (p < is.at + 8) ⊎ (is.at + 8 ≤ p) → Code (from ++ behind) p value
    by_place (inl lt) later = before lt
    by_place (inr le) (inr far) = alike (λ i low high. same-byte from to behind is i (λ e. omega (arith, far, low, e)) (λ e. omega (arith, far, low, e)) (λ e. omega (arith, far, low, e)))
    by_place (inr le) (inl near) =
        let bits = code-split (to ++ behind) p value code in
        absurd (ones-clash bits.front bits.after is.front (is.back ++ bit_list behind) (sym bits.split ∙ split)
        (omega (arith, bits.size, is.front_size, near)) (omega (arith, bits.size, is.front_size, le)))

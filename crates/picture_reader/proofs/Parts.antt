-- What is seen behind zero bytes, in the grammar's words.
use Rattle.std.proofs.Common.{
  ◌≡◌,
  ◌≢◌,
  ◌==◌,
  ◌||◌,
  ◌⊎◌,
  ℕ,
  zero,
  suc,
  ◌+◌,
  ◌*◌,
  ◌^◌,
  ◌<◌,
  ◌≤◌,
  List,
  [],
  ◌∷◌,
  ◌++◌,
  length,
  drop,
  replicate,
  get_or,
  Option,
  Some,
  None,
  Bool,
  true,
  false,
  refl,
  sym,
  ap,
  ap₂,
  subst,
  ◌∙◌,
  inl,
  inr,
  arith,
  append_assoc,
  append-nil,
}
use Rattle.std.proofs.Math.Seq.{drop-cons}
use Rattle.std.proofs.lemmas.Bool.{ne_eqb}
use Rattle.std.proofs.lemmas.List.{length-replicate, length-drop, replicate-append-replicate}
use Rattle.bit_lists.specs.Fields.{AreBytes, bit_list}
use Rattle.bit_lists.proofs.ByteLemmas.{bit_list-append, length-bit_list, AreBytes-append, AreBytes-drop}
use Rattle.bit_lists.proofs.PrefixLemmas.{bit_list-same}
use Rattle.syntax_types.specs.declared.picture.PicCoding.{PicCoding}
use Rattle.syntax_types.specs.declared.picture.SeqState.{SeqState}
use Rattle.syntax_types.specs.declared.slice.Slice.{Slice}
use Rattle.stream_constants.specs.declared.start_codes.TheConstants.{SEQUENCE_END}
use Rattle.picture_grammar.specs.Refusal.{Refusal}
use Rattle.picture_grammar.specs.Refusal.Refusal.{BadHeader, End}
use Rattle.picture_grammar.specs.Grammar.{optional}
use Rattle.picture_grammar.specs.Grammar.Next.{last}
use Rattle.picture_grammar.specs.StartCode.{start_code_bits, start_code, only_zero_bytes}
use Rattle.stream_constants.specs.SliceCodes.{is_slice}
use Rattle.picture_grammar.specs.Picture.{whole_slice, next_slice}
use Rattle.picture_laws.proofs.StartCodes.{code-made}
use Rattle.picture_laws.proofs.WrittenPicture.{code_other}
use Rattle.grammar_reading.specs.BitsRead.{PlacedRefusal}
use Rattle.picture_reader.specs.Told.{RefusesTold}
use Rattle.picture_reader.specs.Private.Parts.{ZerosTo, StandsAt, ByteStands}
use Rattle.picture_reader.specs.UnitCursor.{bits_from, IsBehind, SliceComes}
use Rattle.picture_reader.proofs.Refusals.{
  zero_byte-bits,
  NoCode,
  no-code-before,
  no-code-before-prefix,
  no-code-zeros,
  zeros_are-bytes,
  code-behind-zeros,
  code-breaks-byte,
  code-ends,
  code_bits-bytes,
  code-breaks,
  code-cut,
  end-breaks-byte,
  end-breaks-prefix,
  end-spelled,
}

-- ---- bytes

pub are-bytes : (xs : List ℕ) → ((i : ℕ) → get_or xs i 0 < 2 ^ 8) → AreBytes xs
are-bytes [] fits = tt
are-bytes (x ∷ xs) fits = (fits 0, are-bytes xs (λ i. fits (suc i)))

pub push_zero : (n : ℕ) (rest : List ℕ) → replicate n 0 ++ 0 ∷ rest ≡ replicate (suc n) 0 ++ rest
push_zero zero rest = refl
push_zero (suc n) rest = ap (λ (l : List ℕ). 0 ∷ l) (push_zero n rest)

zeros-bits : (n : ℕ) → bit_list (replicate n 0) ≡ replicate (8 * n) 0
zeros-bits zero = refl
zeros-bits (suc n) =
    ap₂ (λ (a b : List ℕ). a ++ b) zero_byte-bits (zeros-bits n) ∙ replicate-append-replicate 8 (8 * n) 0 ∙ ap (λ (k : ℕ). replicate k 0) (let e : 8 + 8 * n ≡ 8 * suc n = omega arith in e)

-- ---- zero bytes

pub zeros-none : (unit : List ℕ) (at : ℕ) → at ≤ length unit → ZerosTo unit at at
zeros-none unit at le = record { count = 0; place = omega arith; within = le; split = refl }

pub zeros-more : (unit : List ℕ) (at end : ℕ) → ZerosTo unit at end → end < length unit → get_or unit end 0 ≡ 0 → ZerosTo unit at (end + 1)
zeros-more unit at end z lt is = record {
  count = suc z.count;
  place = omega (arith, z.place);
  within = omega arith;
  split = z.split ∙ ap (λ (l : List ℕ). replicate z.count 0 ++ l)
      (drop-cons unit end 0 lt ∙ ap₂ (λ (b : ℕ) (k : ℕ). b ∷ drop k unit) is (let e : suc end ≡ end + 1 = omega arith in e))
      ∙ push_zero z.count (drop (end + 1) unit);
}

dropped : (xs : List ℕ) (n : ℕ) → n ≡ length xs → drop n xs ≡ []
dropped [] zero e = refl
dropped [] (suc n) e = refl
dropped (x ∷ xs) zero e = absurd (omega (arith, e))
dropped (x ∷ xs) (suc n) e = dropped xs n (omega (arith, e))

-- ---- what is seen

module _ (unit : List ℕ) (are : AreBytes unit) (at end : ℕ) (z : ZerosTo unit at end) where
  pub seen-end : end ≡ length unit → (count : ℕ) × (drop at unit ≡ replicate count 0)
  seen-end e = (z.count, z.split ∙ ap (λ (l : List ℕ). replicate z.count 0 ++ l) (dropped unit end e) ∙ append-nil (replicate z.count 0))

  pub seen-byte : end < length unit → get_or unit end 0 ≢ 0 → (get_or unit end 0 ≢ 1) ⊎ (end < at + 2) → ByteStands unit at end
  seen-byte lt some other = record {
    byte = get_or unit end 0;
    rest = drop (suc end) unit;
    stands = record {
      count = z.count;
      place_is = z.place;
      split = z.split ∙ ap (λ (l : List ℕ). replicate z.count 0 ++ l) (drop-cons unit end 0 lt);
      are = subst AreBytes (drop-cons unit end 0 lt) (AreBytes-drop end unit are);
      ends = omega (arith, lt, length-drop (suc end) unit);
    };
    some = some;
    other = other;
  }

  -- two of the zeros and a one
  pub seen-prefix : end < length unit → get_or unit end 0 ≡ 1 → at + 2 ≤ end → (place : ℕ) → place + 2 ≡ end → StandsAt unit at place (0 ∷ 0 ∷ 1 ∷ drop (end + 1) unit)
  seen-prefix lt one le place is = by_count z.count z.place z.split where
    by_count : (n : ℕ) → at + n ≡ end → drop at unit ≡ replicate n 0 ++ drop end unit → StandsAt unit at place (0 ∷ 0 ∷ 1 ∷ drop (end + 1) unit)
    by_count zero e split = absurd (omega (arith, e, le))
    by_count (suc zero) e split = absurd (omega (arith, e, le))
    by_count (suc (suc n)) e split =
        let at_end : drop end unit ≡ 1 ∷ drop (end + 1) unit = drop-cons unit end 0 lt ∙ ap₂ (λ (b : ℕ) (k : ℕ). b ∷ drop k unit) one (let e : suc end ≡ end + 1 = omega arith in e) in
        record {
          count = n;
          place_is = omega (arith, e, is);
          split = split ∙ ap (λ (l : List ℕ). replicate (suc (suc n)) 0 ++ l) at_end ∙ sym (push_zero (suc n) (1 ∷ drop (end + 1) unit)) ∙ sym (push_zero n (0 ∷ 1 ∷ drop (end + 1) unit));
          are = (omega arith, (omega arith, (omega arith, AreBytes-drop (end + 1) unit are)));
          ends = omega (arith, is, lt, length-drop (end + 1) unit);
        }

  pub seen-cut : end + 1 ≡ length unit → get_or unit end 0 ≡ 1 → at + 2 ≤ end → (place : ℕ) → place + 2 ≡ end → StandsAt unit at place (0 ∷ 0 ∷ 1 ∷ [])
  seen-cut e one le place is = subst (λ (l : List ℕ). StandsAt unit at place (0 ∷ 0 ∷ 1 ∷ l)) (dropped unit (end + 1) e) (seen-prefix (omega (arith, e)) one le place is)

  pub seen-code : end + 1 < length unit → get_or unit end 0 ≡ 1 → at + 2 ≤ end → (place code : ℕ) → place + 2 ≡ end → code ≡ get_or unit (end + 1) 0
      → StandsAt unit at place (0 ∷ 0 ∷ 1 ∷ code ∷ drop (place + 4) unit)
  seen-code lt one le place code is is_code =
      subst (λ (l : List ℕ). StandsAt unit at place (0 ∷ 0 ∷ 1 ∷ l))
      (drop-cons unit (end + 1) 0 lt ∙ ap₂ (λ (b : ℕ) (k : ℕ). b ∷ drop k unit) (sym is_code) (let e : suc (end + 1) ≡ place + 4 = omega (arith, is) in e))
      (seen-prefix (omega (arith, lt)) one le place is)

-- ---- start codes

-- the start codes that may come, before the first slice and behind it
abbrev pub may : Bool → ℕ → Bool
may true = is_slice
may false = λ byte. is_slice byte || byte == SEQUENCE_END

pub may-first : (is_first : Bool) → may is_first 1 ≡ true
may-first true = refl
may-first false = refl

pub may-other : (code : ℕ) → is_slice code ≡ false → code ≢ SEQUENCE_END → may false code ≡ false
may-other code not_slice other = ap₂ (λ (a b : Bool). a || b) not_slice (ne_eqb code SEQUENCE_END other)

module _ (unit : List ℕ) (at place : ℕ) where
  no-codes-byte : (b : ByteStands unit at place) (k : ℕ) → k < b.stands.count → NoCode (replicate (suc k) 0 ++ b.byte ∷ b.rest)
  no-codes-byte b k lt = no-code-before k b.byte b.rest (AreBytes-append (replicate (suc k) 0) (b.byte ∷ b.rest) (zeros_are-bytes (suc k)) b.stands.are) b.some (other b.other) where
    other : (b.byte ≢ 1) ⊎ (place < at + 2) → k ≡ 1 → b.byte ≢ 1
    other (inl not_one) e = not_one
    other (inr few) e = absurd (omega (arith, few, lt, e, b.stands.place_is))

  no-codes-prefix : (rest : List ℕ) (s : StandsAt unit at place (0 ∷ 0 ∷ 1 ∷ rest)) (k : ℕ) → k < s.count → NoCode (replicate (suc k) 0 ++ 0 ∷ 0 ∷ 1 ∷ rest)
  no-codes-prefix rest s k lt = no-code-before-prefix k rest (AreBytes-append (replicate (suc k) 0) (0 ∷ 0 ∷ 1 ∷ rest) (zeros_are-bytes (suc k)) s.are)

  left-is : (bytes : List ℕ) → StandsAt unit at place bytes → 8 * place + length (bit_list bytes) ≡ 8 * length unit
  left-is bytes s = omega (arith, s.ends, length-bit_list bytes)

  module _ (may_come : ℕ → Bool) where
    pub start-byte : ByteStands unit at place → (left : List ℕ) × (start_code BadHeader may_come).Refuses (bits_from unit at) BadHeader left × (8 * place + length left ≡ 8 * length unit)
    start-byte b =
        let bytes = b.byte ∷ b.rest in
        let r = code-behind-zeros BadHeader may_come b.stands.count bytes (bit_list bytes) BadHeader (no-codes-byte b) (code-breaks-byte BadHeader may_come b.byte b.rest b.stands.are b.some) in
        (bit_list bytes, subst (λ (l : List ℕ). (start_code BadHeader may_come).Refuses (bit_list l) BadHeader (bit_list bytes)) (sym b.stands.split) r, left-is bytes b.stands)

    pub start-cut : (byte : ℕ) → byte < 2 ^ 8 → may_come byte ≡ true → StandsAt unit at place (0 ∷ 0 ∷ 1 ∷ [])
        → (left : List ℕ) × (start_code BadHeader may_come).Refuses (bits_from unit at) End left × (8 * place + length left ≡ 8 * length unit)
    start-cut byte fits comes s =
        let bytes = 0 ∷ 0 ∷ 1 ∷ [] in
        let r = code-behind-zeros BadHeader may_come s.count bytes (bit_list bytes) End (no-codes-prefix [] s) (code-cut BadHeader may_come byte fits comes) in
        (bit_list bytes, subst (λ (l : List ℕ). (start_code BadHeader may_come).Refuses (bit_list l) End (bit_list bytes)) (sym s.split) r, left-is bytes s)

    pub start-other : (code : ℕ) (rest : List ℕ) → may_come code ≡ false → StandsAt unit at place (0 ∷ 0 ∷ 1 ∷ code ∷ rest)
        → (left : List ℕ) × (start_code BadHeader may_come).Refuses (bits_from unit at) BadHeader left × (8 * place + length left ≡ 8 * length unit)
    start-other code rest other s =
        let bytes = 0 ∷ 0 ∷ 1 ∷ code ∷ rest in
        let r = code-behind-zeros BadHeader may_come s.count bytes (bit_list bytes) BadHeader (no-codes-prefix (code ∷ rest) s) (code-breaks BadHeader may_come code rest s.are.1.1.1.0 other) in
        (bit_list bytes, subst (λ (l : List ℕ). (start_code BadHeader may_come).Refuses (bit_list l) BadHeader (bit_list bytes)) (sym s.split) r, left-is bytes s)

  pub end-byte : ByteStands unit at place → (left : List ℕ) × only_zero_bytes.Refuses (bits_from unit at) BadHeader left × (8 * place + length left ≡ 8 * length unit)
  end-byte b =
      let bytes = b.byte ∷ b.rest in (
        bit_list bytes,
        subst (λ (l : List ℕ). only_zero_bytes.Refuses (bit_list l) BadHeader (bit_list bytes)) (sym b.stands.split)
            (end-breaks-byte b.stands.count b.byte b.rest (no-codes-byte b) b.stands.are b.some),
        left-is bytes b.stands,
      )

  pub end-prefix : (rest : List ℕ) → StandsAt unit at place (0 ∷ 0 ∷ 1 ∷ rest) → (left : List ℕ)
      × only_zero_bytes.Refuses (bits_from unit at) BadHeader left × (8 * place + length left ≡ 8 * length unit)
  end-prefix rest s =
      let bytes = 0 ∷ 0 ∷ 1 ∷ rest in (
        bit_list bytes,
        subst (λ (l : List ℕ). only_zero_bytes.Refuses (bit_list l) BadHeader (bit_list bytes)) (sym s.split)
            (end-breaks-prefix s.count rest (no-codes-prefix rest s) s.are.1.1.1),
        left-is bytes s,
      )

-- nothing but zero bytes
pub start-none : (may_come : ℕ → Bool) (unit : List ℕ) (at count : ℕ) → drop at unit ≡ replicate count 0
    → (left : List ℕ) × (start_code BadHeader may_come).Refuses (bits_from unit at) End left × (8 * length unit + length left ≡ 8 * length unit)
start-none may_come unit at count split =
    let zeros : replicate count 0 ++ [] ≡ replicate count 0 = append-nil (replicate count 0) in
    let r = code-behind-zeros BadHeader may_come count [] (bit_list []) End
    (λ k lt. subst NoCode (sym (append-nil (replicate (suc k) 0))) (no-code-zeros (suc k))) (code-ends BadHeader may_come) in
    (bit_list [], subst (λ (l : List ℕ). (start_code BadHeader may_come).Refuses (bit_list l) End (bit_list [])) (zeros ∙ sym split) r, omega arith)

pub end-none : (unit : List ℕ) (at count : ℕ) → drop at unit ≡ replicate count 0 → (zeros : List ℕ × Unit {0}) × only_zero_bytes.Spells zeros (bits_from unit at) []
end-none unit at count split = ((replicate count 0, tt), subst (λ (l : List ℕ). only_zero_bytes.Spells (replicate count 0, tt) (bit_list l) []) (sym split) (end-spelled count))

-- ---- bits that aren't all zero

abbrev pub AllZero : List ℕ → Type 0
AllZero bits = bits ≡ replicate (length bits) 0

in-zeros : (xs : List ℕ) (b : ℕ) (rest : List ℕ) (m : ℕ) → xs ++ b ∷ rest ≡ replicate m 0 → b ≡ 0
in-zeros [] b rest zero e = absurd (let l = ap length e in omega (arith, l))
in-zeros [] b rest (suc m) e = let e' : b ∷ rest ≡ 0 ∷ replicate m 0 = e in cc
in-zeros (x ∷ xs) b rest zero e = absurd (let l = ap length e in omega (arith, l))
in-zeros (x ∷ xs) b rest (suc m) e = in-zeros xs b rest m (let e' : x ∷ (xs ++ b ∷ rest) ≡ 0 ∷ replicate m 0 = e in cc)

pub not-zero : (xs : List ℕ) (b : ℕ) (rest : List ℕ) → AreBytes (xs ++ b ∷ rest) → b ≢ 0 → AllZero (bit_list (xs ++ b ∷ rest)) → ⊥
not-zero xs b rest are some all =
    let bytes = xs ++ b ∷ rest in
    let zeros : bit_list bytes ≡ bit_list (replicate (length bytes) 0) = all ∙ ap (λ (k : ℕ). replicate k 0) (length-bit_list bytes) ∙ sym (zeros-bits (length bytes)) in
    some (in-zeros xs b rest (length bytes) (bit_list-same bytes (replicate (length bytes) 0) are (zeros_are-bytes (length bytes)) zeros))

pub byte-not-zero : (unit : List ℕ) (at place : ℕ) → ByteStands unit at place → AllZero (bits_from unit at) → ⊥
byte-not-zero unit at place b all =
    not-zero (replicate b.stands.count 0) b.byte b.rest (AreBytes-append (replicate b.stands.count 0) (b.byte ∷ b.rest) (zeros_are-bytes b.stands.count) b.stands.are) b.some
    (subst (λ (l : List ℕ). AllZero (bit_list l)) b.stands.split all)

pub prefix-not-zero : (unit : List ℕ) (at place : ℕ) (rest : List ℕ) → StandsAt unit at place (0 ∷ 0 ∷ 1 ∷ rest) → AllZero (bits_from unit at) → ⊥
prefix-not-zero unit at place rest s all =
    let xs = replicate s.count 0 ++ 0 ∷ 0 ∷ [] in
    let split : drop at unit ≡ xs ++ 1 ∷ rest = s.split ∙ sym (append_assoc (replicate s.count 0) (0 ∷ 0 ∷ []) (1 ∷ rest)) in
    let are : AreBytes (xs ++ 1 ∷ rest) = subst AreBytes (sym (append_assoc (replicate s.count 0) (0 ∷ 0 ∷ []) (1 ∷ rest)))
    (AreBytes-append (replicate s.count 0) (0 ∷ 0 ∷ 1 ∷ rest) (zeros_are-bytes s.count) s.are) in
    not-zero xs 1 rest are (λ e. omega (arith, e)) (subst (λ (l : List ℕ). AllZero (bit_list l)) split all)

-- ---- slices and the end

module _ (seq : SeqState) (coding : PicCoding) where
  pub next-refused : (is_first : Bool) (before : List Slice) → IsBehind is_first before → (bits left : List ℕ) (kind : Refusal) → (is_first ≡ false → AllZero bits → ⊥)
      → (start_code BadHeader (may is_first)).Refuses bits kind left → (next_slice seq coding before).Refuses bits kind left
  next-refused true [] behind bits left kind some r = inl r
  next-refused true (s ∷ ss) behind bits left kind some r = absurd (let never : s ∷ ss ≡ [] = behind in cc)
  next-refused false [] behind bits left kind some r = absurd (behind refl)
  next-refused false (s ∷ ss) behind bits left kind some r = inr (some refl, inl r)

  pub next-ends : (before : List Slice) → before ≢ [] → (unit : List ℕ) (at count : ℕ) → drop at unit ≡ replicate count 0 → (next_slice seq coding before).Spells (last false) (bits_from unit at) []
  next-ends [] some unit at count split = absurd (some refl)
  next-ends (s ∷ ss) some unit at count split =
      let zeros : AllZero (bit_list (replicate count 0)) = zeros-bits count ∙ ap (λ (k : ℕ). replicate k 0) (sym (ap length (zeros-bits count) ∙ length-replicate {A = ℕ} (8 * count) 0)) in
      inl (subst (λ (l : List ℕ). AllZero (bit_list l)) (sym split) zeros, ((end-none unit at count split).0, [], (end-none unit at count split).1, (refl, refl)))

  module _ (unit : List ℕ) (at place code : ℕ) (s : StandsAt unit at place (0 ∷ 0 ∷ 1 ∷ code ∷ drop (place + 4) unit)) where
    abbrev behind : List ℕ
    behind = bits_from unit (place + 4)

    code-split : bits_from unit at ≡ replicate (8 * s.count) 0 ++ (start_code_bits code ++ behind)
    code-split =
        ap bit_list s.split ∙ bit_list-append (replicate s.count 0) (0 ∷ 0 ∷ 1 ∷ code ∷ drop (place + 4) unit)
        ∙ ap₂ (λ (a b : List ℕ). a ++ b) (zeros-bits s.count)
        (bit_list-append (0 ∷ 0 ∷ 1 ∷ code ∷ []) (drop (place + 4) unit)
        ∙ ap (λ (b : List ℕ). b ++ behind) (sym (code_bits-bytes BadHeader is_slice code)))

    made : (may_come : ℕ → Bool) → may_come code ≡ true → (start_code BadHeader may_come).Spells code (bits_from unit at) behind
    made may_come comes = subst (λ (b : List ℕ). (start_code BadHeader may_come).Spells code b behind) (sym code-split) (code-made BadHeader may_come code s.count behind s.are.1.1.1.0 comes)

    not-zeros : AllZero (bits_from unit at) → ⊥
    not-zeros = prefix-not-zero unit at place (code ∷ drop (place + 4) unit) s

    pub slice-comes : (is_first : Bool) (before : List Slice) → IsBehind is_first before → is_slice code ≡ true → SliceComes seq coding before code (bits_from unit at) behind
    slice-comes true [] first is = record {
      is_one = is;
      spelled = λ v rest w. (code, behind, made is_slice is, (v, rest, w, (refl, refl)));
      refused = λ kind left r. inr (code, behind, made is_slice is, inl r);
    }
    slice-comes true (b ∷ bs) first is = absurd (let never : b ∷ bs ≡ [] = first in cc)
    slice-comes false [] first is = absurd (first refl)
    slice-comes false (b ∷ bs) first is =
        let code_comes = made (λ byte. is_slice byte || byte == SEQUENCE_END) (ap (λ (c : Bool). c || code == SEQUENCE_END) is) in
        record {
          is_one = is;
          spelled = λ v rest w.
              let item = subst (λ (c : Bool). (optional c (whole_slice seq coding code)).Spells (Some v) behind rest) (sym is) (v, rest, w, (refl, refl)) in
              let none = subst (λ (c : Bool). (optional c only_zero_bytes).Spells None rest rest) (sym (code_other code is)) (refl, refl) in
              inr (not-zeros, (code, behind, code_comes, (Some v, rest, item, (None, rest, none, (refl, refl)))));
          refused = λ kind left r.
              let item = subst (λ (c : Bool). (optional c (whole_slice seq coding code)).Refuses behind kind left) (sym is) (inl r) in
              inr (not-zeros, inr (code, behind, code_comes, inl item));
        }

  -- behind a sequence end code
  module _ (unit : List ℕ) (at place : ℕ) (s : StandsAt unit at place (0 ∷ 0 ∷ 1 ∷ SEQUENCE_END ∷ drop (place + 4) unit)) where
    abbrev rest_bits : List ℕ
    rest_bits = bits_from unit (place + 4)

    end_comes : (start_code BadHeader (may false)).Spells SEQUENCE_END (bits_from unit at) rest_bits
    end_comes = made unit at place SEQUENCE_END s (may false) refl

    pub end-comes : (before : List Slice) → before ≢ [] → (zeros : List ℕ × Unit {0}) → only_zero_bytes.Spells zeros rest_bits []
        → (next_slice seq coding before).Spells (last true) (bits_from unit at) []
    end-comes [] some zeros z = absurd (some refl)
    end-comes (b ∷ bs) some zeros z = inr (
      not-zeros unit at place SEQUENCE_END s,
      (SEQUENCE_END, rest_bits, end_comes, (None, rest_bits, (refl, refl), (Some zeros, [], (zeros, [], z, (refl, refl)), (refl, refl)))),
    )

    pub end-refused : (before : List Slice) → before ≢ [] → (left : List ℕ) (kind : Refusal) → only_zero_bytes.Refuses rest_bits kind left
        → (next_slice seq coding before).Refuses (bits_from unit at) kind left
    end-refused [] some left kind r = absurd (some refl)
    end-refused (b ∷ bs) some left kind r = inr (not-zeros unit at place SEQUENCE_END s, inr (SEQUENCE_END, rest_bits, end_comes, inr (None, rest_bits, (refl, refl), inl (inl r))))

    -- where a fault tells how the bytes behind the code are refused, the list of slices is refused so
    pub end-told : (before : List Slice) → before ≢ [] → (told : Option PlacedRefusal) → RefusesTold only_zero_bytes told (8 * length unit) rest_bits
        → RefusesTold (next_slice seq coding before) told (8 * length unit) (bits_from unit at)
    end-told before some None r = tt
    end-told before some (Some said) (left, r, e) = (left, end-refused before some left said.refusal r, e)

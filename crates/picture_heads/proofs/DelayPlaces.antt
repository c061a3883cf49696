-- vbv_delay stands in one place of a head.
use Rattle.std.proofs.Common.{
  ◌≡◌,
  ◌≢◌,
  ◌+◌,
  ◌-◌,
  ◌*◌,
  ◌/◌,
  ◌%◌,
  ◌<◌,
  ◌≤◌,
  ℕ,
  zero,
  suc,
  nat_eq,
  List,
  ◌++◌,
  length,
  drop,
  get_or,
  if◌then◌else◌,
  refl,
  sym,
  ap,
  ap₂,
  ◌∙◌,
  inl,
  inr,
  arith,
  append_assoc,
  eq-eqb,
}
use Rattle.std.proofs.lemmas.Bool.{cases_Bool, eqb-true, eqb-false}
use Rattle.std.proofs.lemmas.List.{length-append}
use Rattle.bit_lists.specs.Bits.{bits_of}
use Rattle.bit_lists.specs.Fields.{AreBytes, bit_list}
use Rattle.bit_lists.proofs.ByteLemmas.{length-bit_list}
use Rattle.bit_lists.proofs.PrefixLemmas.{bit_list-same}
use Rattle.stream_constants.specs.declared.start_codes.TheConstants.{PICTURE, GROUP}
use Rattle.picture_grammar.specs.declared.limits.TheConstants.{VBV_DELAY_BITS}
use Rattle.picture_heads.specs.declared.TheConstants.{NO_DELAY}
use Rattle.picture_heads.specs.Heads.{HasDelay, IsHeadWithoutDelay}
use Rattle.es_units.specs.StartCodes.{is_start_code_at}
use Rattle.picture_heads.specs.Private.Walk.{LeadsIn, with_ones}
use Rattle.picture_heads.proofs.Bytes.{same_parts, IsFound}
use Rattle.picture_heads.proofs.LeadingCodes.{head-leads}
use Rattle.picture_heads.proofs.Ones.{IsSet, set_at}
use Rattle.picture_heads.proofs.WalkSteps.{IsFirstAt, leads-longer, found-in, walk-here, walk-on, walk-within}

leads-whole : (n : ℕ) (bits rest : List ℕ) → LeadsIn n bits rest → length rest % 8 ≡ 0
leads-whole zero bits rest f = f.whole
leads-whole (suc n) bits rest (byte, behind, later, f, goes, l) = leads-whole n later rest l

-- the walk over a head, and how much of it is left behind the picture's start code
pub record HasWalk (head front delay back following : List ℕ) : Type 0 where
  pub codes : ℕ
  pub rest : List ℕ
  pub leads : LeadsIn codes (bit_list head ++ following) rest
  pub enough : 32 + length following ≤ length rest
  pub size : length front + length rest ≡ 8 * length head + length following + 13

pub delay-walk : (head front delay back : List ℕ) (h : HasDelay head front delay back) → HasWalk head front delay back h.following
delay-walk head front delay back h =
    let parts : length (bit_list head) ≡ length front + (16 + length back) =
    ap length h.parts ∙ length-append (front ++ delay) back ∙ omega (arith, length-append front delay, h.delay_bits) in
    let all : length (bit_list head ++ h.following) ≡ 8 * length head + length h.following =
    length-append (bit_list head) h.following ∙ omega (arith, length-bit_list head) in
    let (between, thirteen, l) = head-leads h.before h.kind (bit_list head ++ h.following) (delay ++ back ++ h.following) h.place (omega (arith, all, h.whole)) in
    let rest : length (between ++ (delay ++ back ++ h.following)) ≡ 29 + (length back + length h.following) =
    length-append between (delay ++ back ++ h.following) ∙ omega (arith, thirteen, length-append (delay ++ back) h.following, length-append delay back, h.delay_bits) in
    let whole = leads-whole l.codes (bit_list head ++ h.following) (between ++ (delay ++ back ++ h.following)) l.leads in
    record {
      codes = l.codes;
      rest = between ++ (delay ++ back ++ h.following);
      leads = l.leads;
      enough = omega (arith, rest, whole, h.whole);
      size = omega (arith, rest, parts, length-bit_list head);
    }

-- parts of the same lengths are the same
pub one-parting : (front delay back f d b : List ℕ) → length front ≡ length f → length delay ≡ length d → front ++ delay ++ back ≡ f ++ d ++ b → (front ≡ f) × (delay ≡ d) × (back ≡ b)
one-parting front delay back f d b lf ld e =
    let (p, q) = same_parts front f (delay ++ back) (d ++ b) lf (sym (append_assoc front delay back) ∙ e ∙ append_assoc f d b) in
    let (r, s) = same_parts delay d back b ld q in
    (p, r, s)

-- ones at that place
pub set-without : (head front delay back : List ℕ) (h : HasDelay head front delay back) (at : ℕ) → at + 3 < length head
    → 8 * (length head - at) + length h.following ≡ length (delay-walk head front delay back h).rest
    → IsHeadWithoutDelay head (with_ones head at)
set-without head front delay back h at lt size =
    let w = delay-walk head front delay back h in
    let s : IsSet head at = set_at head at lt h.bytes in
    let place : length front ≡ length s.front = omega (arith, w.size, size, s.place, lt) in
    let (p, q, r) = one-parting front delay back s.front s.delay s.back place (h.delay_bits ∙ sym s.delay_bits) (sym h.parts ∙ s.parts) in
    record {
      front = front;
      delay = delay;
      back = back;
      source = h;
      bytes = s.bytes;
      without = s.set ∙ ap₂ (λ (x y : List ℕ). x ++ bits_of VBV_DELAY_BITS NO_DELAY ++ y) (sym p) (sym r);
    }

-- there is such a head
pub has-without : (head front delay back : List ℕ) → HasDelay head front delay back → (without : List ℕ) × IsHeadWithoutDelay head without
has-without head front delay back h =
    let w = delay-walk head front delay back h in
    let at : ℕ = (length front - 13) / 8 in
    let all : length (bit_list head ++ h.following) ≡ 8 * length head + length h.following =
    length-append (bit_list head) h.following ∙ omega (arith, length-bit_list head) in
    let longer = leads-longer w.codes (bit_list head ++ h.following) w.rest w.leads in
    let whole = leads-whole w.codes (bit_list head ++ h.following) w.rest w.leads in (
      with_ones head at,
      set-without head front delay back h at (omega (arith, w.size, w.enough, all, longer, whole, h.whole)) (omega (arith, w.size, w.enough, all, longer, whole, h.whole)),
    )

-- ---- two ways to read a head

behind_one : ℕ → ℕ → ℕ
behind_one code value = if nat_eq value GROUP then code + 8 else code + 4

behind-far : (code value : ℕ) → code + 4 ≤ behind_one code value
unfolding behind_one
behind-far code value = elim (cases_Bool (nat_eq value GROUP)) [
  | inl is ↦ (let e : behind_one code value ≡ code + 8 = rw (is, behind_one) refl in omega (arith, e))
  | inr other ↦ (let e : behind_one code value ≡ code + 4 = rw (other, behind_one) refl in omega (arith, e))
]

first-of : (head following : List ℕ) (at byte : ℕ) (behind : List ℕ) (found : IsFound head following at byte behind) → IsFirstAt head at found.code (get_or head (found.code + 3) 0)
first-of head following at byte behind found = record {
  begun = found.begun;
  is_code = found.is_code;
  said = refl;
  none = λ place begun lt. elim (cases_Bool (is_start_code_at head place)) [
    | inl is ↦ absurd (omega (arith, lt, found.first place begun is))
    | inr none ↦ none
  ];
}

behind-group : (code value : ℕ) → value ≡ GROUP → behind_one code value ≡ code + 8
unfolding behind_one
behind-group code value is = rw (eq-eqb value GROUP is, behind_one) refl

behind-other : (code value : ℕ) → value ≢ GROUP → behind_one code value ≡ code + 4
unfolding behind_one
behind-other code value other = elim (cases_Bool (nat_eq value GROUP)) [
  | inl is ↦ absurd (other (eqb-true value GROUP is))
  | inr no' ↦ rw (no', behind_one) refl
]

module _ (head f1 f2 : List ℕ) (are : AreBytes head) (w1 : length f1 % 8 ≡ 0) (w2 : length f2 % 8 ≡ 0) where
  -- at the same start code, where this isn't the picture's, both go on alike
  next-within : (n at code value : ℕ) (rest : List ℕ) → at ≤ length head → 32 + length f1 ≤ length rest → LeadsIn n (bit_list (drop at head) ++ f1) rest → IsFirstAt head at code value
      → value ≢ PICTURE → behind_one code value ≤ length head
  next-within n at code value rest within enough l first no_picture = walk-within head f1 are w1 n at code value (behind_one code value) rest within enough l first no_picture
      (λ is le. behind-group code value is) (λ other. behind-other code value other)

  same-rest : (fuel at n k : ℕ) (r1 r2 : List ℕ) → length head - at ≤ fuel → at ≤ length head → 32 + length f1 ≤ length r1 → 32 + length f2 ≤ length r2
      → LeadsIn n (bit_list (drop at head) ++ f1) r1 → LeadsIn k (bit_list (drop at head) ++ f2) r2 → length r1 + length f2 ≡ length r2 + length f1
  same-rest zero at n k r1 r2 few within e1 e2 l1 l2 =
      let (byte, behind, found) = found-in head f1 are w1 n at r1 within e1 l1 in
      absurd (omega (arith, few, found.begun, found.within))
  same-rest (suc fuel) at n k r1 r2 few within e1 e2 l1 l2 =
      let (byte, behind, found) = found-in head f1 are w1 n at r1 within e1 l1 in
      let value : ℕ = get_or head (found.code + 3) 0 in
      let first : IsFirstAt head at found.code value = first-of head f1 at byte behind found in
      elim (cases_Bool (nat_eq value PICTURE)) [
        | inl is ↦
            let here1 = walk-here head f1 are w1 n at found.code value r1 within e1 l1 first (eqb-true value PICTURE is) in
            let here2 = walk-here head f2 are w2 k at found.code value r2 within e2 l2 first (eqb-true value PICTURE is) in
            omega (arith, here1.1, here2.1)
        | inr not_picture ↦
            let other : value ≢ PICTURE = eqb-false value PICTURE not_picture in
            let on1 = walk-on head f1 are w1 n at found.code value (behind_one found.code value) r1 within e1 l1 first other (λ is le. behind-group found.code value is)
            (λ o. behind-other found.code value o) in
            let on2 = walk-on head f2 are w2 k at found.code value (behind_one found.code value) r2 within e2 l2 first other (λ is le. behind-group found.code value is)
            (λ o. behind-other found.code value o) in
            let far : found.code + 4 ≤ behind_one found.code value = behind-far found.code value in
            same-rest fuel (behind_one found.code value) on1.0 on2.0 r1 r2 (omega (arith, few, found.begun, found.within, far))
            (next-within n at found.code value r1 within e1 l1 first other) e1 e2 on1.1 on2.1
      ]

-- a head has its vbv_delay in one place
pub one-place : (head f d b g e c : List ℕ) → HasDelay head f d b → HasDelay head g e c → (f ≡ g) × (d ≡ e) × (b ≡ c)
one-place head f d b g e c h k =
    let w = delay-walk head f d b h in
    let v = delay-walk head g e c k in
    let rests = same-rest head h.following k.following h.bytes h.whole k.whole (length head) 0 w.codes v.codes w.rest v.rest (omega arith) (omega arith) w.enough v.enough w.leads v.leads in
    let place : length f ≡ length g = omega (arith, w.size, v.size, rests) in
    one-parting f d b g e c place (h.delay_bits ∙ sym k.delay_bits) (sym h.parts ∙ k.parts)

-- no other head is the same one without its vbv_delay
pub one-without : (from a b : List ℕ) → IsHeadWithoutDelay from a → IsHeadWithoutDelay from b → a ≡ b
one-without from a b p q =
    let (f, d, r) = one-place from p.front p.delay p.back q.front q.delay q.back p.source q.source in
    bit_list-same a b p.bytes q.bytes (p.without ∙ ap₂ (λ (x y : List ℕ). x ++ bits_of VBV_DELAY_BITS NO_DELAY ++ y) f r ∙ sym q.without)

-- Where frames stand among the pictures.
use Rattle.std.proofs.Common.{
  ◌≡◌,
  ◌⊎◌,
  ◌+◌,
  ◌-◌,
  ◌*◌,
  ◌/◌,
  ◌<◌,
  ◌≤◌,
  nat_le,
  nat_lt,
  min,
  ℕ,
  zero,
  suc,
  Bool,
  true,
  false,
  cond,
  List,
  [],
  ◌∷◌,
  ◌++◌,
  length,
  slice_index_or,
  refl,
  sym,
  ap,
  ◌∙◌,
  inl,
  inr,
  append_assoc,
  append-nil,
  arith,
}
use Rattle.std.specs.List.{filter, flat_map, range_with_len}
use Rattle.std.proofs.lemmas.Bool.{and_from, and_left, and_right, cases_lt, le-leb, lt-ltb, lt-leb, le-ltb}
use Rattle.std.proofs.lemmas.List.Elements.{filter-append}
use Rattle.picture_grammar.specs.Written.{IsWritten}
use Rattle.syntax_types.specs.declared.picture.Picture.{Picture}
use Rattle.ts_packets.specs.Packet.{PacketRecord}
use Rattle.program_maker.specs.Draws.{Drawn, draw_each}
use Rattle.program_maker.specs.Packets.{pcr_packet, pes_packets}
use Rattle.program_maker.specs.Pictures.{AreWritten}
use Rattle.program_maker.specs.Program.{is_behind, frames_behind, frame_packets, packets_at}
use Rattle.program_maker.specs.Streams.{drawn_frame, drawn_frames, frame_pes, picture_pes}
use Rattle.program_maker.specs.Private.Program.{frames_state, frames_packets, first_frame}
use Rattle.list_types.proofs.Lists.{range-last}

-- ---- lists over numbers, one number more

module _ {X : Type 0} (f : ℕ → List X) where
  flat-last : (a n j : ℕ) → a + n ≡ j → flat_map f (range_with_len a (suc n)) ≡ flat_map f (range_with_len a n) ++ f j
  flat-last a zero j e = append-nil (f a) ∙ ap f (let is : a ≡ j = omega (arith, e) in is)
  flat-last a (suc n) j e =
      ap (λ xs. f a ++ xs) (flat-last (a + 1) n j (omega (arith, e))) ∙ sym (append_assoc (f a) (flat_map f (range_with_len (a + 1) n)) (f j))

  pub flat-more : (a n j : ℕ) → a + n ≡ j → flat_map f (range_with_len a (n + 1)) ≡ flat_map f (range_with_len a n) ++ f j
  flat-more a n j e = ap (λ k. flat_map f (range_with_len a k)) (let is : n + 1 ≡ suc n = omega arith in is) ∙ flat-last a n j e

flat-same : {X : Type 0} (f g : ℕ → List X) (a n : ℕ) → ((j : ℕ) → a ≤ j → j < a + n → f j ≡ g j) → flat_map f (range_with_len a n) ≡ flat_map g (range_with_len a n)
flat-same f g a zero same = refl
flat-same f g a (suc n) same =
    ap (λ xs. xs ++ flat_map f (range_with_len (a + 1) n)) (same a (omega arith) (omega arith))
    ∙ ap (λ xs. g a ++ xs) (flat-same f g (a + 1) n (λ j least most. same j (omega (arith, least)) (omega (arith, most))))

-- ---- the numbers within bounds

module _ (test : ℕ → Bool) (low high : ℕ) (yes : (j : ℕ) → low ≤ j → j < high → test j ≡ true) (no : (j : ℕ) → (j < low) ⊎ (high ≤ j) → test j ≡ false) where
  one-in : (n : ℕ) → low ≤ n → n < high → range_with_len low (min high n - low) ++ n ∷ [] ≡ range_with_len low (min high (suc n) - low)
  one-in n least most =
      let now : min high n - low ≡ n - low = omega (arith, least, most) in
      let next : min high (suc n) - low ≡ suc (n - low) = omega (arith, least, most) in
      let at : n ≡ low + (n - low) = omega (arith, least) in
      ap (λ k. range_with_len low k ++ n ∷ []) now ∙ ap (λ x. range_with_len low (n - low) ++ x ∷ []) at ∙ sym (ap (range_with_len low) next ∙ range-last low (n - low))

  same-number : (n : ℕ) → (n < low) ⊎ (high ≤ n) → min high n - low ≡ min high (suc n) - low
  same-number n (inl below) = omega (arith, below)
  same-number n (inr above) = omega (arith, above)

  one-out : (n : ℕ) → (n < low) ⊎ (high ≤ n) → range_with_len low (min high n - low) ++ [] ≡ range_with_len low (min high (suc n) - low)
  one-out n out =
      append-nil (range_with_len low (min high n - low))
      ∙ ap (range_with_len low) (same-number n out)

  one-more : (n : ℕ) → range_with_len low (min high n - low) ++ cond (test n) (n ∷ []) [] ≡ range_with_len low (min high (suc n) - low)
  one-more n = elim (cases_lt n low) [
    | inl below ↦ ap (λ (b : Bool). range_with_len low (min high n - low) ++ cond b (n ∷ []) []) (no n (inl below)) ∙ one-out n (inl below)
    | inr least ↦ elim (cases_lt n high) [
      | inl most ↦ ap (λ (b : Bool). range_with_len low (min high n - low) ++ cond b (n ∷ []) []) (yes n least most) ∙ one-in n least most
      | inr above ↦ ap (λ (b : Bool). range_with_len low (min high n - low) ++ cond b (n ∷ []) []) (no n (inr above)) ∙ one-out n (inr above)
    ]
  ]

  within : (n : ℕ) → filter test (range_with_len 0 n) ≡ range_with_len low (min high n - low)
  within zero = ap (range_with_len low) (let e : 0 ≡ min high 0 - low = omega arith in e)
  within (suc n) =
      ap (filter test) (range-last 0 n ∙ ap (λ x. range_with_len 0 n ++ x ∷ []) (let e : 0 + n ≡ n = omega arith in e))
      ∙ filter-append test (range_with_len 0 n) (n ∷ []) ∙ ap (λ xs. xs ++ cond (test n) (n ∷ []) []) (within n) ∙ one-more n

-- the frames behind picture k
frames-in : (k j : ℕ) → first_frame k ≤ j → j < first_frame (k + 1) → is_behind k j ≡ true
frames-in k j least most =
    and_from (nat_le (90000 + 3600 * k) (90000 + 2160 * j)) (nat_lt (90000 + 2160 * j) (90000 + 3600 * (k + 1)))
    (le-leb (90000 + 3600 * k) (90000 + 2160 * j) (omega (arith, least))) (lt-ltb (90000 + 2160 * j) (90000 + 3600 * (k + 1)) (omega (arith, most)))

frames-out : (k j : ℕ) → (j < first_frame k) ⊎ (first_frame (k + 1) ≤ j) → is_behind k j ≡ false
frames-out k j (inl below) = and_left (nat_le (90000 + 3600 * k) (90000 + 2160 * j)) (nat_lt (90000 + 2160 * j) (90000 + 3600 * (k + 1)))
    (lt-leb (90000 + 3600 * k) (90000 + 2160 * j) (omega (arith, below)))
frames-out k j (inr above) = and_right (nat_le (90000 + 3600 * k) (90000 + 2160 * j)) (nat_lt (90000 + 2160 * j) (90000 + 3600 * (k + 1)))
    (le-ltb (90000 + 2160 * j) (90000 + 3600 * (k + 1)) (omega (arith, above)))

behind-are : (pictures k : ℕ) → frames_behind pictures k ≡ range_with_len (first_frame k) (min (first_frame (k + 1)) (5 * pictures / 3) - first_frame k)
behind-are pictures k = within (is_behind k) (first_frame k) (first_frame (k + 1)) (frames-in k) (frames-out k) (5 * pictures / 3)

-- ---- the frame of a number

thing-of : {A : Type 0} (thing : ℕ → Drawn A) (n a i start : ℕ) (default : A) → i < n
    → slice_index_or (draw_each (range_with_len a n) thing start).0 i default ≡ (thing (a + i) (draw_each (range_with_len a i) thing start).1).0
thing-of thing zero a i start default lt = absurd (omega (arith, lt))
thing-of thing (suc n) a zero start default lt = ap (λ k. (thing k start).0) (let e : a ≡ a + 0 = omega arith in e)
thing-of thing (suc n) a (suc i) start default lt =
    thing-of thing n (a + 1) i (thing a start).1 default (omega (arith, lt))
    ∙ ap (λ k. (thing k (draw_each (range_with_len (a + 1) i) thing (thing a start).1).1).0) (let f : a + 1 + i ≡ a + suc i = omega arith in f)

-- the packets of the frames behind picture k
pub frames-of : (pictures start k end : ℕ) → end ≡ min (first_frame (k + 1)) (5 * pictures / 3)
    → frames_packets start (first_frame k) (end - first_frame k) ≡ flat_map (frame_packets (drawn_frames pictures start).0) (frames_behind pictures k)
frames-of pictures start k end is =
    let frames : List (List ℕ) = (drawn_frames pictures start).0 in
    let number = end - first_frame k in
    flat-same (λ j. pes_packets 0x102 (frame_pes j (drawn_frame (frames_state start j)).0)) (frame_packets frames) (first_frame k) number
    (λ j least most. ap (λ bytes. pes_packets 0x102 (frame_pes j bytes))
    (sym (thing-of (λ _. drawn_frame) (5 * pictures / 3) 0 j start [] (omega (arith, least, most, is)))))
    ∙ ap (λ n. flat_map (frame_packets frames) (range_with_len (first_frame k) (n - first_frame k))) is
    ∙ sym (ap (flat_map (frame_packets frames)) (behind-are pictures k))

-- one frame more
pub frames-more : (start first j : ℕ) → first ≤ j
    → frames_packets start first (j - first) ++ pes_packets 0x102 (frame_pes j (drawn_frame (frames_state start j)).0) ≡ frames_packets start first (j + 1 - first)
frames-more start first j least =
    let g : ℕ → List PacketRecord = λ i. pes_packets 0x102 (frame_pes i (drawn_frame (frames_state start i)).0) in
    sym (ap (λ n. flat_map g (range_with_len first n)) (let e : j + 1 - first ≡ (j - first) + 1 = omega (arith, least) in e) ∙ flat-more g first (j - first) j (omega (arith, least)))

any-default : {A : Type 0} (xs : List A) (i : ℕ) (d e : A) → i < length xs → slice_index_or xs i d ≡ slice_index_or xs i e
any-default [] i d e lt = absurd (omega (arith, lt))
any-default (x ∷ xs) zero d e lt = refl
any-default (x ∷ xs) (suc i) d e lt = any-default xs i d e (omega (arith, lt))

-- a picture more, with its frames
pub picture-more : (packets : List PacketRecord) (units : List (List ℕ)) (start k end : ℕ) (unit : List ℕ) (default : List ℕ) → k < length units
    → unit ≡ slice_index_or units k default → end ≡ min (first_frame (k + 1)) (5 * length units / 3)
    → ((packets ++ flat_map (packets_at units (drawn_frames (length units) start).0) (range_with_len 0 k)) ++ (pcr_packet k ∷ pes_packets 0x101 (picture_pes k unit)))
    ++ frames_packets start (first_frame k) (end - first_frame k)
    ≡ packets ++ flat_map (packets_at units (drawn_frames (length units) start).0) (range_with_len 0 (k + 1))
picture-more packets units start k end unit default lt is end_is =
    let frames : List (List ℕ) = (drawn_frames (length units) start).0 in
    let before : List PacketRecord = flat_map (packets_at units frames) (range_with_len 0 k) in
    let shown : List ℕ → List PacketRecord = λ bytes. pcr_packet k ∷ pes_packets 0x101 (picture_pes k bytes) in
    let behind : List PacketRecord = flat_map (frame_packets frames) (frames_behind (length units) k) in
    ap (λ fs. ((packets ++ before) ++ shown unit) ++ fs) (frames-of (length units) start k end end_is)
    ∙ ap (λ bytes. ((packets ++ before) ++ shown bytes) ++ behind) (is ∙ any-default units k default [] lt)
    ∙ append_assoc (packets ++ before) (shown (slice_index_or units k [])) behind
    ∙ append_assoc packets before (shown (slice_index_or units k []) ++ behind)
    ∙ ap (λ ps. packets ++ ps) (sym (flat-more (packets_at units frames) 0 k k (omega arith)))

-- ---- written pictures

pub written-more : (pictures : List Picture) (units : List (List ℕ)) (picture : Picture) (unit : List ℕ) → AreWritten pictures units → IsWritten picture unit
    → AreWritten (pictures ++ picture ∷ []) (units ++ unit ∷ [])
written-more [] [] picture unit are is = (is, tt)
written-more [] (u ∷ us) picture unit are is = absurd are
written-more (p ∷ ps) [] picture unit are is = absurd are
written-more (p ∷ ps) (u ∷ us) picture unit (first, others) is = (first, written-more ps us picture unit others is)

pub written-number : (pictures : List Picture) (units : List (List ℕ)) → AreWritten pictures units → length units ≡ length pictures
written-number [] [] are = refl
written-number [] (u ∷ us) are = absurd are
written-number (p ∷ ps) [] are = absurd are
written-number (p ∷ ps) (u ∷ us) (first, others) = ap suc (written-number ps us others)

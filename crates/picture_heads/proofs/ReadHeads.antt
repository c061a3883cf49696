-- Heads that some bits spell have a vbv_delay.
use Rattle.std.proofs.Common.{◌≡◌, ◌*◌, ◌%◌, ◌==◌, ◌||◌, ℕ, Option, List, [], ◌∷◌, ◌++◌, length, replicate, Bool, refl, sym, ap, ap₂, subst, ◌∙◌, arith, append_assoc}
use Rattle.std.specs.Prelude.{fold}
use Rattle.std.proofs.lemmas.List.{length-append, append_cancel_right}
use Rattle.bit_lists.specs.Bits.{bits_of}
use Rattle.bit_lists.specs.Fields.{AreBytes, bit_list}
use Rattle.bit_lists.proofs.BitLemmas.{length-bits_of}
use Rattle.syntax_types.specs.declared.picture.PicCoding.{PicCoding}
use Rattle.syntax_types.specs.declared.picture.SeqState.{SeqState}
use Rattle.syntax_types.specs.declared.picture.TheConstants.{P_PICTURE, B_PICTURE}
use Rattle.stream_constants.specs.declared.start_codes.TheConstants.{PICTURE, EXTENSION, QUANT_MATRIX, COPYRIGHT, PICTURE_DISPLAY, PICTURE_CODING}
use Rattle.picture_grammar.specs.Refusal.Refusal.{BadHeader, NotMpeg2}
use Rattle.picture_grammar.specs.Grammar.{Grammar, done, ◌>>=◌, ◌>>◌, optional, many, with_spelling}
use Rattle.picture_grammar.specs.Element.{uimsbf, rule}
use Rattle.picture_grammar.specs.Exact.{IsExact, EndsWith}
use Rattle.picture_grammar.specs.Slice.{extra_information}
use Rattle.picture_grammar.specs.StartCode.{start_code_bits, start_code, zero_bits}
use Rattle.picture_grammar.specs.Headers.{old_f_code, picture_coding_extension, with_loaded}
use Rattle.picture_grammar.specs.Head.{extensions_and_user_data, sequence_part, group_part, head}
use Rattle.picture_grammar.proofs.GrammarLaws.{exact-done, exact-bind, exact-then, exact-optional, exact-many, EndsWith-through}
use Rattle.picture_grammar.proofs.PictureLaws.{exact-uimsbf}
use Rattle.picture_grammar.proofs.HeaderLaws.{exact-zero_bits, exact-start_code, exact-old_f_code, exact-picture_coding_extension, exact-extension_or_user_data}
use Rattle.picture_grammar.proofs.MacroblockLaws.{exact-extra_information}
use Rattle.picture_laws.proofs.StartCodes.{code-taken, code-made}
use Rattle.picture_laws.proofs.Steady.{IsSteady, steady-bind, steady-then, steady-done}
use Rattle.picture_laws.proofs.SteadyHead.{AreNoneBefore, steady-sequence_part, steady-group_part}
use Rattle.picture_laws.proofs.Tails.{IsTail, IsNewTail, AreAlike}
use Rattle.picture_grammar.specs.declared.limits.TheConstants.{VBV_DELAY_BITS}
use Rattle.picture_heads.specs.declared.TheConstants.{NO_DELAY}
use Rattle.picture_heads.specs.Heads.{before_vbv_delay, HasDelay, IsHeadWithoutDelay}
use Rattle.picture_heads.proofs.DelayPlaces.{one-place}

-- the coding with a vbv_delay that says nothing
abbrev pub without_delay : PicCoding → PicCoding
without_delay coding = record coding { vbv_delay = NO_DELAY }

-- what stands behind vbv_delay in a picture header
abbrev behind_delay : ℕ → ℕ → Grammar (ℕ × ℕ)
behind_delay kind delay = do
  optional (kind == P_PICTURE || kind == B_PICTURE) old_f_code
  optional (kind == B_PICTURE) old_f_code
  many extra_information
  done (kind, delay)

behind_delay-ends : (kind delay : ℕ) (found : ℕ × ℕ) (bits rest : List ℕ) → (behind_delay kind delay).Spells found bits rest → EndsWith bits rest
behind_delay-ends kind delay =
    (exact-then _ _ (exact-optional _ _ exact-old_f_code) (exact-then _ _ (exact-optional _ _ exact-old_f_code) (exact-then _ _ (exact-many _ exact-extra_information) (exact-done _)))).spelled_front

-- what stands behind a picture header, up to the first slice
abbrev behind_header : SeqState → ℕ × ℕ → Grammar (SeqState × PicCoding)
behind_header seq header = do
  zero_bits BadHeader
  start_code NotMpeg2 (λ byte. byte == EXTENSION)
  uimsbf 4 (rule NotMpeg2 (λ identifier. identifier == PICTURE_CODING) ∷ [])
  coding ← picture_coding_extension seq.progressive header.0 header.1
  zero_bits BadHeader
  loaded ← extensions_and_user_data (λ identifier. identifier == QUANT_MATRIX || identifier == COPYRIGHT || identifier == PICTURE_DISPLAY)
  done (fold with_loaded seq loaded.0, coding)

exact-behind_header : (seq : SeqState) (header : ℕ × ℕ) → IsExact (behind_header seq header)
exact-behind_header seq header =
    exact-then _ _ (exact-zero_bits _)
    (exact-then _ _ (exact-start_code _ _)
    (exact-then _ _ (exact-uimsbf 4 _)
    (exact-bind _ _ (exact-picture_coding_extension _ _ _)
    (λ coding. exact-then _ _ (exact-zero_bits _)
    (exact-bind _ _ (exact-many _ (exact-extension_or_user_data _ _))
    (λ loaded. exact-done _))))))

-- the same picture coding extension beside another vbv_delay
extension-delay : (progressive : Bool) (kind delay other : ℕ) (coding : PicCoding) (bits rest : List ℕ) → (picture_coding_extension progressive kind delay).Spells coding bits rest
    → (picture_coding_extension progressive kind other).Spells (record coding { vbv_delay = other }) bits rest
extension-delay progressive kind delay other coding bits rest (
  a1,
  m1,
  s1,
  (
    a2,
    m2,
    s2,
    (
      a3,
      m3,
      s3,
      (
        a4,
        m4,
        s4,
        (
          a5,
          m5,
          s5,
          (
            a6,
            m6,
            s6,
            (
              a7,
              m7,
              s7,
              (
                a8,
                m8,
                s8,
                (a9, m9, s9, (a10, m10, s10, (a11, m11, s11, (a12, m12, s12, (a13, m13, s13, (a14, m14, s14, (a15, m15, s15, (a16, m16, s16, (a17, m17, s17, (e, f)))))))))),
              ),
            ),
          ),
        ),
      ),
    ),
  ),
) = (
  a1,
  m1,
  s1,
  (
    a2,
    m2,
    s2,
    (
      a3,
      m3,
      s3,
      (
        a4,
        m4,
        s4,
        (
          a5,
          m5,
          s5,
          (
            a6,
            m6,
            s6,
            (
              a7,
              m7,
              s7,
              (
                a8,
                m8,
                s8,
                (
                  a9,
                  m9,
                  s9,
                  (
                    a10,
                    m10,
                    s10,
                    (
                      a11,
                      m11,
                      s11,
                      (
                        a12,
                        m12,
                        s12,
                        (
                          a13,
                          m13,
                          s13,
                          (
                            a14,
                            m14,
                            s14,
                            (
                              a15,
                              m15,
                              s15,
                              (
                                a16,
                                m16,
                                s16,
                                (
                                  a17,
                                  m17,
                                  s17,
                                  (ap (λ (c : PicCoding). let again : PicCoding = record c { vbv_delay = other } in again) e, f),
                                ),
                              ),
                            ),
                          ),
                        ),
                      ),
                    ),
                  ),
                ),
              ),
            ),
          ),
        ),
      ),
    ),
  ),
)

is_picture : ℕ → Bool
is_picture byte = byte == PICTURE

pictures : AreNoneBefore is_picture
unfolding is_picture
pictures = record { user_data = refl; extension = refl; sequence = refl; group = refl }

-- what stands before the picture's start code is read the same before another picture header
part-moved : (before : Option SeqState) (seq : SeqState) (bits m rest other : List ℕ) (group : Unit {0}) (middle : List ℕ) (byte : ℕ) → (sequence_part before).Spells seq bits middle
    → group_part.Spells group middle m
    → (start_code BadHeader (λ b. b == PICTURE)).Spells byte m rest → length rest % 8 ≡ length other % 8
    → (front : List ℕ) × (bits ≡ front ++ (start_code_bits byte ++ rest))
    × (now : List ℕ) × (new : List ℕ) × (sequence_part before).Spells seq (front ++ (start_code_bits byte ++ other)) now × group_part.Spells group now new ×
    (start_code BadHeader (λ b. b == PICTURE)).Spells byte new other
unfolding is_picture
part-moved before seq bits m rest other group middle byte s t u whole =
    let (n, split, fits, comes) = code-taken BadHeader (λ b. b == PICTURE) byte m rest u in
    let parts : IsSteady is_picture (sequence_part before >>= λ seq. group_part >> done (seq)) =
    steady-bind _ _ (steady-sequence_part pictures before) (λ seq. steady-then _ _ (steady-group_part pictures) (steady-done seq)) in
    let (f, p, q) = parts.moved seq bits m (seq, middle, s, (group, m, t, (refl, refl))) in
    let zeros : List ℕ = replicate (8 * n) 0 in
    let old : List ℕ = start_code_bits byte ++ rest in
    let new : List ℕ = start_code_bits byte ++ other in
    let old_tail : IsTail is_picture old = record { zeros = 0; byte = byte; rest = rest; is_byte = fits; starts = comes; split = refl } in
    let new_tail : IsNewTail is_picture new = record { byte = byte; rest = other; is_byte = fits; starts = comes; split = refl } in
    let alike : AreAlike is_picture m (zeros ++ new) = record {
      front = zeros;
      old = old;
      new = new;
      first = split;
      second = refl;
      old_tail = old_tail;
      new_tail = new_tail;
      whole = omega (arith, length-append (start_code_bits byte) rest, length-append (start_code_bits byte) other, whole);
    } in
    let (seq', now, s', (group', m', t', (e, g))) = q (zeros ++ new) alike in (
      f ++ zeros,
      p ∙ ap (λ (x : List ℕ). f ++ x) split ∙ sym (append_assoc f zeros old),
      now,
      zeros ++ new,
      subst (λ (x : List ℕ). (sequence_part before).Spells seq x now) (sym (append_assoc f zeros new)) (subst (λ (v : SeqState). (sequence_part before).Spells v (f ++ (zeros ++ new)) now) (sym e) s'),
      subst (λ (x : List ℕ). group_part.Spells group now x) g t',
      code-made BadHeader (λ b. b == PICTURE) byte n other fits comes,
    )

regroup : (a b c d x : List ℕ) → a ++ (b ++ (c ++ (d ++ x))) ≡ (a ++ (b ++ (c ++ d))) ++ x
regroup a b c d x =
    ap (λ (y : List ℕ). a ++ (b ++ y)) (sym (append_assoc c d x)) ∙ ap (λ (y : List ℕ). a ++ y) (sym (append_assoc b (c ++ d) x)) ∙ sym (append_assoc a (b ++ (c ++ d)) x)

-- a head that bits spell in three parts, and the same with another vbv_delay
pub record IsParted (before : Option SeqState) (seq : SeqState) (coding : PicCoding) (bits rest : List ℕ) : Type 0 where
  pub kind : ℕ
  pub front : List ℕ
  pub delay : List ℕ
  pub back : List ℕ
  pub split : bits ≡ front ++ (delay ++ (back ++ rest))
  pub delay_bits : length delay ≡ VBV_DELAY_BITS
  pub place : (before_vbv_delay before).Spells kind bits (delay ++ (back ++ rest))
  pub again : (head before).Spells (seq, without_delay coding) (front ++ (bits_of VBV_DELAY_BITS NO_DELAY ++ (back ++ rest))) rest

pub head-parted : (before : Option SeqState) (seq : SeqState) (coding : PicCoding) (bits rest : List ℕ) → (head before).Spells (seq, coding) bits rest → IsParted before seq coding bits rest
unfolding head
head-parted before seq coding bits rest (
  seq0,
  m1,
  s1,
  (
    group,
    m2,
    s2,
    (
      found,
      m3,
      (
        b1,
        n1,
        t1,
        (
          header,
          n2,
          (temporal, p1, (c10, coded10, pass10, split10), (kind, p2, (c3, coded3, pass3, split3), (delay, p3, (c16, coded16, pass16, split16), (o1, p4, u4, (o2, p5, u5, (extra, p6, u6, (e2, f2))))))),
          (z1, n3, t3, (b2, n4, t4, (id, n5, t5, (cod, n6, t6, (z2, n7, t7, (loaded, n8, t8, (e3, f3))))))),
        ),
      ),
      (byte, m4, (kept, after, coming), (e, g)),
    ),
  ),
) =
    let d : List ℕ = bits_of VBV_DELAY_BITS NO_DELAY in
    let new : List ℕ = c10 ++ (c3 ++ (d ++ p3)) in
    let size16 : length c16 ≡ 16 = ap length coded16.1 ∙ length-bits_of 16 delay in
    let sized : length d ≡ 16 = length-bits_of 16 NO_DELAY in
    let old_is : n1 ≡ c10 ++ (c3 ++ (c16 ++ p3)) = split10 ∙ ap (λ (x : List ℕ). c10 ++ x) (split3 ∙ ap (λ (x : List ℕ). c3 ++ x) split16) in
    let lengths : length n1 ≡ length new =
    ap length old_is ∙ length-append c10 (c3 ++ (c16 ++ p3))
    ∙ omega (arith, length-append c3 (c16 ++ p3), length-append c16 p3, length-append c10 (c3 ++ (d ++ p3)), length-append c3 (d ++ p3), length-append d p3, size16, sized) in
    let (f, whole, now, other, s1', s2', t1') = part-moved before seq0 bits m2 n1 new group m1 b1 s1 s2 t1 (ap (λ (n : ℕ). n % 8) lengths) in
    let front : List ℕ = f ++ (start_code_bits b1 ++ (c10 ++ c3)) in
    let end1 = behind_delay-ends kind delay header p3 n2 (o1, p4, u4, (o2, p5, u5, (extra, p6, u6, (e2, f2)))) in
    let end2 = (exact-behind_header seq0 header).spelled_front found n2 m3 (z1, n3, t3, (b2, n4, t4, (id, n5, t5, (cod, n6, t6, (z2, n7, t7, (loaded, n8, t8, (e3, f3))))))) in
    let (back, ends) = EndsWith-through p3 n2 m3 end1 end2 in
    let same : m3 ≡ rest = kept ∙ g in
    let p3_is : p3 ≡ back ++ rest = ends ∙ ap (λ (x : List ℕ). back ++ x) same in
    let extension : (picture_coding_extension seq0.progressive kind delay).Spells cod n5 n6 = subst (λ (h : ℕ × ℕ). (picture_coding_extension seq0.progressive h.0 h.1).Spells cod n5 n6) e2 t6 in
    let said : (seq, coding) ≡ (fold with_loaded seq0 loaded.0, cod) = e ∙ e3 in
    record {
      kind = kind;
      front = front;
      delay = c16;
      back = back;
      split = whole ∙ ap (λ (x : List ℕ). f ++ (start_code_bits b1 ++ x)) old_is ∙ regroup f (start_code_bits b1) c10 c3 (c16 ++ p3) ∙ ap (λ (x : List ℕ). front ++ (c16 ++ x)) p3_is;
      delay_bits = size16;
      place = subst (λ (x : List ℕ). (before_vbv_delay before).Spells kind bits x) (split16 ∙ ap (λ (x : List ℕ). c16 ++ x) p3_is)
          (seq0, m1, s1, (group, m2, s2, (b1, n1, t1, (temporal, p1, (c10, coded10, pass10, split10), (c3, coded3, refl, split3)))));
      again = subst (λ (x : List ℕ). (head before).Spells (seq, without_delay coding) x rest) (regroup f (start_code_bits b1) c10 c3 (d ++ p3) ∙ ap (λ (x : List ℕ). front ++ (d ++ x)) p3_is) (
        seq0,
        now,
        s1',
        (
          group,
          other,
          s2',
          (
            (fold with_loaded seq0 loaded.0, without_delay cod),
            m3,
            (
              b1,
              new,
              t1',
              (
                (kind, NO_DELAY),
                n2,
                (
                  temporal,
                  c3 ++ (d ++ p3),
                  (c10, coded10, pass10, refl),
                  (
                    kind,
                    d ++ p3,
                    (c3, coded3, pass3, refl),
                    (NO_DELAY, p3, (d, (omega arith, refl), refl, refl), (o1, p4, u4, (o2, p5, u5, (extra, p6, u6, (refl, f2))))),
                  ),
                ),
                (z1, n3, t3, (b2, n4, t4, (id, n5, t5, (without_delay cod, n6, extension-delay seq0.progressive kind delay NO_DELAY cod n5 n6 extension, (z2, n7, t7, (loaded, n8, t8, (refl, f3))))))),
              ),
            ),
            (byte, m4, (kept, after, coming), (ap (λ (p : SeqState × PicCoding). (p.0, without_delay p.1)) said, g)),
          ),
        ),
      );
    }

parted-has : (before : Option SeqState) (seq : SeqState) (coding : PicCoding) (bytes rest : List ℕ) (p : IsParted before seq coding (bit_list bytes ++ rest) rest) → AreBytes bytes
    → length rest % 8 ≡ 0
    → HasDelay bytes p.front p.delay p.back
parted-has before seq coding bytes rest p are whole = record {
  bytes = are;
  before = before;
  kind = p.kind;
  following = rest;
  whole = whole;
  parts = append_cancel_right (bit_list bytes) (p.front ++ p.delay ++ p.back) rest
      (p.split ∙ ap (λ (x : List ℕ). p.front ++ x) (sym (append_assoc p.delay p.back rest)) ∙ sym (append_assoc p.front (p.delay ++ p.back) rest) ∙ ap (λ (x : List ℕ). x ++ rest)
      (sym (append_assoc p.front p.delay p.back)));
  delay_bits = p.delay_bits;
  place = subst (λ (x : List ℕ). (before_vbv_delay before).Spells p.kind (bit_list bytes ++ rest) x) (sym (append_assoc p.delay p.back rest)) p.place;
}

-- the head of a picture has a vbv_delay
pub head-has : (before : Option SeqState) (seq : SeqState) (coding : PicCoding) (bytes rest : List ℕ) → (with_spelling (head before)).Spells ((seq, coding), bytes) (bit_list bytes ++ rest) rest
    → length rest % 8 ≡ 0
    → (front : List ℕ) × (delay : List ℕ) × (back : List ℕ) × HasDelay bytes front delay back
head-has before seq coding bytes rest (s, are, split) whole =
    let p = head-parted before seq coding (bit_list bytes ++ rest) rest s in
    (p.front, p.delay, p.back, parted-has before seq coding bytes rest p are whole)

-- and the same head without it is read the same but for that
pub without-read : (before : Option SeqState) (seq : SeqState) (coding : PicCoding) (bytes without rest : List ℕ)
    → (with_spelling (head before)).Spells ((seq, coding), bytes) (bit_list bytes ++ rest) rest
    → length rest % 8 ≡ 0 → IsHeadWithoutDelay bytes without → (with_spelling (head before)).Spells ((seq, without_delay coding), without) (bit_list without ++ rest) rest
without-read before seq coding bytes without rest (s, are, split) whole to =
    let p = head-parted before seq coding (bit_list bytes ++ rest) rest s in
    let (f, d, b) = one-place bytes to.front to.delay to.back p.front p.delay p.back to.source (parted-has before seq coding bytes rest p are whole) in
    let d16 : List ℕ = bits_of VBV_DELAY_BITS NO_DELAY in
    let bits : bit_list without ++ rest ≡ to.front ++ (d16 ++ (to.back ++ rest)) =
    ap (λ (x : List ℕ). x ++ rest) to.without ∙ append_assoc (to.front ++ d16) to.back rest ∙ append_assoc to.front d16 (to.back ++ rest) in
    (subst (λ (x : List ℕ). (head before).Spells (seq, without_delay coding) x rest) (sym (bits ∙ ap₂ (λ (x y : List ℕ). x ++ (d16 ++ (y ++ rest))) f b)) p.again, to.bytes, refl)

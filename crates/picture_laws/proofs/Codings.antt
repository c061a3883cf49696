-- The codings that headers spell.
use Rattle.std.proofs.Common.{◌≡◌, ◌≢◌, ◌⊎◌, ◌==◌, ◌&&◌, ◌||◌, ◌^◌, ◌<◌, ◌≤◌, ℕ, not, nat_eq, nat_le, List, [], ◌∷◌, Option, Bool, true, false, refl, sym, ap, subst, ◌∙◌, inl, inr, arith, eq-eqb}
use Rattle.std.specs.List.{AllByRecursion}
use Rattle.std.proofs.lemmas.Bool.{and_parts, cases_Bool, leb-true, eqb-true, both_ways}
use Rattle.syntax_types.specs.declared.picture.TheConstants.{I_PICTURE, P_PICTURE, B_PICTURE, FRAME_PICTURE}
use Rattle.syntax_types.specs.declared.picture.PicCoding.{PicCoding}
use Rattle.syntax_types.specs.declared.picture.Picture.{Picture}
use Rattle.syntax_types.specs.declared.picture.SeqState.{SeqState}
use Rattle.picture_grammar.specs.Headers.{is_f_code, picture_coding_extension}
use Rattle.picture_grammar.specs.Head.{picture_part, head}
use Rattle.picture_grammar.specs.Picture.{IsFCode, IsCoding, picture_unit}

f_code-of : (number : ℕ) → is_f_code number ≡ true → IsFCode number
f_code-of number is =
    let parts = and_parts (nat_le 1 number) (nat_le number 9) is in
    (leb-true 1 number parts.0, leb-true number 9 parts.1)

-- a rule that counts where something is so
needed : (so rule : Bool) → (not so || rule) && true ≡ true → so ≡ true → rule ≡ true
needed so rule passing is = (and_parts rule true (sym (ap (λ (b : Bool). (not b || rule) && true) is) ∙ passing)).0

is_p_or_b : (kind : ℕ) → 1 ≤ kind → kind ≤ 3 → kind ≢ 1 → (kind == P_PICTURE || kind == B_PICTURE) ≡ true
is_p_or_b kind least most other = elim (cases_Bool (nat_eq kind 2)) [
  | inl p ↦ ap (λ (b : Bool). b || nat_eq kind 3) p
  | inr n ↦
      let three : kind ≡ 3 = elim (cases_Bool (nat_eq kind 3)) [
        | inl b ↦ eqb-true kind 3 b
        | inr m ↦ absurd (both_ways (nat_eq kind 2) n (eq-eqb kind 2 (apart m)))
      ] in
      ap (λ (b : Bool). b || nat_eq kind 3) n ∙ eq-eqb kind 3 three
] where
  apart : nat_eq kind 3 ≡ false → kind ≡ 2
  apart m = let three : (kind ≡ 3) → ⊥ = λ e. both_ways (nat_eq kind 3) m (eq-eqb kind 3 e) in omega (arith, least, most, other, three)

coding-of_extension : (progressive : Bool) (kind vbv_delay : ℕ) (coding : PicCoding) (bits rest : List ℕ) → 1 ≤ kind → kind ≤ 3 → vbv_delay < 2 ^ 16
    → (picture_coding_extension progressive kind vbv_delay).Spells coding bits rest → IsCoding coding
coding-of_extension progressive kind vbv_delay coding bits rest least most fits (
  fh,
  m1,
  (c1, (fit1, i1), p1, e1),
  (
    fv,
    m2,
    (c2, (fit2, i2), p2, e2),
    (
      bh,
      m3,
      (c3, (fit3, i3), p3, e3),
      (
        bv,
        m4,
        (c4, (fit4, i4), p4, e4),
        (
          dc,
          m5,
          (c5, (fit5, i5), p5, e5),
          (
            structure,
            m6,
            (c6, (fit6, i6), p6, e6),
            (
              top,
              m7,
              s7,
              (
                frame,
                m8,
                (c8, i8, p8, e8),
                (
                  concealment,
                  m9,
                  (c9, i9, p9, e9),
                  (
                    q,
                    m10,
                    s10,
                    (
                      vlc,
                      m11,
                      s11,
                      (
                        scan,
                        m12,
                        s12,
                        (repeat, m13, s13, (chroma, m14, s14, (progressive_frame, m15, s15, (composite, m16, s16, (extra, m17, s17, (e, f)))))),
                      ),
                    ),
                  ),
                ),
              ),
            ),
          ),
        ),
      ),
    ),
  ),
) =
    let p_or_b = kind == P_PICTURE || kind == B_PICTURE in
    let some = (and_parts (not (nat_eq structure 0)) ((not progressive || nat_eq structure 3) && true) p6).0 in
    let structure_some : (structure ≡ 0) → ⊥ = λ z. both_ways (not (nat_eq structure 0)) (ap not (eq-eqb structure 0 z)) some in
    let forward : (kind ≢ I_PICTURE) ⊎ (concealment ≡ true) → AllByRecursion IsFCode (fh ∷ fv ∷ []) = λ why. elim why [
      | inl other ↦
          let is = is_p_or_b kind least most other in
          (f_code-of fh (needed p_or_b (is_f_code fh) p1 is), (f_code-of fv (needed p_or_b (is_f_code fv) p2 is), tt))
      | inr set ↦
          let both = and_parts (is_f_code fh) (is_f_code fv) (needed concealment (is_f_code fh && is_f_code fv) p9 set) in
          (f_code-of fh both.0, (f_code-of fv both.1, tt))
    ] in
    let backward : kind ≡ B_PICTURE → AllByRecursion IsFCode (bh ∷ bv ∷ []) = λ is.
    let b = eq-eqb kind B_PICTURE is in
    (f_code-of bh (needed (kind == B_PICTURE) (is_f_code bh) p3 b), (f_code-of bv (needed (kind == B_PICTURE) (is_f_code bv) p4 b), tt)) in
    subst IsCoding (sym e) (record {
      kind = (least, most);
      vbv_delay = fits;
      f_code = (refl, ((refl, (fit1, (fit2, tt))), ((refl, (fit3, (fit4, tt))), tt)));
      forward = forward;
      backward = backward;
      dc_precision = fit5;
      structure = (omega (arith, structure_some), omega (arith, fit6));
      frame_pred_frame_dct = λ is. eqb-true structure FRAME_PICTURE (needed frame (structure == FRAME_PICTURE) p8 is);
    })

coding-of_part : (seq : SeqState) (found : SeqState × PicCoding) (bits rest : List ℕ) → (picture_part seq).Spells found bits rest → IsCoding found.1
coding-of_part seq found bits rest (
  byte,
  m1,
  s1,
  (
    header,
    m2,
    (reference, m3, s3, (kind, m4, (c4, (fit4, i4), p4, e4), (delay, m5, (c5, (fit5, i5), p5, e5), (old, m6, s6, (older, m7, s7, (extra, m8, s8, (h, h'))))))),
    (closing, m9, s9, (byte', m10, s10, (identifier, m11, s11, (coding, m12, s12, (filling, m13, s13, (loaded, m14, s14, (e, f))))))),
  ),
) =
    let range = and_parts (nat_le 1 kind) (nat_le kind 3) (and_parts (nat_le 1 kind && nat_le kind 3) true p4).0 in
    let s : (picture_coding_extension seq.progressive kind delay).Spells coding m11 m12 = subst (λ (x : ℕ × ℕ). (picture_coding_extension seq.progressive x.0 x.1).Spells coding m11 m12) h s12 in
    let is = coding-of_extension seq.progressive kind delay coding m11 m12 (leb-true 1 kind range.0) (leb-true kind 3 range.1) fit5 s in
    subst (λ (x : SeqState × PicCoding). IsCoding x.1) (sym e) is

pub coding-of_head : (before : Option SeqState) (found : SeqState × PicCoding) (bits rest : List ℕ) → (head before).Spells found bits rest → IsCoding found.1
unfolding head
coding-of_head before found bits rest (seq, m1, s1, (group, m2, s2, (headers, m3, s3, (byte, m4, s4, (h, h'))))) =
    subst (λ (x : SeqState × PicCoding). IsCoding x.1) (sym h) (coding-of_part seq headers m2 m3 s3)

pub coding-of_unit : (before : Option SeqState) (picture : Picture) (bits rest : List ℕ) → (picture_unit before).Spells picture bits rest → IsCoding picture.coding
unfolding picture_unit
coding-of_unit before picture bits rest (headers, m, (s, are, split), (slices, m', t, (e, f))) =
    subst (λ (p : Picture). IsCoding p.coding) (sym e) (coding-of_head before headers.0 bits m s)

-- The states that headers spell may be in force.
use Rattle.std.proofs.Common.{◌≡◌, ℕ, zero, suc, ◌^◌, ◌<◌, ◌≤◌, Option, Some, None, List, [], ◌∷◌, ◌++◌, Bool, true, false, refl, sym, ◌∙◌, ap, subst, inl, inr, length, arith, unwrap_or}
use Rattle.std.specs.Prelude.{◌==◌, ◌&&◌, not, nat_le, nat_lt, fold, map, slice_index, position}
use Rattle.std.specs.List.{AllByRecursion, list_all, range_with_len}
use Rattle.std.proofs.lemmas.Bool.{and_parts, ltb-true, leb-true, eqb-false, not-true}
use Rattle.std.proofs.lemmas.List.FromFn.{length-map-range_with_len}
use Rattle.std.proofs.lemmas.List.Quantifiers.{position-Some}
use Rattle.std.proofs.lemmas.Option.{none-some, same_Some}
use Rattle.quant_math.specs.Matrices.{default_weights}
use Rattle.quant_math.specs.Scans.{zigzag_scan}
use Rattle.syntax_types.specs.declared.picture.PicCoding.{PicCoding}
use Rattle.syntax_types.specs.declared.picture.Picture.{Picture}
use Rattle.syntax_types.specs.declared.picture.SeqState.{SeqState}
use Rattle.picture_grammar.specs.declared.limits.TheConstants.{WIDTH_LEAST, WIDTH_MOST, HEIGHT_LEAST, HEIGHT_MOST, RATE_CODE_MOST}
use Rattle.stream_constants.specs.declared.main_level.TheConstants.{VBV_MOST}
use Rattle.stream_constants.specs.declared.start_codes.TheConstants.{EXTENSION, QUANT_MATRIX}
use Rattle.picture_grammar.specs.Refusal.Refusal.{BadHeader}
use Rattle.picture_grammar.specs.Element.{uimsbf, rule}
use Rattle.picture_grammar.specs.Grammar.{SpellsList, optional, when, repeated}
use Rattle.picture_grammar.specs.Grammar.Next.{more, last}
use Rattle.picture_grammar.specs.Headers.{Loaded, is_not_zero, is_from_to, matrix_if_loaded, in_raster_order, matrix_or, sequence_header, quant_matrix_extension, with_loaded}
use Rattle.picture_grammar.specs.Head.{no_matrix, extension, extension_or_user_data, sequence_headers, sequence_part, picture_part, head}
use Rattle.picture_grammar.specs.Picture.{AreWeights, MayPrecede, IsState, picture_unit}

-- ---- matrices

abbrev IsWeight : ℕ → Type 0
IsWeight weight = (0 < weight) × (weight < 2 ^ 8)

weight_is : (weight : ℕ) (bits rest : List ℕ) → (uimsbf 8 (rule BadHeader is_not_zero ∷ [])).Spells weight bits rest → IsWeight weight
weight_is weight bits rest (code, (fits, same), passing, split) =
    let some : not (weight == 0) ≡ true = (and_parts (not (weight == 0)) true passing).0 in
    let other : weight ≡ 0 → ⊥ = eqb-false weight 0 (not-true (weight == 0) some) in
    (omega arith, fits)

weights_are : (n : ℕ) (weights bits rest : List ℕ) → (repeated n (uimsbf 8 (rule BadHeader is_not_zero ∷ []))).Spells weights bits rest → (length weights ≡ n) × AllByRecursion IsWeight weights
weights_are zero weights bits rest (e, f) = (ap length e, subst (AllByRecursion IsWeight) (sym e) tt)
weights_are (suc n) weights bits rest (w, m, s, (ws, m', t, (e, f))) =
    let others = weights_are n ws m m' t in
    (ap length e ∙ ap suc others.0, subst (AllByRecursion IsWeight) (sym e) (weight_is w bits m s, others.1))

-- what is loaded, if anything, are weights
abbrev AreLoaded : Option (List ℕ) → Type 0
AreLoaded found = (weights : List ℕ) → found ≡ Some weights → AreWeights weights

loaded_matrix : (load : Bool) (found : Option (List ℕ)) (bits rest : List ℕ) → (optional load (repeated 64 (uimsbf 8 (rule BadHeader is_not_zero ∷ [])))).Spells found bits rest → AreLoaded found
loaded_matrix true found bits rest (weights, m, s, (e, f)) = λ ws is. subst AreWeights (same_Some weights ws (sym e ∙ is)) (weights_are 64 weights bits m s)
loaded_matrix false found bits rest (e, f) = λ ws is. absurd (none-some ws (sym e ∙ is))

matrix_is : (found : Option (List ℕ)) (bits rest : List ℕ) → matrix_if_loaded.Spells found bits rest → AreLoaded found
matrix_is found bits rest (load, m, s, t) = loaded_matrix load found m rest t

-- ---- weights in raster order

at_place : (weights : List ℕ) (i : ℕ) → i < length weights → AllByRecursion IsWeight weights → IsWeight (slice_index weights i)
at_place [] i below all = absurd (omega arith)
at_place (w ∷ ws) zero below all = all.0
at_place (w ∷ ws) (suc i) below all = at_place ws i (omega arith) all.1

all_map : (f : ℕ → ℕ) (is : List ℕ) → ((i : ℕ) → IsWeight (f i)) → AllByRecursion IsWeight (map f is)
all_map f [] each = tt
all_map f (i ∷ is) each = (each i, all_map f is each)

place_within : (found : Option ℕ) (index : ℕ) → found ≡ position (λ x. x == index) zigzag_scan → unwrap_or found 0 < 64
place_within None index is = omega arith
place_within (Some k) index is = (position-Some (λ x. x == index) zigzag_scan k 0 (sym is)).0

raster_weights : (weights : List ℕ) → AreWeights weights → AreWeights (in_raster_order weights)
raster_weights weights are = (
  length-map-range_with_len (λ index. slice_index weights (unwrap_or (position (λ x. x == index) zigzag_scan) 0)) 0 64,
  all_map (λ index. slice_index weights (unwrap_or (position (λ x. x == index) zigzag_scan) 0)) (range_with_len 0 64)
      (λ index. at_place weights (unwrap_or (position (λ x. x == index) zigzag_scan) 0)
      (let below : unwrap_or (position (λ x. x == index) zigzag_scan) 0
      < 64 = place_within (position (λ x. x == index) zigzag_scan) index refl in omega (arith, below, are.0)) are.1),
)

matrix_or-weights : (found : Option (List ℕ)) (matrix : List ℕ) → AreLoaded found → AreWeights matrix → AreWeights (matrix_or found matrix)
matrix_or-weights None matrix loaded are = are
matrix_or-weights (Some weights) matrix loaded are = raster_weights weights (loaded weights refl)

by_test : (weights : List ℕ) → list_all (λ w. nat_lt 0 w && nat_lt w 256) weights ≡ true → AllByRecursion IsWeight weights
by_test [] passes = tt
by_test (w ∷ ws) passes =
    let parts = and_parts (nat_lt 0 w && nat_lt w 256) (list_all (λ w. nat_lt 0 w && nat_lt w 256) ws) passes in
    let first = and_parts (nat_lt 0 w) (nat_lt w 256) parts.0 in
    ((ltb-true 0 w first.0, ltb-true w 256 first.1), by_test ws parts.1)

pub default_are : (intra : Bool) → AreWeights (default_weights intra)
default_are true = (refl, by_test (default_weights true) refl)
default_are false = (refl, by_test (default_weights false) refl)

-- ---- states

-- a number between two bounds, by the rules of its field
between : (least most : ℕ) (number : ℕ) (others : Bool) → (is_from_to least most number && others) ≡ true → (least ≤ number) × (number ≤ most)
between least most number others passing =
    let parts = and_parts (nat_le least number) (nat_le number most) (and_parts (is_from_to least most number) others passing).0 in
    (leb-true least number parts.0, leb-true number most parts.1)

state-of_header : (before : Option SeqState) (seq : SeqState) (bits rest : List ℕ) → (sequence_header before).Spells seq bits rest → IsState seq
state-of_header before seq bits rest (
  width,
  m1,
  (c1, i1, p1, e1),
  (
    height,
    m2,
    (c2, i2, p2, e2),
    (
      aspect,
      m3,
      s3,
      (
        rate,
        m4,
        (c4, i4, p4, e4),
        (
          bit_rate,
          m5,
          s5,
          (
            marker,
            m6,
            s6,
            (vbv, m7, (c7, i7, p7, e7), (constrained, m8, s8, (intra, m9, s9, (non_intra, m10, s10, (e, f))))),
          ),
        ),
      ),
    ),
  ),
) =
    subst IsState (sym e) (record {
      width = between WIDTH_LEAST WIDTH_MOST width _ p1;
      height = between HEIGHT_LEAST HEIGHT_MOST height _ p2;
      rate_code = between 1 RATE_CODE_MOST rate _ p4;
      vbv = between 1 VBV_MOST vbv _ p7;
      intra = matrix_or-weights intra (default_weights true) (matrix_is intra m8 m9 s9) (default_are true);
      non_intra = matrix_or-weights non_intra (default_weights false) (matrix_is non_intra m9 m10 s10) (default_are false);
    })

state-of_headers : (before : Option SeqState) (seq : SeqState) (bits rest : List ℕ) → (sequence_headers before).Spells seq bits rest → IsState seq
state-of_headers before seq bits rest (b1, m1, s1, (found, m2, s2, (z1, m3, s3, (b2, m4, s4, (id, m5, s5, (progressive, m6, s6, (z2, m7, s7, (extra, m8, s8, (e, f))))))))) =
    let is : IsState found = state-of_header before found m1 m2 s2 in
    subst IsState (sym e) (record { width = is.width; height = is.height; rate_code = is.rate_code; vbv = is.vbv; intra = is.intra; non_intra = is.non_intra })

state-of_part : (before : Option SeqState) (seq : SeqState) (bits rest : List ℕ) → MayPrecede before → (sequence_part before).Spells seq bits rest → IsState seq
state-of_part None seq bits rest may s = state-of_headers None seq bits rest s
state-of_part (Some state) seq bits rest may (inl (comes, s)) = state-of_headers (Some state) seq bits rest s
state-of_part (Some state) seq bits rest may (inr (comes, (e, f))) = subst IsState (sym e) may

-- ---- matrices that extensions of the picture load

abbrev HasLoaded : Loaded → Type 0
HasLoaded loaded = AreLoaded loaded.intra × AreLoaded loaded.non_intra

quant_matrix-loaded : (loaded : Loaded) (bits rest : List ℕ) → quant_matrix_extension.Spells loaded bits rest → HasLoaded loaded
quant_matrix-loaded loaded bits rest (intra, m1, s1, (non_intra, m2, s2, (f1, m3, s3, (f2, m4, s4, (e, f))))) =
    subst HasLoaded (sym e) (matrix_is intra bits m1 s1, matrix_is non_intra m1 m2 s2)

nothing_loaded : HasLoaded no_matrix
nothing_loaded = (λ ws is. absurd (none-some ws is), λ ws is. absurd (none-some ws is))

when_loaded : (is : Bool) (loaded : Loaded) (bits rest : List ℕ) → (when is quant_matrix_extension no_matrix).Spells loaded bits rest → HasLoaded loaded
when_loaded true loaded bits rest s = quant_matrix-loaded loaded bits rest s
when_loaded false loaded bits rest (e, f) = subst HasLoaded (sym e) nothing_loaded

extension-loaded : (is : Bool) (identifiers : ℕ → Bool) (loaded : Loaded) (bits rest : List ℕ) → (when is (extension identifiers) no_matrix).Spells loaded bits rest → HasLoaded loaded
extension-loaded true identifiers loaded bits rest (id, m1, s1, (found, m2, s2, (z, m3, s3, (u, m4, s4, (e, f))))) = subst HasLoaded (sym e) (when_loaded (id == QUANT_MATRIX) found m1 m2 s2)
extension-loaded false identifiers loaded bits rest (e, f) = subst HasLoaded (sym e) nothing_loaded

module _ (start_codes identifiers : ℕ → Bool) where
  next_loaded : (before : List Loaded) (loaded : Loaded) (bits middle : List ℕ) → (extension_or_user_data start_codes identifiers before).Spells (more loaded) bits middle → HasLoaded loaded
  next_loaded before loaded bits middle (inl (comes, (byte, m1, s1, (found, m2, s2, (u, m3, s3, (e, f)))))) =
      let same : more loaded ≡ more found = e in
      let is : found ≡ loaded = cc in
      subst HasLoaded is (extension-loaded (byte == EXTENSION) identifiers found m1 m2 s2)
  next_loaded before loaded bits middle (inr (comes, (e, f))) = absurd (let e' : more loaded ≡ last (tt {0}) = e in cc)

  all_loaded : (before loaded : List Loaded) (bits rest : List ℕ) → SpellsList (extension_or_user_data start_codes identifiers) before loaded (tt {0}) bits rest → AllByRecursion HasLoaded loaded
  all_loaded before [] bits rest s = tt
  all_loaded before (l ∷ ls) bits rest (middle, s, t) = (next_loaded before l bits middle s, all_loaded (before ++ l ∷ []) ls middle rest t)

with_all : (seq : SeqState) (loaded : List Loaded) → IsState seq → AllByRecursion HasLoaded loaded → IsState (fold with_loaded seq loaded)
with_all seq [] is all = is
with_all seq (l ∷ ls) is all = with_all (with_loaded seq l) ls (record {
  width = is.width;
  height = is.height;
  rate_code = is.rate_code;
  vbv = is.vbv;
  intra = matrix_or-weights l.intra seq.intra all.0.0 is.intra;
  non_intra = matrix_or-weights l.non_intra seq.non_intra all.0.1 is.non_intra;
}) all.1

state-of_picture_part : (seq : SeqState) (found : SeqState × PicCoding) (bits rest : List ℕ) → IsState seq → (picture_part seq).Spells found bits rest → IsState found.0
state-of_picture_part seq found bits rest is (b1, m1, s1, (header, m2, s2, (z1, m3, s3, (b2, m4, s4, (id, m5, s5, (coding, m6, s6, (z2, m7, s7, (loaded, m8, s8, (e, f))))))))) =
    subst IsState (sym (ap (λ (x : SeqState × PicCoding). x.0) e)) (with_all seq loaded.0 is (all_loaded _ _ [] loaded.0 m7 m8 s8))

-- the state in force behind a head
pub state-of_head : (before : Option SeqState) (found : SeqState × PicCoding) (bits rest : List ℕ) → MayPrecede before → (head before).Spells found bits rest → IsState found.0
unfolding head
state-of_head before found bits rest may (seq, m1, s1, (group, m2, s2, (headers, m3, s3, (next, m4, s4, (e, f))))) =
    subst IsState (sym (ap (λ (x : SeqState × PicCoding). x.0) e)) (state-of_picture_part seq headers m2 m3 (state-of_part before seq bits m1 may s1) s3)

-- the state in force behind a unit
pub state-of_unit : (before : Option SeqState) (picture : Picture) (bits rest : List ℕ) → MayPrecede before → (picture_unit before).Spells picture bits rest → IsState picture.seq
unfolding picture_unit
state-of_unit before picture bits rest may (headers, m, (s, are, split), (slices, m', t, (e, f))) =
    subst (λ (p : Picture). IsState p.seq) (sym e) (state-of_head before headers.0 bits m may s)

-- How many bits a macroblock is written in.
use Rattle.std.proofs.Common.{◌≡◌, ℕ, zero, suc, ◌+◌, ◌-◌, ◌*◌, ◌/◌, ◌^◌, ◌<◌, ◌≤◌, ℤ, pos, negsuc, unsigned_abs, List, [], ◌∷◌, ◌++◌, Bool, true, false, ap, ◌∙◌, arith, length}
use Rattle.std.specs.Prelude.{◌==◌, int_lt, slice_index, slice_index_or, if◌then◌else◌}
use Rattle.std.specs.List.{AllByRecursion, flat_map, range_with_len}
use Rattle.std.proofs.lemmas.List.{length-append}
use Rattle.std.proofs.lemmas.List.FromFn.{length-range_with_len}
use Rattle.bit_lists.specs.Bits.{bits_of}
use Rattle.bit_lists.specs.Fields.{flag}
use Rattle.bit_lists.proofs.BitLemmas.{length-bits_of}
use Rattle.prefix_codes.specs.declared.symbol.TheConstants.{ADDRESS_ESCAPE}
use Rattle.prefix_codes.specs.declared.table_name.TableName.TheVariants.{Address, Motion, Pattern}
use Rattle.syntax_types.specs.declared.macroblock.TheConstants.{FIELD_BASED, SIXTEEN_BY_EIGHT}
use Rattle.syntax_types.specs.declared.macroblock.Macroblock.{Macroblock}
use Rattle.syntax_types.specs.declared.macroblock.Vector.{Vector}
use Rattle.syntax_types.specs.declared.picture.PicCoding.{PicCoding}
use Rattle.picture_grammar.specs.Grammar.{Grammar, repeated, when}
use Rattle.picture_grammar.specs.Macroblock.{block_way, f_codes, has_concealment, has_dct_type, has_motion_type, is_coded, is_frame, motion_format, no_block, type_symbol, type_table}
use Rattle.picture_grammar.specs.Motion.{MotionFormat, dmvector_code, field_motion, frame_motion, has_residual, motion_vector, motion_vectors}
use Rattle.picture_grammar.specs.Picture.{IsCoding}
use Rattle.picture_grammar.specs.Written.{if_any, written_coded_block, written_increment, written_macroblock, written_part, written_vector, written_vector_part}
use Rattle.prefix_codes.specs.TableName.{code_for}
use Rattle.picture_laws.specs.Spellable.{AreSpellableBlocks, HasSpellableParts}
use Rattle.picture_laws.proofs.WrittenBlocks.{blocks-of}
use Rattle.version_laws.proofs.BlockBits.{coded-short}
use Rattle.version_laws.proofs.Codes.{code-short, flat-short, if_any-short, numbers-short, unless-short, where-short}

-- ---- vectors

sign-short : (code : ℤ) → length (flag (int_lt code (pos 0)) ∷ []) ≤ 1
sign-short code = omega arith

part-short : (f_code : ℕ) (code : ℤ) (residual : ℕ) → f_code ≤ 15 → length (written_part f_code code residual) ≤ 32
part-short f_code code residual small =
    let first : List ℕ = code_for Motion (unsigned_abs code) in
    let second : List ℕ = if unsigned_abs code == 0 then [] else flag (int_lt code (pos 0)) ∷ [] in
    let third : List ℕ = if has_residual f_code (unsigned_abs code) then bits_of (f_code - 1) residual else [] in
    omega (
      arith,
      length-append (first ++ second) third,
      length-append first second,
      code-short Motion (unsigned_abs code),
      unless-short (unsigned_abs code == 0) (flag (int_lt code (pos 0)) ∷ []) 1 (sign-short code),
      where-short (has_residual f_code (unsigned_abs code)) (bits_of (f_code - 1) residual) 14 (omega (arith, length-bits_of (f_code - 1) residual, small)),
    )

dual-short : (z : ℤ) → length (dmvector_code z) ≤ 2
dual-short (pos zero) = omega arith
dual-short (pos (suc n)) = omega arith
dual-short (negsuc n) = omega arith

vector_part-short : (codes : List ℕ) (vector : Vector) (part : ℕ) → slice_index codes part ≤ 15 → length (written_vector_part codes vector part) ≤ 34
vector_part-short codes vector part small =
    let code : ℤ = slice_index_or vector.code part (pos 0) in
    let residual : ℕ = slice_index vector.residual part in
    let dual : List ℕ = if_any (λ (d : List ℤ). dmvector_code (slice_index_or d part (pos 0))) vector.dual in
    omega (
      arith,
      length-append (written_part (slice_index codes part) code residual) dual,
      part-short (slice_index codes part) code residual small,
      if_any-short (λ (d : List ℤ). dmvector_code (slice_index_or d part (pos 0))) 2 (λ d. dual-short (slice_index_or d part (pos 0))) vector.dual,
    )

-- the f_codes of a direction are numbers of 4 bits
rows-small : (rows : List (List ℕ)) (i : ℕ) → AllByRecursion (λ codes. (length codes ≡ 2) × AllByRecursion (λ number. number < 2 ^ 4) codes) rows
    → AllByRecursion (λ number. number < 2 ^ 4) (slice_index_or rows i [])
rows-small [] i all = tt
rows-small (r ∷ rs) zero all = all.0.1
rows-small (r ∷ rs) (suc i) all = rows-small rs i all.1

number-small : (codes : List ℕ) (i : ℕ) → AllByRecursion (λ number. number < 2 ^ 4) codes → slice_index codes i ≤ 15
number-small [] i all = omega arith
number-small (c ∷ cs) zero all = omega (arith, all.0)
number-small (c ∷ cs) (suc i) all = number-small cs i all.1

vector-short : (codes : List ℕ) → AllByRecursion (λ number. number < 2 ^ 4) codes → (vector : Vector) → length (written_vector codes vector) ≤ 69
vector-short codes all vector =
    let select : List ℕ = if_any (λ (field : Bool). flag field ∷ []) vector.select in
    omega (
      arith,
      length-append (select ++ written_vector_part codes vector 0) (written_vector_part codes vector 1),
      length-append select (written_vector_part codes vector 0),
      if_any-short (λ (field : Bool). flag field ∷ []) 1 (λ field. omega arith) vector.select,
      vector_part-short codes vector 0 (number-small codes 0 all),
      vector_part-short codes vector 1 (number-small codes 1 all),
    )

repeated-length : {A : Type 0} (n : ℕ) (grammar : Grammar A) (values : List A) (bits rest : List ℕ) → (repeated n grammar).Spells values bits rest → length values ≡ n
repeated-length zero grammar values bits rest (e, f) = ap length e
repeated-length (suc n) grammar values bits rest (v, m, s, (vs, m', t, (e, f))) = ap length e ∙ ap suc (repeated-length n grammar vs m m' t)

one_or_two : (two : Bool) → (if two then 2 else 1) ≤ 2
one_or_two true = omega arith
one_or_two false = omega arith

format-few : (frame : Bool) (motion_type : ℕ) → (let format : MotionFormat = if frame then frame_motion motion_type else field_motion motion_type in format.count) ≤ 2
format-few true motion_type = one_or_two (motion_type == FIELD_BASED)
format-few false motion_type = one_or_two (motion_type == SIXTEEN_BY_EIGHT)

few-vectors : (stand : Bool) (codes : List ℕ) (coding : PicCoding) (motion_type : ℕ) (vectors : List Vector) (bits rest : List ℕ)
    → (when stand (motion_vectors codes (motion_format coding motion_type)) []).Spells vectors bits rest → length vectors ≤ 2
few-vectors true codes coding motion_type vectors bits rest s =
    let format : MotionFormat = motion_format coding motion_type in
    let count : length vectors ≡ format.count = repeated-length format.count (motion_vector codes format) vectors bits rest s in
    let few : format.count ≤ 2 = format-few (is_frame coding) motion_type in
    omega (arith, count, few)
few-vectors false codes coding motion_type vectors bits rest (e, f) = omega (arith, ap length e)

vectors-short : (coding : PicCoding) (direction : ℕ) (vectors : List Vector) → IsCoding coding → length vectors ≤ 2 → length (flat_map (written_vector (f_codes coding direction)) vectors) ≤ 138
vectors-short coding direction vectors is few =
    omega (arith, flat-short (written_vector (f_codes coding direction)) 69 (vector-short (f_codes coding direction) (rows-small coding.f_code direction is.f_code.1)) vectors, few)

-- ---- the other parts

increment-short : (increment : ℕ) → length (written_increment increment) ≤ increment + 17
increment-short increment =
    let escapes : ℕ = (increment - 1) / 33 in
    let front : List ℕ = flat_map (λ _. code_for Address ADDRESS_ESCAPE) (range_with_len 0 escapes) in
    omega (
      arith,
      length-append front (code_for Address (increment - 33 * escapes)),
      flat-short (λ (_ : ℕ). code_for Address ADDRESS_ESCAPE) 17 (λ _. code-short Address ADDRESS_ESCAPE) (range_with_len 0 escapes),
      length-range_with_len 0 escapes,
      code-short Address (increment - 33 * escapes),
    )

blocks-short : (coding : PicCoding) (m : Macroblock) → AreSpellableBlocks coding m.kind m.pattern m.blocks → length (flat_map (written_coded_block coding m) (range_with_len 0 6)) ≤ 13800
blocks-short coding m are = numbers-short (written_coded_block coding m) 2300 0 6 (λ i below. coded-short (is_coded m.kind m.pattern i) (block_way coding m.kind i)
    (slice_index_or m.blocks i no_block) (are.each i (omega (arith, below))))

ten_parts : (a b c d e f g h i j : List ℕ) → length (a ++ b ++ c ++ d ++ e ++ f ++ g ++ h ++ i ++ j)
    ≡ length a + length b + length c + length d + length e + length f + length g + length h + length i + length j
ten_parts a b c d e f g h i j = omega (
  arith,
  length-append (a ++ b ++ c ++ d ++ e ++ f ++ g ++ h ++ i) j,
  length-append (a ++ b ++ c ++ d ++ e ++ f ++ g ++ h) i,
  length-append (a ++ b ++ c ++ d ++ e ++ f ++ g) h,
  length-append (a ++ b ++ c ++ d ++ e ++ f) g,
  length-append (a ++ b ++ c ++ d ++ e) f,
  length-append (a ++ b ++ c ++ d) e,
  length-append (a ++ b ++ c) d,
  length-append (a ++ b) c,
  length-append a b,
)

-- a macroblock that some bits spell is written in at most 14,200 bits, and one more for each column that it holds
pub macroblock-short : (coding : PicCoding) (first : Bool) (columns_left : ℕ) (m : Macroblock) → IsCoding coding → HasSpellableParts coding first columns_left m
    → length (written_macroblock coding m) ≤ 14200 + (m.skipped_before + 1)
unfolding written_macroblock
macroblock-short coding first columns_left m is has =
    let motion : List ℕ = if has_motion_type coding m.kind then bits_of 2 m.motion_type else [] in
    let field : List ℕ = if has_dct_type coding m.kind then flag m.field_dct ∷ [] else [] in
    let marker : List ℕ = if has_concealment coding m.kind then 1 ∷ [] else [] in
    let pattern : List ℕ = if m.kind.pattern then code_for Pattern m.pattern else [] in
    omega (
      arith,
      ten_parts (written_increment (m.skipped_before + 1)) (code_for (type_table coding) (type_symbol m.kind)) motion field (if_any (bits_of 5) m.code)
          (flat_map (written_vector (f_codes coding 0)) m.forward.items) (flat_map (written_vector (f_codes coding 1)) m.backward.items) marker pattern
          (flat_map (written_coded_block coding m) (range_with_len 0 6)),
      increment-short (m.skipped_before + 1),
      code-short (type_table coding) (type_symbol m.kind),
      where-short (has_motion_type coding m.kind) (bits_of 2 m.motion_type) 2 (omega (arith, length-bits_of 2 m.motion_type)),
      where-short (has_dct_type coding m.kind) (flag m.field_dct ∷ []) 1 (omega arith),
      if_any-short (bits_of 5) 5 (λ code. omega (arith, length-bits_of 5 code)) m.code,
      vectors-short coding 0 m.forward.items is (few-vectors _ (f_codes coding 0) coding m.motion_type m.forward.items has.forward.bits has.forward.rest has.forward.spelled),
      vectors-short coding 1 m.backward.items is (few-vectors _ (f_codes coding 1) coding m.motion_type m.backward.items has.backward.bits has.backward.rest has.backward.spelled),
      where-short (has_concealment coding m.kind) (1 ∷ []) 1 (omega arith),
      where-short m.kind.pattern (code_for Pattern m.pattern) 17 (code-short Pattern m.pattern),
      blocks-short coding m (blocks-of coding m.kind m.pattern m.blocks has.blocks),
    )

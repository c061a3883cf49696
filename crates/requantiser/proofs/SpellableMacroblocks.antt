-- Macroblocks of a version that some bits spell.
use Rattle.std.proofs.Common.{
  ◌≡◌,
  ◌≢◌,
  ◌⊎◌,
  ◌+◌,
  ◌-◌,
  ◌<◌,
  ◌==◌,
  ◌&&◌,
  ◌||◌,
  ℕ,
  zero,
  suc,
  ℤ,
  pos,
  negsuc,
  unsigned_abs,
  not,
  Option,
  Some,
  None,
  List,
  [],
  ◌∷◌,
  length,
  Bool,
  true,
  false,
  if◌then◌else◌,
  refl,
  sym,
  ◌∙◌,
  ap,
  subst,
  inl,
  inr,
  arith,
  get_or,
}
use Rattle.std.specs.Prelude.{slice_index_or, slice_set, is_some}
use Rattle.std.specs.Int.{bit_at, int_signum}
use Rattle.std.specs.List.{AllByRecursion}
use Rattle.std.proofs.lemmas.Bool.{cases_Bool, cases_eq, eqb-true, eq-eqb}
use Rattle.std.proofs.lemmas.List.{same_lists, get_or_default, get_or-replicate, get_or-set_same, get_or-set_other}
use Rattle.std.proofs.lemmas.Nat.Bits.{bit_at-zero}
use Rattle.prefix_codes.specs.declared.table_name.TableName.TheVariants.{Pattern}
use Rattle.quant_math.specs.Scales.{IsCode}
use Rattle.syntax_types.specs.declared.block.Block.{Block}
use Rattle.syntax_types.specs.declared.block.BlockWay.{BlockWay}
use Rattle.syntax_types.specs.declared.macroblock.TheConstants.{BLOCKS}
use Rattle.syntax_types.specs.declared.macroblock.Kind.{Kind}
use Rattle.syntax_types.specs.declared.macroblock.Macroblock.{Macroblock}
use Rattle.syntax_types.specs.declared.macroblock.Vector.{Vector}
use Rattle.syntax_types.specs.declared.picture.PicCoding.{PicCoding}
use Rattle.syntax_types.specs.declared.picture.SeqState.{SeqState}
use Rattle.picture_grammar.specs.Refusal.Refusal.{BadPattern}
use Rattle.picture_grammar.specs.Grammar.{optional, when}
use Rattle.picture_grammar.specs.Element.{vlclbf, one_flag}
use Rattle.picture_grammar.specs.Block.{dc_coefficient}
use Rattle.picture_grammar.specs.Motion.{motion_vectors}
use Rattle.picture_grammar.specs.Macroblock.{
  address_increment,
  most_increment,
  macroblock_type,
  motion_type,
  dct_type,
  has_dct_type,
  has_forward,
  f_codes,
  motion_format,
  quantiser_scale_code,
  block_way,
  is_coded,
  no_block,
}
use Rattle.picture_laws.specs.Spellable.{IsSpellable, IsSpellableBlock, AreSpellableBlocks, HasSpellableParts}
use Rattle.picture_laws.proofs.WrittenBlocks.{of_blocks, blocks-of}
use Rattle.requantiser.specs.Blocks.{IsCoarserBlock, AreCoarserBlocks, no_blocks, block_of_one}
use Rattle.requantiser.specs.Levels.{level_at}
use Rattle.requantiser.specs.Macroblocks.{has_coefficients, pattern_of, HasBlocks, IsCoarserMacroblock}
use Rattle.requantiser.proofs.Blocks.{coarsened_block-is, one_coarser_block}
use Rattle.requantiser.proofs.Macroblocks.{empty_block}
use Rattle.requantiser.proofs.Made.{FitBlocks}
use Rattle.requantiser.proofs.SpellableBlocks.{IsFine, fine-blocks, shown, not-shown, dc-none, none-dc, pattern-bit, pattern-zero, pattern-small}
use Rattle.requantiser.proofs.SpellableElements.{code-spelled, pattern-spelled, may_be, kind-spelled, no-nothing}

-- ---- parts that stand in some cases only

code-part : (mapped : ℕ) (c : Option ℕ) (t : Bool) → IsCode mapped → c ≡ (if t then Some mapped else None) → IsSpellable (optional (is_some c) quantiser_scale_code) c
code-part mapped c true is e =
    let s = code-spelled mapped is in
    subst (λ (o : Option ℕ). IsSpellable (optional (is_some o) quantiser_scale_code) o) (sym e) (record { bits = s.bits; rest = s.rest; spelled = (mapped, s.rest, s.spelled, (refl, refl)) })
code-part mapped c false is e = subst (λ (o : Option ℕ). IsSpellable (optional (is_some o) quantiser_scale_code) o) (sym e) (record { bits = []; rest = []; spelled = (refl, refl) })

dct-part : (t v : Bool) → IsSpellable (when t one_flag false) (t && v)
dct-part true true = record { bits = 1 ∷ []; rest = []; spelled = (1 ∷ [], refl, refl, refl) }
dct-part true false = record { bits = 0 ∷ []; rest = []; spelled = (0 ∷ [], refl, refl, refl) }
dct-part false v = record { bits = []; rest = []; spelled = (refl, refl) }

pattern-part : (n : ℕ) (t : Bool) → n < 64 → t ≡ not (n == 0) → IsSpellable (when t (vlclbf Pattern BadPattern []) 0) n
pattern-part n true small e =
    let some : n ≢ 0 = λ none. absurd (let clash : true ≡ false = e ∙ ap not (eq-eqb n 0 none) in cc) in
    pattern-spelled n (omega (arith, some)) small
pattern-part n false small e =
    let zero_test : (n == 0) ≡ true = by_test (n == 0) e in
    record { bits = []; rest = []; spelled = (eqb-true n 0 zero_test, refl) }
  where
    by_test : (b : Bool) → false ≡ not b → b ≡ true
    by_test true e = refl
    by_test false e = absurd (let e' : false ≡ true = e in cc)

signum-some : (level : ℤ) → level ≢ pos 0 → int_signum level ≢ pos 0
signum-some (pos zero) some = absurd (some refl)
signum-some (pos (suc n)) some = λ e. absurd (omega (arith, ap unsigned_abs e))
signum-some (negsuc n) some = λ e. absurd (omega (arith, ap unsigned_abs e))

-- ---- a block of the version

-- the DC coefficient of a block of the source
source-dc : (coded : Bool) (way : BlockWay) (b : Block) → (coded ≡ false → way.intra ≡ false) → IsSpellableBlock coded way b → IsSpellable (optional way.intra (dc_coefficient way)) b.dc
source-dc true way b none s = s.dc
source-dc false way b none s = none-dc way.intra (dc_coefficient way) b.dc (none refl) (ap (λ (x : Block). x.dc) s)

not-intra : (intra coded : Bool) → (intra || coded) ≡ false → intra ≡ false
not-intra true coded e = e
not-intra false coded e = refl

no_block-fine : (way : BlockWay) → way.intra ≡ false → IsFine way no_block
no_block-fine way non_intra = record { dc = none-dc way.intra (dc_coefficient way) None non_intra refl; fit = tt; levels = tt }

-- what is used of a macroblock of the source
pub record HasParts (coding : PicCoding) (from : Macroblock) : Type 0 where
  pub blocks : AreSpellableBlocks coding from.kind from.pattern from.blocks
  pub kind : IsSpellable (macroblock_type coding) from.kind
  pub no_pattern : from.kind.pattern ≡ false → from.pattern ≡ 0

module _ (seq : SeqState) (coding : PicCoding) (in_force mapped before : ℕ) (from to : Macroblock) (q : IsCoarserMacroblock seq coding in_force mapped before from to) where
  intra-same : to.kind.intra ≡ from.kind.intra
  intra-same = ap (λ (k : Kind). k.intra) q.kind

  way-same : (i : ℕ) → block_way coding to.kind i ≡ block_way coding from.kind i
  way-same i = ap (λ (k : Kind). block_way coding k i) q.kind

  parted_dc : (i : ℕ) → i < BLOCKS → AreSpellableBlocks coding from.kind from.pattern from.blocks → FitBlocks to.kind.intra to.blocks → HasBlocks seq coding in_force mapped from to.blocks
      → IsFine (block_way coding to.kind i) (slice_index_or to.blocks i no_block)
  parted_dc i lt source fits (inl (coarser, none)) =
      let one = coarser.1 i (omega (arith, lt, source.six)) in
      let old = source-dc (is_coded from.kind from.pattern i) (block_way coding from.kind i) (slice_index_or from.blocks i no_block)
      (not-intra from.kind.intra (bit_at from.pattern (5 - i) == 1)) (source.each i lt) in
      record {
        dc = subst (λ (w : BlockWay). IsSpellable (optional w.intra (dc_coefficient w)) (let b : Block = slice_index_or to.blocks i no_block in b.dc)) (sym (way-same i))
            (subst (IsSpellable (optional from.kind.intra (dc_coefficient (block_way coding from.kind i)))) (sym one.dc) old);
        fit = fits.each i lt;
        levels = one.no_zeros;
      }
  parted_dc i lt source fits (inr (emptied, keeps)) =
      let non_intra : to.kind.intra ≡ false = intra-same ∙ emptied.non_intra in
      let level : ℤ = level_at (block_way coding from.kind keeps.index) (slice_index_or from.blocks keeps.index no_block) keeps.place in
      let one : Block = block_of_one keeps.place (int_signum level) in
      elim (cases_eq i keeps.index) [
        | inl here ↦
            let is : slice_index_or to.blocks i no_block ≡ one =
            ap (λ (bs : List Block). slice_index_or bs i no_block) keeps.kept ∙ ap (λ (n : ℕ). get_or (slice_set no_blocks keeps.index one) n no_block) here
            ∙ get_or-set_same no_blocks keeps.index one no_block keeps.within in
            record {
              dc = none-dc to.kind.intra (dc_coefficient (block_way coding to.kind i)) _ non_intra (ap (λ (x : Block). x.dc) is);
              fit = fits.each i lt;
              levels = subst (λ (x : Block). AllByRecursion (λ pair. pair.level ≢ pos 0) x.pairs.items) (sym is) (signum-some level keeps.level, tt);
            }
        | inr there ↦
            let is : slice_index_or to.blocks i no_block ≡ no_block =
            ap (λ (bs : List Block). slice_index_or bs i no_block) keeps.kept ∙ get_or-set_other no_blocks keeps.index i one no_block there ∙ get_or-replicate BLOCKS i no_block no_block lt in
            subst (IsFine (block_way coding to.kind i)) (sym is) (no_block-fine (block_way coding to.kind i) non_intra)
      ]

  -- ---- the pattern and the type

  pattern-intra : from.kind.intra ≡ true → to.pattern ≡ 0
  pattern-intra intra = q.pattern ∙ ap (λ (t : Bool). if t then 0 else pattern_of to.blocks) intra

  pattern-other : from.kind.intra ≡ false → to.pattern ≡ pattern_of to.blocks
  pattern-other non_intra = q.pattern ∙ ap (λ (t : Bool). if t then 0 else pattern_of to.blocks) non_intra

  pattern-few : length to.blocks ≡ BLOCKS → to.pattern < 64
  pattern-few six = elim (cases_Bool from.kind.intra) [
    | inl intra ↦ omega (arith, pattern-intra intra)
    | inr other ↦ omega (arith, pattern-other other, pattern-small to.blocks six)
  ]

  -- where the source has no pattern, no block of the version has coefficients
  no-blocks : AreSpellableBlocks coding from.kind from.pattern from.blocks → from.kind.intra ≡ false → from.kind.pattern ≡ false → from.pattern ≡ 0 → length to.blocks ≡ BLOCKS
      → HasBlocks seq coding in_force mapped from to.blocks → pattern_of to.blocks ≡ 0
  no-blocks source non_intra none zero_pattern six (inr (emptied, keeps)) = absurd (let clash : true ≡ false = sym emptied.coded ∙ none in cc)
  no-blocks source non_intra none zero_pattern six (inl (coarser, other)) = pattern-zero to.blocks six (λ i lt.
      let uncoded : is_coded from.kind from.pattern i ≡ false =
      ap (λ (t : Bool). t || (bit_at from.pattern (5 - i) == 1)) non_intra ∙ ap (λ (n : ℕ). bit_at n (5 - i) == 1) zero_pattern ∙ ap (λ (n : ℕ). n == 1) (bit_at-zero (5 - i)) in
      let old : slice_index_or from.blocks i no_block ≡ no_block = subst (λ (c : Bool). IsSpellableBlock c (block_way coding from.kind i) (slice_index_or from.blocks i no_block)) uncoded
      (source.each i lt) in
      let one = coarser.1 i (omega (arith, lt, source.six)) in
      let same : slice_index_or to.blocks i no_block ≡ no_block =
      one_coarser_block seq coding (block_way coding from.kind i) in_force mapped no_block (slice_index_or to.blocks i no_block) no_block
      (subst (λ (b : Block). IsCoarserBlock seq coding (block_way coding from.kind i) in_force mapped b (slice_index_or to.blocks i no_block)) old one)
      (coarsened_block-is seq coding (block_way coding from.kind i) in_force mapped no_block) in
      ap shown same)

  -- where none has coefficients, the macroblock has motion
  has-motion : AreSpellableBlocks coding from.kind from.pattern from.blocks → FitBlocks to.kind.intra to.blocks → IsSpellable (macroblock_type coding) from.kind → from.kind.intra ≡ false
      → pattern_of to.blocks ≡ 0
      → HasBlocks seq coding in_force mapped from to.blocks → (from.kind.forward || from.kind.backward) ≡ true
  has-motion source fits kind non_intra empty has = elim (cases_Bool (from.kind.forward || from.kind.backward)) [
    | inl motion ↦ motion
    | inr still ↦ absurd (by_blocks (or_parts from.kind.forward from.kind.backward still) has)
  ]
    where
      or_parts : (a b : Bool) → (a || b) ≡ false → (a ≡ false) × (b ≡ false)
      or_parts true b e = absurd (let e' : true ≡ false = e in cc)
      or_parts false b e = (refl, e)

      hidden : (i : ℕ) → i < BLOCKS → shown (slice_index_or to.blocks i no_block) ≡ false
      hidden i lt = sym (pattern-bit to.blocks fits.six i lt) ∙ ap (λ (n : ℕ). bit_at n (5 - i) == 1) empty ∙ ap (λ (n : ℕ). n == 1) (bit_at-zero (5 - i))

      by_blocks : (from.kind.forward ≡ false) × (from.kind.backward ≡ false) → HasBlocks seq coding in_force mapped from to.blocks → ⊥
      by_blocks still (inr (emptied, keeps)) =
          let level : ℤ = level_at (block_way coding from.kind keeps.index) (slice_index_or from.blocks keeps.index no_block) keeps.place in
          let one : Block = block_of_one keeps.place (int_signum level) in
          let is : slice_index_or to.blocks keeps.index no_block ≡ one =
          ap (λ (bs : List Block). slice_index_or bs keeps.index no_block) keeps.kept ∙ get_or-set_same no_blocks keeps.index one no_block keeps.within in
          let clash : true ≡ false = sym (ap shown is) ∙ hidden keeps.index keeps.within in
          cc
      by_blocks still (inl (coarser, other)) =
          let each : (i : ℕ) → i < BLOCKS → slice_index_or to.blocks i no_block ≡ no_block = λ i lt.
          let fine = parted_dc i lt source fits (inl (coarser, other)) in
          empty_block (slice_index_or to.blocks i no_block)
          (dc-none to.kind.intra (dc_coefficient (block_way coding to.kind i)) _ (intra-same ∙ non_intra) fine.dc) (not-shown (slice_index_or to.blocks i no_block) (hidden i lt)) in
          let none : to.blocks ≡ no_blocks = same_lists to.blocks no_blocks fits.six (λ k d lt.
          get_or_default to.blocks k d no_block lt ∙ each k (omega (arith, lt, fits.six)) ∙ sym (get_or-replicate BLOCKS k no_block d (omega (arith, lt, fits.six)))) in
          other (record {
            non_intra = non_intra;
            coded = no-nothing coding from.kind kind non_intra still.0 still.1;
            no_forward = still.0;
            no_backward = still.1;
            emptied = subst (AreCoarserBlocks seq coding from.kind in_force mapped from.blocks) none coarser;
          })

  no-quant : to.kind.intra ≡ false → to.kind.pattern ≡ false → is_some to.code ≡ false
  no-quant intra pattern =
      let none : has_coefficients to.kind ≡ false = ap (λ (t : Bool). t || to.kind.pattern) intra ∙ pattern in
      ap is_some (q.code ∙ ap (λ (t : Bool). if t && not (mapped == before) then Some mapped else None) none)

  type-part : HasParts coding from → FitBlocks to.kind.intra to.blocks → may_be from.kind.forward from.kind.backward from.kind.pattern from.kind.intra (is_some to.code) (not (to.pattern == 0)) ≡ true
  type-part parts fits = elim (cases_Bool from.kind.intra) [
    | inl intra ↦
        let none : not (to.pattern == 0) ≡ false = ap (λ (n : ℕ). not (n == 0)) (pattern-intra intra) in
        may-intra from.kind.forward from.kind.backward from.kind.pattern from.kind.intra (is_some to.code) (not (to.pattern == 0)) intra none
    | inr other ↦ elim (cases_Bool (not (to.pattern == 0))) [
      | inl some ↦ may-pattern from.kind.forward from.kind.backward from.kind.pattern from.kind.intra (is_some to.code) (not (to.pattern == 0)) other some
          (had-pattern other some (cases_Bool from.kind.pattern))
      | inr none ↦
          let empty : pattern_of to.blocks ≡ 0 = sym (pattern-other other) ∙ zero-of none in
          may-motion from.kind.forward from.kind.backward from.kind.pattern from.kind.intra (is_some to.code) (not (to.pattern == 0)) other none
          (no-quant (intra-same ∙ other) (ap (λ (k : Kind). k.pattern) q.kind ∙ none)) (has-motion parts.blocks fits parts.kind other empty q.blocks)
    ]
  ]
    where
      zero-of : not (to.pattern == 0) ≡ false → to.pattern ≡ 0
      zero-of e = elim (cases_Bool (to.pattern == 0)) [
        | inl is ↦ eqb-true to.pattern 0 is
        | inr no' ↦ absurd (let clash : true ≡ false = sym (ap not no') ∙ e in cc)
      ]

      had-pattern : from.kind.intra ≡ false → not (to.pattern == 0) ≡ true → (from.kind.pattern ≡ true) ⊎ (from.kind.pattern ≡ false) → from.kind.pattern ≡ true
      had-pattern other some (inl is) = is
      had-pattern other some (inr none) =
          let empty = no-blocks parts.blocks other none (parts.no_pattern none) fits.six q.blocks in
          absurd (let clash : not (0 == 0) ≡ true = sym (ap (λ (n : ℕ). not (n == 0)) (pattern-other other ∙ empty)) ∙ some in cc)

      may-intra : (f b p i q' p' : Bool) → i ≡ true → p' ≡ false → may_be f b p i q' p' ≡ true
      may-intra f b p true q' p' e none = ap not none
      may-intra f b p false q' p' e none = absurd (let e' : false ≡ true = e in cc)

      may-pattern : (f b p i q' p' : Bool) → i ≡ false → p' ≡ true → p ≡ true → may_be f b p i q' p' ≡ true
      may-pattern f b p true q' p' e some had = absurd (let e' : true ≡ false = e in cc)
      may-pattern f b p false q' true e some had = had
      may-pattern f b p false q' false e some had = absurd (let e' : false ≡ true = some in cc)

      may-motion : (f b p i q' p' : Bool) → i ≡ false → p' ≡ false → q' ≡ false → (f || b) ≡ true → may_be f b p i q' p' ≡ true
      may-motion f b p true q' p' e none quant motion = absurd (let e' : true ≡ false = e in cc)
      may-motion f b p false true p' e none quant motion = absurd (let e' : true ≡ false = quant in cc)
      may-motion f b p false false true e none quant motion = absurd (let e' : true ≡ false = none in cc)
      may-motion f b p false false false e none quant motion = motion

  -- each part of it is one that some bits spell in its place
  pub coarser-parts : (first first' : Bool) (left left' : ℕ) → HasSpellableParts coding first left from → IsCode mapped → FitBlocks to.kind.intra to.blocks
      → IsSpellable (address_increment (most_increment coding first' left')) (to.skipped_before + 1) → HasSpellableParts coding first' left' to
  coarser-parts first first' left left' p is_code fits increment =
      let parts : HasParts coding from = record {
        blocks = blocks-of coding from.kind from.pattern from.blocks p.blocks;
        kind = p.kind;
        no_pattern = λ none. no_pattern_at from.kind.pattern from.pattern none p.pattern;
      } in
      let vectors = λ (n : ℕ). motion_vectors (f_codes coding n) (motion_format coding from.motion_type) in
      record {
        increment = increment;
        kind = subst (IsSpellable (macroblock_type coding)) (sym q.kind) (kind-spelled coding from.kind (is_some to.code) (not (to.pattern == 0)) p.kind (type-part parts fits));
        motion_type = subst (λ (k : Kind). IsSpellable (motion_type coding k) to.motion_type) (sym q.kind) (subst (IsSpellable (motion_type coding from.kind)) (sym q.motion_type) p.motion_type);
        field_dct = subst (IsSpellable (dct_type coding to.kind)) (sym q.field_dct) (dct-part (has_dct_type coding to.kind) from.field_dct);
        code = subst (λ (t : Bool). IsSpellable (optional t quantiser_scale_code) to.code) (sym (ap (λ (k : Kind). k.quant) q.kind)) (code-part mapped to.code _ is_code q.code);
        forward = subst (λ (n : ℕ). IsSpellable (when (has_forward coding to.kind) (motion_vectors (f_codes coding 0) (motion_format coding n)) []) to.forward.items) (sym q.motion_type)
            (subst (λ (k : Kind). IsSpellable (when (has_forward coding k) (vectors 0) []) to.forward.items) (sym q.kind)
            (subst (λ (v : List Vector). IsSpellable (when (has_forward coding from.kind) (vectors 0) []) v) (sym (ap (λ v. v.items) q.forward)) p.forward));
        backward = subst (λ (n : ℕ). IsSpellable (when to.kind.backward (motion_vectors (f_codes coding 1) (motion_format coding n)) []) to.backward.items) (sym q.motion_type)
            (subst (λ (k : Kind). IsSpellable (when k.backward (vectors 1) []) to.backward.items) (sym q.kind)
            (subst (λ (v : List Vector). IsSpellable (when from.kind.backward (vectors 1) []) v) (sym (ap (λ v. v.items) q.backward)) p.backward));
        pattern = pattern-part to.pattern to.kind.pattern (pattern-few fits.six) (ap (λ (k : Kind). k.pattern) q.kind);
        blocks = of_blocks coding to.kind to.pattern to.blocks
            (fine-blocks coding to.kind to.pattern to.blocks fits.six (λ i lt. parted_dc i lt parts.blocks fits q.blocks) (λ non_intra. pattern-other (sym intra-same ∙ non_intra)));
      }
    where
      no_pattern_at : (t : Bool) (n : ℕ) → t ≡ false → IsSpellable (when t (vlclbf Pattern BadPattern []) 0) n → n ≡ 0
      no_pattern_at true n e s = absurd (let e' : true ≡ false = e in cc)
      no_pattern_at false n e s = s.spelled.0

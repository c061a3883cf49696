-- What is written of a macroblock whose parts some bits spell is read as that macroblock, whatever follows.
use Rattle.std.proofs.Common.{
  ◌≡◌,
  ℕ,
  suc,
  ◌+◌,
  ◌-◌,
  ◌==◌,
  not,
  List,
  [],
  ◌∷◌,
  ◌++◌,
  length,
  slice_index_or,
  Option,
  Some,
  None,
  Bool,
  true,
  false,
  if◌then◌else◌,
  refl,
  sym,
  ap,
  subst,
  ◌∙◌,
  arith,
  append_assoc,
}
use Rattle.std.specs.List.{flat_map, range_with_len}
use Rattle.bit_lists.specs.Bits.{bits_of}
use Rattle.bit_lists.specs.Fields.{flag}
use Rattle.prefix_codes.specs.declared.table_name.TableName.TheVariants.{Pattern}
use Rattle.syntax_types.specs.declared.block.Block.{Block}
use Rattle.syntax_types.specs.declared.block.BlockWay.{BlockWay}
use Rattle.syntax_types.specs.declared.macroblock.TheConstants.{BLOCKS}
use Rattle.syntax_types.specs.declared.macroblock.Kind.{Kind}
use Rattle.syntax_types.specs.declared.macroblock.Macroblock.{Macroblock}
use Rattle.syntax_types.specs.declared.picture.PicCoding.{PicCoding}
use Rattle.picture_grammar.specs.Refusal.Refusal.{BadType, BadPattern}
use Rattle.picture_grammar.specs.Grammar.{Grammar, optional, when, each}
use Rattle.picture_grammar.specs.Element.{vlclbf, one_flag, marker_bit, rule}
use Rattle.picture_grammar.specs.Block.{block}
use Rattle.picture_grammar.specs.Macroblock.{
  address_increment,
  most_increment,
  type_table,
  type_symbol,
  macroblock_type,
  motion_type,
  has_motion_type,
  usual_motion_type,
  dct_type,
  has_dct_type,
  quantiser_scale_code,
  has_forward,
  has_concealment,
  f_codes,
  motion_format,
  block_way,
  is_coded,
  no_block,
  blocks,
  macroblock,
}
use Rattle.picture_grammar.specs.Written.{if_any, written_increment, written_vector, written_coded_block, written_block, written_macroblock}
use Rattle.prefix_codes.specs.TableName.{code_for}
use Rattle.picture_grammar.proofs.WrittenBlock.{block_written, code_for-listed}
use Rattle.picture_laws.specs.Spellable.{IsSpellable, HasSpellableParts}
use Rattle.picture_laws.proofs.ReadBack.{
  SpellsAnywhere,
  IsReadBack,
  spellable,
  anywhere-code,
  anywhere-bind,
  anywhere-made,
  anywhere-done,
  anywhere-element,
  back-element,
  back-vlclbf,
  back-uimsbf,
  back-flag,
  back-when,
  back-optional,
  back-each,
  written_each,
}
use Rattle.picture_laws.proofs.WrittenParts.{back-increment, some-increment, back-vectors}

-- ---- macroblock_modes() and the marker

back-type : (coding : PicCoding) → IsReadBack (macroblock_type coding) (λ kind. code_for (type_table coding) (type_symbol kind))
back-type coding = back-element _ BadType [] (λ kind. code_for (type_table coding) (type_symbol kind))
    (λ kind code listed. code_for-listed (type_table coding) (type_symbol kind) code listed)

back-motion_type : (coding : PicCoding) (kind : Kind) → IsReadBack (motion_type coding kind) (λ number. if has_motion_type coding kind then bits_of 2 number else [])
back-motion_type coding kind = back-when (has_motion_type coding kind) _ (usual_motion_type coding) (bits_of 2) (back-uimsbf 2 (rule BadType (λ number. not (number == 0)) ∷ []))

back-dct_type : (coding : PicCoding) (kind : Kind) → IsReadBack (dct_type coding kind) (λ is_set. if has_dct_type coding kind then flag is_set ∷ [] else [])
back-dct_type coding kind = back-when (has_dct_type coding kind) one_flag false (λ is_set. flag is_set ∷ []) (back-flag [])

abbrev marker : Bool → Option ℕ
marker test = if test then Some 1 else None

anywhere-marker : (test : Bool) → SpellsAnywhere (optional test (marker_bit BadType)) (marker test) (if test then 1 ∷ [] else [])
unfolding bits_of
anywhere-marker true =
    anywhere-made (marker_bit BadType) (λ bit. Some bit) 1 (Some 1) (1 ∷ []) refl (anywhere-element _ _ _ 1 (1 ∷ []) ((omega arith), refl) refl)
anywhere-marker false = anywhere-done None

-- ---- blocks

back-block : (way : BlockWay) → IsReadBack (block way) (written_block way)
back-block way = record { again = λ b s. record { before = λ following. block_written way b s.bits s.rest following s.spelled } }

-- block i, where it is coded
abbrev pub written_or_none : PicCoding → Kind → ℕ → ℕ → Block → List ℕ
written_or_none coding kind pattern i block = if is_coded kind pattern i then written_block (block_way coding kind i) block else []

pub length-each : {I A : Type 0} (is : List I) (grammar : I → Grammar A) (values : List A) (bits rest : List ℕ) → (each is grammar).Spells values bits rest → length values ≡ length is
length-each [] grammar values bits rest (e, f) = ap length e
length-each (i ∷ is) grammar values bits rest (v, m, t, (vs, m', t', (e, f))) = ap length e ∙ ap suc (length-each is grammar vs m m' t')

pub back-block_where : (coding : PicCoding) (kind : Kind) (pattern i : ℕ)
    → IsReadBack (when (is_coded kind pattern i) (block (block_way coding kind i)) no_block) (written_or_none coding kind pattern i)
back-block_where coding kind pattern i =
    back-when (is_coded kind pattern i) (block (block_way coding kind i)) no_block (written_block (block_way coding kind i)) (back-block (block_way coding kind i))

-- six blocks by their numbers
by_number : (written : ℕ → Block → List ℕ) (blocks : List Block) → length blocks ≡ 6
    → written_each written (range_with_len 0 6) blocks ≡ flat_map (λ i. written i (slice_index_or blocks i no_block)) (range_with_len 0 6)
by_number written [] e = absurd (omega arith)
by_number written (a ∷ []) e = absurd (omega arith)
by_number written (a ∷ b ∷ []) e = absurd (omega arith)
by_number written (a ∷ b ∷ c ∷ []) e = absurd (omega arith)
by_number written (a ∷ b ∷ c ∷ d ∷ []) e = absurd (omega arith)
by_number written (a ∷ b ∷ c ∷ d ∷ f ∷ []) e = absurd (omega arith)
by_number written (a ∷ b ∷ c ∷ d ∷ f ∷ g ∷ []) e = refl
by_number written (a ∷ b ∷ c ∷ d ∷ f ∷ g ∷ h ∷ is) e = absurd (omega arith)

anywhere-blocks : (coding : PicCoding) (m : Macroblock) → IsSpellable (blocks coding m.kind m.pattern) m.blocks
    → SpellsAnywhere (blocks coding m.kind m.pattern) m.blocks (flat_map (written_coded_block coding m) (range_with_len 0 BLOCKS))
anywhere-blocks coding m s =
    let grammar = λ (i : ℕ). when (is_coded m.kind m.pattern i) (block (block_way coding m.kind i)) no_block in
    anywhere-code (blocks coding m.kind m.pattern) m.blocks (written_each (written_or_none coding m.kind m.pattern) (range_with_len 0 6) m.blocks)
    (flat_map (written_coded_block coding m) (range_with_len 0 BLOCKS))
    (by_number (written_or_none coding m.kind m.pattern) m.blocks (length-each (range_with_len 0 6) grammar m.blocks s.bits s.rest s.spelled))
    ((back-each (range_with_len 0 6) grammar (written_or_none coding m.kind m.pattern)
    (back-block_where coding m.kind m.pattern)).again m.blocks s)

-- ---- the whole macroblock

ten : (a b c d e f g h i j : List ℕ) → a ++ (b ++ (c ++ (d ++ (e ++ (f ++ (g ++ (h ++ (i ++ j)))))))) ≡ a ++ b ++ c ++ d ++ e ++ f ++ g ++ h ++ i ++ j
ten a b c d e f g h i j = sym (let left : a ++ b ++ c ++ d ++ e ++ f ++ g ++ h ++ i ++ j ≡ a ++ (b ++ (c ++ (d ++ (e ++ (f ++ (g ++ (h ++ (i ++ j)))))))) = simp append_assoc in left)

pub anywhere-macroblock : (coding : PicCoding) (first : Bool) (columns_left : ℕ) (m : Macroblock) → HasSpellableParts coding first columns_left m
    → SpellsAnywhere (macroblock coding first columns_left) m (written_macroblock coding m)
unfolding macroblock written_macroblock
anywhere-macroblock coding first columns_left m parts =
    let address : m.skipped_before ≡ m.skipped_before + 1 - 1 = omega arith in
    let made : m ≡ record {
      skipped_before = m.skipped_before + 1 - 1;
      kind = m.kind;
      motion_type = m.motion_type;
      field_dct = m.field_dct;
      code = m.code;
      forward = record { items = m.forward.items };
      backward = record { items = m.backward.items };
      pattern = m.pattern;
      blocks = m.blocks;
    } = ap (λ (n : ℕ). record m { skipped_before = n }) address in
    anywhere-code (macroblock coding first columns_left) m _ (written_macroblock coding m)
    (ten (written_increment (m.skipped_before + 1)) (code_for (type_table coding) (type_symbol m.kind)) (if has_motion_type coding m.kind then bits_of 2 m.motion_type else [])
    (if has_dct_type coding m.kind then flag m.field_dct ∷ [] else []) (if_any (bits_of 5) m.code) (flat_map (written_vector (f_codes coding 0)) m.forward.items)
    (flat_map (written_vector (f_codes coding 1)) m.backward.items) (if has_concealment coding m.kind then 1 ∷ [] else []) (if m.kind.pattern then code_for Pattern m.pattern else [])
    (flat_map (written_coded_block coding m) (range_with_len 0 BLOCKS)))
    (anywhere-bind _ _ (m.skipped_before + 1) m (written_increment (m.skipped_before + 1)) _ ((back-increment (most_increment coding first columns_left)).again (m.skipped_before + 1) parts.increment)
    (anywhere-bind _ _ m.kind m (code_for (type_table coding) (type_symbol m.kind)) _ ((back-type coding).again m.kind parts.kind)
    (anywhere-bind _ _ m.motion_type m (if has_motion_type coding m.kind then bits_of 2 m.motion_type else []) _ ((back-motion_type coding m.kind).again m.motion_type parts.motion_type)
    (anywhere-bind _ _ m.field_dct m (if has_dct_type coding m.kind then flag m.field_dct ∷ [] else []) _ ((back-dct_type coding m.kind).again m.field_dct parts.field_dct)
    (anywhere-bind _ _ m.code m (if_any (bits_of 5) m.code) _ ((back-optional m.kind.quant quantiser_scale_code (bits_of 5) (back-uimsbf 5 _)).again m.code parts.code)
    (anywhere-bind _ _ m.forward.items m (flat_map (written_vector (f_codes coding 0)) m.forward.items) _
    ((back-vectors (has_forward coding m.kind) (f_codes coding 0) (motion_format coding m.motion_type)).again m.forward.items parts.forward)
    (anywhere-bind _ _ m.backward.items m (flat_map (written_vector (f_codes coding 1)) m.backward.items) _
    ((back-vectors m.kind.backward (f_codes coding 1) (motion_format coding m.motion_type)).again m.backward.items parts.backward)
    (anywhere-bind _ _ (marker (has_concealment coding m.kind)) m (if has_concealment coding m.kind then 1 ∷ [] else []) _ (anywhere-marker (has_concealment coding m.kind))
    (anywhere-bind _ _ m.pattern m (if m.kind.pattern then code_for Pattern m.pattern else []) _
    ((back-when m.kind.pattern (vlclbf Pattern BadPattern []) 0 (code_for Pattern) (back-vlclbf Pattern BadPattern [])).again m.pattern
    parts.pattern)
    (anywhere-made (blocks coding m.kind m.pattern) (λ (blocks : List Block). record {
      skipped_before = m.skipped_before + 1 - 1;
      kind = m.kind;
      motion_type = m.motion_type;
      field_dct = m.field_dct;
      code = m.code;
      forward = record { items = m.forward.items };
      backward = record { items = m.backward.items };
      pattern = m.pattern;
      blocks = blocks;
    }) m.blocks m (flat_map (written_coded_block coding m) (range_with_len 0 BLOCKS)) made (anywhere-blocks coding m parts.blocks)))))))))))

pub parts-of_macroblock : (coding : PicCoding) (first : Bool) (columns_left : ℕ) (m : Macroblock) (bits rest : List ℕ) → (macroblock coding first columns_left).Spells m bits rest
    → HasSpellableParts coding first columns_left m
unfolding macroblock
parts-of_macroblock coding first columns_left m bits rest (
  increment,
  m1,
  s1,
  (
    kind,
    m2,
    s2,
    (
      motion,
      m3,
      s3,
      (
        field_dct,
        m4,
        s4,
        (
          code,
          m5,
          s5,
          (forward, m6, s6, (backward, m7, s7, (marked, m8, s8, (pattern, m9, s9, (blocks, m10, s10, (e, f)))))),
        ),
      ),
    ),
  ),
) =
    let some = some-increment (most_increment coding first columns_left) increment (spellable _ increment bits m1 s1) in
    let address : increment ≡ increment - 1 + 1 = omega (arith, some) in
    subst (HasSpellableParts coding first columns_left) (sym e) (record {
      increment = subst (IsSpellable (address_increment (most_increment coding first columns_left))) address (spellable _ increment bits m1 s1);
      kind = spellable _ kind m1 m2 s2;
      motion_type = spellable _ motion m2 m3 s3;
      field_dct = spellable _ field_dct m3 m4 s4;
      code = spellable _ code m4 m5 s5;
      forward = spellable _ forward m5 m6 s6;
      backward = spellable _ backward m6 m7 s7;
      pattern = spellable _ pattern m8 m9 s9;
      blocks = spellable _ blocks m9 m10 s10;
    })

-- The blocks of a macroblock are spelled by some bits where each is, by its number.
use Rattle.std.proofs.Common.{◌≡◌, ℕ, zero, suc, ◌<◌, List, [], ◌∷◌, ◌++◌, length, slice_index_or, Bool, true, false, refl, sym, subst, arith}
use Rattle.std.specs.List.{range_with_len}
use Rattle.syntax_types.specs.declared.block.Block.{Block}
use Rattle.syntax_types.specs.declared.block.BlockWay.{BlockWay}
use Rattle.syntax_types.specs.declared.macroblock.Kind.{Kind}
use Rattle.syntax_types.specs.declared.picture.PicCoding.{PicCoding}
use Rattle.picture_grammar.specs.Grammar.{Grammar, when, each}
use Rattle.picture_grammar.specs.Block.{block}
use Rattle.picture_grammar.specs.Macroblock.{block_way, is_coded, no_block, blocks}
use Rattle.picture_laws.specs.Spellable.{IsSpellable, IsSpellableBlock, AreSpellableBlocks}
use Rattle.picture_laws.proofs.ReadBack.{IsReadBack, spellable}
use Rattle.picture_laws.proofs.WrittenCoefficients.{of_coefficients, coefficients-of}
use Rattle.picture_laws.proofs.WrittenMacroblock.{back-block_where, length-each}

module _ {I A : Type 0} (grammar : I → Grammar A) where
  -- one value for each item, which some bits spell in its place
  abbrev EachSpellable : List I → List A → Type 0
  EachSpellable [] [] = Unit {0}
  EachSpellable [] (v ∷ vs) = ⊥
  EachSpellable (i ∷ is) [] = ⊥
  EachSpellable (i ∷ is) (v ∷ vs) = IsSpellable (grammar i) v × EachSpellable is vs

  each-made : (written : I → A → List ℕ) → ((i : I) → IsReadBack (grammar i) (written i)) → (is : List I) (values : List A) → EachSpellable is values
      → (bits : List ℕ) × (each is grammar).Spells values bits []
  each-made written back [] [] all = ([], (refl, refl))
  each-made written back [] (v ∷ vs) all = elim all [ ]
  each-made written back (i ∷ is) [] all = elim all [ ]
  each-made written back (i ∷ is) (v ∷ vs) (s, t) =
      let (bits, later) = each-made written back is vs t in
      (written i v ++ bits, (v, bits, ((back i).again v s).before bits, (vs, [], later, (refl, refl))))

  each-found : (is : List I) (values : List A) (bits rest : List ℕ) → (each is grammar).Spells values bits rest → EachSpellable is values
  each-found [] values bits rest (e, f) = subst (EachSpellable []) (sym e) tt
  each-found (i ∷ is) values bits rest (v, m, s, (vs, m', t, (e, f))) = subst (EachSpellable (i ∷ is)) (sym e) (spellable (grammar i) v bits m s, each-found is vs m m' t)

-- ---- six blocks

of_block : (coded : Bool) (way : BlockWay) (b : Block) → IsSpellableBlock coded way b → IsSpellable (when coded (block way) no_block) b
of_block true way b has = of_coefficients way b has
of_block false way b none = spellable (when false (block way) no_block) b [] [] (none, refl)

block-of : (coded : Bool) (way : BlockWay) (b : Block) → IsSpellable (when coded (block way) no_block) b → IsSpellableBlock coded way b
block-of true way b s = coefficients-of way b s
block-of false way b s = s.spelled.0

module _ (coding : PicCoding) (kind : Kind) (pattern : ℕ) where
  abbrev block_at : ℕ → Grammar Block
  block_at i = when (is_coded kind pattern i) (block (block_way coding kind i)) no_block

  six_made : (bs : List Block) → AreSpellableBlocks coding kind pattern bs → EachSpellable block_at (range_with_len 0 6) bs
  six_made [] has = absurd (omega (arith, has.six))
  six_made (a ∷ []) has = absurd (omega (arith, has.six))
  six_made (a ∷ b ∷ []) has = absurd (omega (arith, has.six))
  six_made (a ∷ b ∷ c ∷ []) has = absurd (omega (arith, has.six))
  six_made (a ∷ b ∷ c ∷ d ∷ []) has = absurd (omega (arith, has.six))
  six_made (a ∷ b ∷ c ∷ d ∷ e ∷ []) has = absurd (omega (arith, has.six))
  six_made (a ∷ b ∷ c ∷ d ∷ e ∷ f ∷ []) has =
      let at = λ (i : ℕ) (x : Block) (lt : i < 6) (is : slice_index_or (a ∷ b ∷ c ∷ d ∷ e ∷ f ∷ []) i no_block ≡ x).
      of_block (is_coded kind pattern i) (block_way coding kind i) x (subst (IsSpellableBlock (is_coded kind pattern i) (block_way coding kind i)) is (has.each i lt)) in
      (at 0 a (omega arith) refl, (at 1 b (omega arith) refl, (at 2 c (omega arith) refl, (at 3 d (omega arith) refl, (at 4 e (omega arith) refl, (at 5 f (omega arith) refl, tt))))))
  six_made (a ∷ b ∷ c ∷ d ∷ e ∷ f ∷ g ∷ hs) has = absurd (omega (arith, has.six))

  six_found : (bs : List Block) → length bs ≡ 6 → EachSpellable block_at (range_with_len 0 6) bs → (i : ℕ) → i < 6
      → IsSpellableBlock (is_coded kind pattern i) (block_way coding kind i) (slice_index_or bs i no_block)
  six_found (a ∷ b ∷ c ∷ d ∷ e ∷ f ∷ []) six (s, (s1, (s2, (s3, (s4, (s5, u)))))) zero lt = block-of _ _ a s
  six_found (a ∷ b ∷ c ∷ d ∷ e ∷ f ∷ []) six (s, (s1, (s2, (s3, (s4, (s5, u)))))) (suc zero) lt = block-of _ _ b s1
  six_found (a ∷ b ∷ c ∷ d ∷ e ∷ f ∷ []) six (s, (s1, (s2, (s3, (s4, (s5, u)))))) (suc (suc zero)) lt = block-of _ _ c s2
  six_found (a ∷ b ∷ c ∷ d ∷ e ∷ f ∷ []) six (s, (s1, (s2, (s3, (s4, (s5, u)))))) (suc (suc (suc zero))) lt = block-of _ _ d s3
  six_found (a ∷ b ∷ c ∷ d ∷ e ∷ f ∷ []) six (s, (s1, (s2, (s3, (s4, (s5, u)))))) (suc (suc (suc (suc zero)))) lt = block-of _ _ e s4
  six_found (a ∷ b ∷ c ∷ d ∷ e ∷ f ∷ []) six (s, (s1, (s2, (s3, (s4, (s5, u)))))) (suc (suc (suc (suc (suc zero))))) lt = block-of _ _ f s5
  six_found (a ∷ b ∷ c ∷ d ∷ e ∷ f ∷ []) six (s, (s1, (s2, (s3, (s4, (s5, u)))))) (suc (suc (suc (suc (suc (suc i)))))) lt = absurd (omega arith)
  six_found [] six each i lt = absurd (omega arith)
  six_found (a ∷ []) six each i lt = absurd (omega arith)
  six_found (a ∷ b ∷ []) six each i lt = absurd (omega arith)
  six_found (a ∷ b ∷ c ∷ []) six each i lt = absurd (omega arith)
  six_found (a ∷ b ∷ c ∷ d ∷ []) six each i lt = absurd (omega arith)
  six_found (a ∷ b ∷ c ∷ d ∷ e ∷ []) six each i lt = absurd (omega arith)
  six_found (a ∷ b ∷ c ∷ d ∷ e ∷ f ∷ g ∷ hs) six each i lt = absurd (omega arith)

  pub of_blocks : (bs : List Block) → AreSpellableBlocks coding kind pattern bs → IsSpellable (blocks coding kind pattern) bs
  of_blocks bs has =
      let (bits, s) = each-made block_at _ (back-block_where coding kind pattern) (range_with_len 0 6) bs (six_made bs has) in
      spellable (blocks coding kind pattern) bs bits [] s

  pub blocks-of : (bs : List Block) → IsSpellable (blocks coding kind pattern) bs → AreSpellableBlocks coding kind pattern bs
  blocks-of bs s =
      let six : length bs ≡ 6 = length-each (range_with_len 0 6) block_at bs s.bits s.rest s.spelled in
      record { six = six; each = six_found bs six (each-found block_at (range_with_len 0 6) bs s.bits s.rest s.spelled) }

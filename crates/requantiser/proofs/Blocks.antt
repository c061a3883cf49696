-- What the walk over a block makes is the coarser block, and the only one.
use Rattle.std.proofs.Common.{◌≡◌, ◌≢◌, ℕ, ◌*ℤ◌, ◌+◌, ◌<◌, ℤ, pos, unsigned_abs, ◌⊎◌, Option, Some, None, List, [], ◌∷◌, true, false, refl, sym, ◌∙◌, ap, ap₂, inl, inr, arith}
use Rattle.std.specs.Prelude.{◌==◌}
use Rattle.std.specs.List.{AllByRecursion}
use Rattle.std.specs.Option.{option_map_or}
use Rattle.std.proofs.lemmas.Bool.{cases_eq, cases_Bool, eqb-true, eqb-false}
use Rattle.std.proofs.lemmas.Int.{ints}
use Rattle.syntax_types.specs.declared.block.RunLevel.{RunLevel}
use Rattle.requantiser.specs.Places.{item_at}
use Rattle.requantiser.specs.Private.Walk.{coarsened_pairs, new_level, coarsened_block}
use Rattle.syntax_types.specs.declared.block.Block.{Block}
use Rattle.syntax_types.specs.declared.block.BlockWay.{BlockWay}
use Rattle.syntax_types.specs.declared.picture.PicCoding.{PicCoding}
use Rattle.syntax_types.specs.declared.picture.SeqState.{SeqState}
use Rattle.picture_grammar.specs.Block.{first_place}
use Rattle.requantiser.specs.Blocks.{IsCoarserBlock}
use Rattle.requantiser.proofs.Places.{item_at-here, item_at-there, item_at-before, item_at-all, BothOrNone, same_items}

abbrev pub run_of : RunLevel → ℕ
run_of pair = pair.run

-- the level at a place of these coefficients from a place on
abbrev pub level_from : ℕ → List RunLevel → ℕ → ℤ
level_from start pairs place = option_map_or (λ pair. pair.level) (item_at run_of start pairs place) (pos 0)

pub no_size : (z : ℤ) → unsigned_abs z ≡ 0 → z ≡ pos 0
no_size z none = omega (arith, ints)

abbrev pub level_of : Option RunLevel → ℤ
level_of o = option_map_or (λ pair. pair.level) o (pos 0)

pub level_here : (place c : ℕ) (pair : RunLevel) (pairs : List RunLevel) → c ≡ place + pair.run → level_from place (pair ∷ pairs) c ≡ pair.level
level_here place c pair pairs here = ap level_of (item_at-here run_of place c pair pairs here)

pub level_there : (place c : ℕ) (pair : RunLevel) (pairs : List RunLevel) → (c ≡ place + pair.run → ⊥) → level_from place (pair ∷ pairs) c ≡ level_from (place + pair.run + 1) pairs c
level_there place c pair pairs there = ap level_of (item_at-there run_of place c pair pairs there)

pub level_before : (start c : ℕ) (pairs : List RunLevel) → c < start → level_from start pairs c ≡ pos 0
level_before start c pairs below = ap level_of (item_at-before run_of start c pairs below)

module _ (new : ℕ → ℤ → ℤ) (zero_stays : (place : ℕ) → new place (pos 0) ≡ pos 0) where
  -- where the level of the first pair becomes 0, its place has the new level of what follows
  dropped : (place c : ℕ) (pair : RunLevel) (pairs : List RunLevel) → new (place + pair.run) pair.level ≡ pos 0
      → (c ≡ place + pair.run) ⊎ (c ≡ place + pair.run → ⊥)
      → new c (level_from (place + pair.run + 1) pairs c) ≡ new c (level_from place (pair ∷ pairs) c)
  dropped place c pair pairs gone (inl here) =
      ap (new c) (level_before (place + pair.run + 1) c pairs (omega arith)) ∙ zero_stays c
      ∙ sym (ap (new c) (level_here place c pair pairs here) ∙ ap (λ n. new n pair.level) here ∙ gone)
  dropped place c pair pairs gone (inr there) = ap (new c) (sym (level_there place c pair pairs there))

  -- each place has the new level of the source's
  pub levels-coarsened : (start waiting place c : ℕ) (pairs : List RunLevel) → start + waiting ≡ place
      → level_from start (coarsened_pairs new place waiting pairs) c ≡ new c (level_from place pairs c)
  levels-coarsened start waiting place c [] e = sym (zero_stays c)
  levels-coarsened start waiting place c (pair ∷ pairs) e =
      by_level (λ w e. levels-coarsened start w (place + pair.run + 1) c pairs e) (levels-coarsened (place + pair.run + 1) 0 (place + pair.run + 1) c pairs (omega arith))
      (cases_Bool (unsigned_abs (new (place + pair.run) pair.level) == 0))
    where
      by_place : level_from (place + pair.run + 1) (coarsened_pairs new (place + pair.run + 1) 0 pairs) c ≡ new c (level_from (place + pair.run + 1) pairs c)
          → (c ≡ place + pair.run) ⊎ (c ≡ place + pair.run → ⊥)
          → level_from start (record { run = waiting + pair.run; level = new (place + pair.run) pair.level } ∷ coarsened_pairs new (place + pair.run + 1) 0 pairs) c
          ≡ new c (level_from place (pair ∷ pairs) c)
      by_place behind (inl here) =
          level_here start c (record { run = waiting + pair.run; level = new (place + pair.run) pair.level }) (coarsened_pairs new (place + pair.run + 1) 0 pairs) (omega arith)
          ∙ ap (λ n. new n pair.level) (sym here) ∙ sym (ap (new c) (level_here place c pair pairs here))
      by_place behind (inr there) =
          let same : start + (waiting + pair.run) + 1 ≡ place + pair.run + 1 = omega arith in
          level_there start c (record { run = waiting + pair.run; level = new (place + pair.run) pair.level }) (coarsened_pairs new (place + pair.run + 1) 0 pairs) (λ h. there (omega arith))
          ∙ ap (λ n. level_from n (coarsened_pairs new (place + pair.run + 1) 0 pairs) c) same
          ∙ behind
          ∙ sym (ap (new c) (level_there place c pair pairs there))

      by_level : ((w : ℕ) → start + w ≡ place + pair.run + 1 → level_from start (coarsened_pairs new (place + pair.run + 1) w pairs) c ≡ new c (level_from (place + pair.run + 1) pairs c))
          → level_from (place + pair.run + 1) (coarsened_pairs new (place + pair.run + 1) 0 pairs) c ≡ new c (level_from (place + pair.run + 1) pairs c)
          → (unsigned_abs (new (place + pair.run) pair.level) == 0 ≡ true) ⊎ (unsigned_abs (new (place + pair.run) pair.level) == 0 ≡ false)
          → level_from start (coarsened_pairs new place waiting (pair ∷ pairs)) c ≡ new c (level_from place (pair ∷ pairs) c)
      by_level waits behind (inl gone) = rw (gone, coarsened_pairs) (
          waits (waiting + (pair.run + 1)) (omega arith)
          ∙ dropped place c pair pairs (no_size _ (eqb-true _ _ gone)) (cases_eq c (place + pair.run)))
      by_level waits behind (inr stays) = rw (stays, coarsened_pairs) (by_place behind (cases_eq c (place + pair.run)))

-- ---- only one block

-- the places of levels show the pairs, where none of the levels is 0
pub same_pairs : (start : ℕ) (xs ys : List RunLevel) → AllByRecursion (λ pair. pair.level ≢ pos 0) xs → AllByRecursion (λ pair. pair.level ≢ pos 0) ys
    → ((place : ℕ) → level_from start xs place ≡ level_from start ys place) → xs ≡ ys
same_pairs start xs ys some_x some_y levels = same_items run_of (λ a b. a.level ≡ b.level) same_pair start xs ys
    (λ place. both (item_at run_of start xs place) (item_at run_of start ys place)
    (λ x found. item_at-all run_of (λ pair. pair.level ≢ pos 0) start place x xs some_x found)
    (λ y found. item_at-all run_of (λ pair. pair.level ≢ pos 0) start place y ys some_y found) (levels place))
  where
    same_pair : (x y : RunLevel) → x.run ≡ y.run → x.level ≡ y.level → x ≡ y
    same_pair x y run level = ap₂ (λ r l. let pair : RunLevel = record { run = r; level = l } in pair) run level

    both : (o p : Option RunLevel) → ((x : RunLevel) → o ≡ Some x → x.level ≢ pos 0) → ((y : RunLevel) → p ≡ Some y → y.level ≢ pos 0)
        → level_of o ≡ level_of p → BothOrNone run_of (λ a b. a.level ≡ b.level) o p
    both None None l r same = tt
    both None (Some y) l r same = r y refl (sym same)
    both (Some x) None l r same = l x refl same
    both (Some x) (Some y) l r same = same

-- ---- the walk

-- no level 0 is kept
pub no_zeros-coarsened : (new : ℕ → ℤ → ℤ) (waiting place : ℕ) (pairs : List RunLevel) → AllByRecursion (λ pair. pair.level ≢ pos 0) (coarsened_pairs new place waiting pairs)
no_zeros-coarsened new waiting place [] = tt
no_zeros-coarsened new waiting place (pair ∷ pairs) =
    by_level (no_zeros-coarsened new (waiting + (pair.run + 1)) (place + pair.run + 1) pairs) (no_zeros-coarsened new 0 (place + pair.run + 1) pairs)
    (cases_Bool (unsigned_abs (new (place + pair.run) pair.level) == 0))
  where
    by_level : AllByRecursion (λ pair. pair.level ≢ pos 0) (coarsened_pairs new (place + pair.run + 1) (waiting + (pair.run + 1)) pairs)
        → AllByRecursion (λ pair. pair.level ≢ pos 0) (coarsened_pairs new (place + pair.run + 1) 0 pairs)
        → (unsigned_abs (new (place + pair.run) pair.level) == 0 ≡ true) ⊎ (unsigned_abs (new (place + pair.run) pair.level) == 0 ≡ false)
        → AllByRecursion (λ pair. pair.level ≢ pos 0) (coarsened_pairs new place waiting (pair ∷ pairs))
    by_level waits behind (inl gone) = rw (gone, coarsened_pairs) waits
    by_level waits behind (inr stays) = rw (stays, coarsened_pairs) (λ zero. absurd (eqb-false _ _ stays (ap unsigned_abs zero)), behind)

pub zero_product : (n : ℕ) → pos 0 *ℤ pos n ≡ pos 0
zero_product n = omega (arith, ints)

-- level 0 stays
pub new_level-zero : (seq : SeqState) (coding : PicCoding) (way : BlockWay) (code mapped place : ℕ) → new_level seq coding way code mapped place (pos 0) ≡ pos 0
new_level-zero seq coding way code mapped place = zero_product _

-- what the walk makes is the coarser block
pub coarsened_block-is : (seq : SeqState) (coding : PicCoding) (way : BlockWay) (code mapped : ℕ) (block : Block)
    → IsCoarserBlock seq coding way code mapped block (coarsened_block seq coding way code mapped block)
coarsened_block-is seq coding way code mapped block = record {
  dc = refl;
  levels = λ place. levels-coarsened (new_level seq coding way code mapped) (new_level-zero seq coding way code mapped) (first_place way) 0 (first_place way) place block.pairs.items (omega arith);
  no_zeros = no_zeros-coarsened (new_level seq coding way code mapped) 0 (first_place way) block.pairs.items;
}

-- and no other block is
pub one_coarser_block : (seq : SeqState) (coding : PicCoding) (way : BlockWay) (code mapped : ℕ) (from a b : Block)
    → IsCoarserBlock seq coding way code mapped from a → IsCoarserBlock seq coding way code mapped from b → a ≡ b
one_coarser_block seq coding way code mapped from a b p q =
    ap₂ (λ d items. let block : Block = record { dc = d; pairs = record { items = items } } in block) (p.dc ∙ sym q.dc)
    (same_pairs (first_place way) a.pairs.items b.pairs.items p.no_zeros q.no_zeros (λ place. p.levels place ∙ sym (q.levels place)))

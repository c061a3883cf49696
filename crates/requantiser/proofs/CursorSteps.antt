-- The steps of a walk over the addresses of a picture.
use Rattle.std.proofs.Common.{◌≡◌, ℕ, ℤ, pos, ◌+◌, ◌-◌, ◌*◌, ◌^◌, ◌<◌, ◌≤◌, Option, Some, None, List, [], ◌∷◌, refl, sym, ◌∙◌, ap, subst, arith, unwrap_or, length}
use Rattle.std.specs.Prelude.{find}
use Rattle.std.specs.Option.{option_map_or}
use Rattle.std.specs.List.{sum_by}
use Rattle.std.proofs.lemmas.List.Sums.{sum_by-cons}
use Rattle.quant_math.specs.Scales.{IsCode}
use Rattle.syntax_types.specs.declared.macroblock.Macroblock.{Macroblock}
use Rattle.syntax_types.specs.declared.picture.Picture.{Picture}
use Rattle.syntax_types.specs.declared.slice.Slice.{Slice}
use Rattle.picture_grammar.specs.Picture.{first_column, rows, IsLawful}
use Rattle.picture_grammar.specs.Slice.{columns}
use Rattle.requantiser.specs.Distortion.{has_address, coefficient_in, coefficient_of_macroblock, coefficient_of_picture}
use Rattle.requantiser.specs.Private.Cursor.{AtAddress, at_slice, no_macroblock, at_slices, at_rest, AreInOrder, IsAhead, StandsAt}
use Rattle.requantiser.specs.Private.Shapes.{IsSide}
use Rattle.requantiser.proofs.Cursors.{open_slice, order_rises, here_is, later_is, skipped_is, in_order}
use Rattle.requantiser.proofs.MacroblockSteps.{span_of}
use Rattle.requantiser.proofs.SpelledPictures.{lawful-walkable}

module _ (picture : Picture) where
  -- all macroblocks of the picture
  abbrev count : ℕ
  count = rows picture.seq picture.coding * columns picture.seq

  -- ---- the coefficients at an address

  abbrev coefficient_there : AtAddress → ℕ → ℕ → ℤ
  coefficient_there at i place = coefficient_of_macroblock picture.seq picture.coding at.code at.macroblock i place

  pub coefficient_is : (address i place : ℕ) → coefficient_of_picture picture address i place ≡ coefficient_there (at_slices picture.seq picture.slices address) i place
  coefficient_is address i place = by_slice (find (has_address picture.seq address) picture.slices)
    where
      by_slice : (o : Option Slice) → option_map_or (λ slice. coefficient_in picture slice (address - slice.row * columns picture.seq) i place) o (pos 0)
          ≡ coefficient_there (option_map_or (at_slice picture.seq address) o no_macroblock) i place
      by_slice None = refl
      by_slice (Some s) = refl

  -- ---- the start

  pub start_stands : IsLawful picture → count ≤ 2 ^ 19 → StandsAt picture 0 1 0 [] picture.slices
  start_stands lawful few =
      let walkable = lawful-walkable picture lawful in
      let order : AreInOrder (columns picture.seq) 0 (0 + count) picture.slices = in_order picture.seq picture.slices 0 count walkable.slices lawful.covered in
      let end : 0 + count ≡ count = omega arith in
      record {
        few = few;
        weights = walkable.usable.weights;
        code_is = (omega arith, omega arith);
        walkable = tt;
        later = walkable.slices;
        order = subst (λ n. AreInOrder (columns picture.seq) 0 n picture.slices) end order;
        ahead = refl;
        same = λ b from. refl;
      }

  -- ---- the next slice

  has_some : (ms : List Macroblock) → first_column ms < sum_by span_of ms → 0 < length ms
  has_some [] some = absurd (let clash : 0 < 0 = some in omega (arith, clash))
  has_some (m ∷ ms) some = omega arith

  ahead_in : (address base : ℕ) (ms : List Macroblock) → first_column ms < sum_by span_of ms → address ≡ base + first_column ms → IsAhead address base ms
  ahead_in address base [] some at = absurd (let clash : 0 < 0 = some in omega (arith, clash))
  ahead_in address base (m ∷ ms) some at = (omega (arith, at), omega (arith, at))

  pub opened_stands : (address code start : ℕ) (s : Slice) (ss : List Slice) → StandsAt picture address code start [] (s ∷ ss)
      → StandsAt picture address s.code (s.row * columns picture.seq) s.macroblocks ss × (0 < length s.macroblocks)
  opened_stands address code start s ss stands =
      let at : start + 0 ≡ s.row * columns picture.seq + first_column s.macroblocks = stands.order.0 in
      let some : first_column s.macroblocks < sum_by span_of s.macroblocks = stands.order.1 in
      let here : address ≡ start = stands.ahead in
      let place : address ≡ s.row * columns picture.seq + first_column s.macroblocks = omega (arith, at, here) in (
        record {
          few = stands.few;
          weights = stands.weights;
          code_is = stands.later.0.code;
          walkable = stands.later.0.macroblocks;
          later = stands.later.1;
          order = stands.order.2;
          ahead = ahead_in address (s.row * columns picture.seq) s.macroblocks some place;
          same = λ b from. stands.same b from ∙ open_slice picture.seq s ss b (omega (arith, from, place));
        },
        has_some s.macroblocks some,
      )

  -- ---- the next macroblock

  module _ (address code start : ℕ) (m : Macroblock) (ms : List Macroblock) (ss : List Slice) (stands : StandsAt picture address code start (m ∷ ms) ss) where
    spans : sum_by span_of (m ∷ ms) ≡ m.skipped_before + 1 + sum_by span_of ms
    spans = sum_by-cons span_of m ms

    pub place_bound : start + m.skipped_before + 1 ≤ 2 ^ 19
    place_bound = omega (arith, spans, stands.few, order_rises picture.seq ss (start + sum_by span_of (m ∷ ms)) count stands.order)

    pub skipped_stands : address < start + m.skipped_before → StandsAt picture (address + 1) code start (m ∷ ms) ss
    skipped_stands below = record {
      few = stands.few;
      weights = stands.weights;
      code_is = stands.code_is;
      walkable = stands.walkable;
      later = stands.later;
      order = stands.order;
      ahead = (omega (arith, stands.ahead.0), omega (arith, below));
      same = λ b from. stands.same b (omega (arith, from));
    }

    pub skipped_value : address < start + m.skipped_before → (i place : ℕ) → coefficient_of_picture picture address i place ≡ pos 0
    skipped_value below i place =
        coefficient_is address i place
        ∙ ap (λ at. coefficient_there at i place) (stands.same address (omega arith) ∙ skipped_is picture.seq code start address count m ms ss stands.order below)

    ahead_behind : (ms : List Macroblock) → address ≡ start + m.skipped_before → IsAhead (address + 1) (start + m.skipped_before + 1) ms
    ahead_behind [] here = omega (arith, here)
    ahead_behind (n ∷ ns) here = (omega (arith, here), omega (arith, here))

    module _ (after : start + m.skipped_before ≤ address) (now : ℕ) (code_is : now ≡ unwrap_or m.code code) where
      here : address ≡ start + m.skipped_before
      here = omega (arith, after, stands.ahead.1)

      pub found_stands : IsCode now → StandsAt picture (address + 1) now (start + m.skipped_before + 1) ms ss
      found_stands is_code =
          let sums : start + sum_by span_of (m ∷ ms) ≡ start + m.skipped_before + 1 + sum_by span_of ms = omega (arith, spans) in
          record {
            few = stands.few;
            weights = stands.weights;
            code_is = is_code;
            walkable = stands.walkable.1;
            later = stands.later;
            order = subst (λ n. AreInOrder (columns picture.seq) n count ss) sums stands.order;
            ahead = ahead_behind ms here;
            same = λ b from. stands.same b (omega (arith, from)) ∙ later_is picture.seq code start b m ms ss (omega (arith, from, here))
                ∙ ap (λ n. at_rest picture.seq n (start + m.skipped_before + 1) ms ss b) (sym code_is);
          }

      pub found_value : (i place : ℕ) → coefficient_of_picture picture address i place ≡ coefficient_of_macroblock picture.seq picture.coding now (Some m) i place
      found_value i place =
          coefficient_is address i place
          ∙ ap (λ at. coefficient_there at i place) (stands.same address (omega arith) ∙ here_is picture.seq code start address m ms ss here)
          ∙ ap (λ n. coefficient_of_macroblock picture.seq picture.coding n (Some m) i place) (sym code_is)

      pub found_side : IsCode now → IsSide picture.seq now m
      found_side is_code = record {
        weights = stands.weights;
        code_is = is_code;
        six = stands.walkable.0.shape.six;
        blocks = stands.walkable.0.measured.blocks;
      }

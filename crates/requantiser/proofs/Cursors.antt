-- What a walk over addresses has before it.
use Rattle.std.proofs.Common.{◌≡◌, ℕ, zero, suc, ◌+◌, ◌-◌, ◌*◌, ◌<◌, ◌≤◌, Option, Some, None, List, [], ◌∷◌, ◌++◌, Bool, true, false, refl, sym, ◌∙◌, ap, ap₂, subst, ◌⊎◌, inl, inr, arith, unwrap_or}
use Rattle.std.specs.Prelude.{◌&&◌, nat_le, find, is_some, option_and_then}
use Rattle.std.specs.Option.{option_map_or}
use Rattle.std.specs.List.{AllByRecursion, sum_by, flat_map, range_with_len}
use Rattle.std.proofs.lemmas.Bool.{cases_eq, cases_lt, le-leb, lt-leb}
use Rattle.std.proofs.lemmas.List.Concat.{flat_map-cons}
use Rattle.std.proofs.lemmas.List.Sums.{sum_by-cons}
use Rattle.syntax_types.specs.declared.macroblock.Macroblock.{Macroblock}
use Rattle.syntax_types.specs.declared.picture.SeqState.{SeqState}
use Rattle.syntax_types.specs.declared.slice.Slice.{Slice}
use Rattle.picture_grammar.specs.Picture.{first_column, addresses}
use Rattle.picture_grammar.specs.Slice.{columns}
use Rattle.requantiser.specs.Distortion.{has_address}
use Rattle.requantiser.specs.Places.{item_at}
use Rattle.requantiser.specs.Slices.{macroblock_at, code_before, end_column}
use Rattle.requantiser.specs.Private.Cursor.{AtAddress, at_slice, no_macroblock, at_slices, code_before_place, or_slices, at_rest, AreInOrder}
use Rattle.requantiser.specs.Private.Shapes.{IsWalkableSlice}
use Rattle.requantiser.proofs.Places.{item_at-here, item_at-there, item_at-before}
use Rattle.requantiser.proofs.Slices.{gap_of, code_from, code_before-is, code_from-up_to, code_from-behind}

-- ---- places counted from the row's start, and addresses

shift_item : (base start place : ℕ) (ms : List Macroblock) → item_at gap_of (base + start) ms (base + place) ≡ item_at gap_of start ms place
shift_item base start place [] = refl
shift_item base start place (m ∷ ms) = by_place (shift_item base (start + gap_of m + 1) place ms) (cases_eq place (start + gap_of m))
  where
    by_place : item_at gap_of (base + (start + gap_of m + 1)) ms (base + place) ≡ item_at gap_of (start + gap_of m + 1) ms place
        → (place ≡ start + gap_of m) ⊎ (place ≡ start + gap_of m → ⊥) → item_at gap_of (base + start) (m ∷ ms) (base + place) ≡ item_at gap_of start (m ∷ ms) place
    by_place rest (inl here) = item_at-here gap_of (base + start) (base + place) m ms (omega (arith, here)) ∙ sym (item_at-here gap_of start place m ms here)
    by_place rest (inr there) =
        let sums : base + start + gap_of m + 1 ≡ base + (start + gap_of m + 1) = omega arith in
        item_at-there gap_of (base + start) (base + place) m ms (λ e. there (omega (arith, e))) ∙ ap (λ n. item_at gap_of n ms (base + place)) sums ∙ rest
        ∙ sym (item_at-there gap_of start place m ms there)

up_to : (code start : ℕ) (m : Macroblock) (ms : List Macroblock) (place : ℕ) → place ≤ start + gap_of m → code_before_place code start (m ∷ ms) place ≡ code
up_to code start m ms place within = rw (le-leb place (start + gap_of m) within) refl

behind : (code start : ℕ) (m : Macroblock) (ms : List Macroblock) (place : ℕ) → start + gap_of m < place
    → code_before_place code start (m ∷ ms) place ≡ code_before_place (unwrap_or m.code code) (start + gap_of m + 1) ms place
behind code start m ms place after = rw (lt-leb place (start + gap_of m) after) refl

shift_code : (base code start place : ℕ) (ms : List Macroblock) → code_before_place code (base + start) ms (base + place) ≡ code_from code start ms place
shift_code base code start place [] = refl
shift_code base code start place (m ∷ ms) = by_place (shift_code base (unwrap_or m.code code) (start + gap_of m + 1) place ms) (cases_lt (start + gap_of m) place)
  where
    by_place : code_before_place (unwrap_or m.code code) (base + (start + gap_of m + 1)) ms (base + place) ≡ code_from (unwrap_or m.code code) (start + gap_of m + 1) ms place
        → (start + gap_of m < place) ⊎ (place ≤ start + gap_of m) → code_before_place code (base + start) (m ∷ ms) (base + place) ≡ code_from code start (m ∷ ms) place
    by_place rest (inr early) = up_to code (base + start) m ms (base + place) (omega (arith, early)) ∙ sym (code_from-up_to code start m ms place early)
    by_place rest (inl after) =
        let sums : base + start + gap_of m + 1 ≡ base + (start + gap_of m + 1) = omega arith in
        behind code (base + start) m ms (base + place) (omega (arith, after)) ∙ ap (λ n. code_before_place (unwrap_or m.code code) n ms (base + place)) sums ∙ rest
        ∙ sym (code_from-behind code start m ms place after)

-- ---- the first slice that has an address

found_here : (test : Slice → Bool) (f : Slice → AtAddress) (s : Slice) (ss : List Slice) (d : AtAddress) → test s ≡ true → option_map_or f (find test (s ∷ ss)) d ≡ f s
found_here test f s ss d e = rw e refl

pub found_later : (test : Slice → Bool) (f : Slice → AtAddress) (s : Slice) (ss : List Slice) (d : AtAddress) → test s ≡ false
    → option_map_or f (find test (s ∷ ss)) d ≡ option_map_or f (find test ss) d
found_later test f s ss d e = rw e refl

pub and_false : (a b : Bool) → b ≡ false → (a && b) ≡ false
and_false true b e = e
and_false false b e = refl

pub no_left : (a b : Bool) → a ≡ false → (a && b) ≡ false
no_left a b e = rw e refl

module _ (seq : SeqState) where
  -- a slice is walked from its row's start
  pub open_slice : (s : Slice) (ss : List Slice) (address : ℕ) → s.row * columns seq ≤ address
      → at_slices seq (s ∷ ss) address ≡ at_rest seq s.code (s.row * columns seq) s.macroblocks ss address
  open_slice s ss address from =
      by_item (macroblock_at s column) refl
      ∙ ap (or_slices seq ss address (code_before_place s.code base s.macroblocks address)) item
    where
      base : ℕ
      base = s.row * columns seq

      column : ℕ
      column = address - base

      start_is : base ≡ base + 0
      start_is = omega arith

      address_is : address ≡ base + column
      address_is = omega (arith, from)

      item : macroblock_at s column ≡ item_at gap_of base s.macroblocks address
      item = sym (ap₂ (λ x y. item_at gap_of x s.macroblocks y) start_is address_is ∙ shift_item base 0 column s.macroblocks)

      code : code_before s column ≡ code_before_place s.code base s.macroblocks address
      code = code_before-is s column ∙ sym (ap₂ (λ x y. code_before_place s.code x s.macroblocks y) start_is address_is ∙ shift_code base s.code 0 column s.macroblocks)

      by_item : (o : Option Macroblock) → o ≡ macroblock_at s column → at_slices seq (s ∷ ss) address ≡ or_slices seq ss address (code_before_place s.code base s.macroblocks address) o
      by_item (Some m) is =
          found_here (has_address seq address) (at_slice seq address) s ss no_macroblock (ap₂ (λ a b. a && b) (le-leb base address from) (ap is_some (sym is)))
          ∙ ap₂ (λ (n : ℕ) (o : Option Macroblock). let x : AtAddress = record { code = n; macroblock = o } in x)
          (ap₂ (λ (o : Option Macroblock) (n : ℕ). unwrap_or (option_and_then (λ m. m.code) o) n) (sym is) code) (sym is)
      by_item None is = found_later (has_address seq address) (at_slice seq address) s ss no_macroblock (and_false (nat_le base address) (is_some (macroblock_at s column)) (ap is_some (sym is)))

  none_before : (ms : List Macroblock) (column : ℕ) → column < first_column ms → item_at gap_of 0 ms column ≡ None
  none_before [] column below = refl
  none_before (m ∷ ms) column below = item_at-there gap_of 0 column m ms (λ e. absurd (omega (arith, e, below))) ∙ item_at-before gap_of (0 + gap_of m + 1) column ms (omega (arith, below))

  -- slices have nothing before their first address
  pub nothing_before : (ss : List Slice) (from end address : ℕ) → AreInOrder (columns seq) from end ss → address < from → at_slices seq ss address ≡ no_macroblock
  nothing_before [] from end address order below = refl
  nothing_before (s ∷ ss) from end address (starts, some, others) below =
      found_later (has_address seq address) (at_slice seq address) s ss no_macroblock (by_row (cases_lt address (s.row * columns seq)))
      ∙ nothing_before ss (s.row * columns seq + end_column s) end address others (omega (arith, starts, some, below))
    where
      by_row : (address < s.row * columns seq) ⊎ (s.row * columns seq ≤ address) → has_address seq address s ≡ false
      by_row (inl above) = no_left (nat_le (s.row * columns seq) address) (is_some (macroblock_at s (address - s.row * columns seq))) (lt-leb (s.row * columns seq) address above)
      by_row (inr within) = and_false (nat_le (s.row * columns seq) address) (is_some (macroblock_at s (address - s.row * columns seq)))
          (ap is_some (none_before s.macroblocks (address - s.row * columns seq) (omega (arith, starts, below, within))))

  pub order_rises : (ss : List Slice) (from end : ℕ) → AreInOrder (columns seq) from end ss → from ≤ end
  order_rises [] from end order = omega (arith, order)
  order_rises (s ∷ ss) from end (starts, some, others) = omega (arith, starts, some, order_rises ss (s.row * columns seq + end_column s) end others)

  -- ---- one address

  -- a macroblock that stands at the address
  pub here_is : (code start address : ℕ) (m : Macroblock) (ms : List Macroblock) (ss : List Slice) → address ≡ start + gap_of m
      → at_rest seq code start (m ∷ ms) ss address ≡ record { code = unwrap_or m.code code; macroblock = Some m }
  here_is code start address m ms ss here =
      ap₂ (or_slices seq ss address) (up_to code start m ms address (omega (arith, here))) (item_at-here gap_of start address m ms here)

  pub later_is : (code start address : ℕ) (m : Macroblock) (ms : List Macroblock) (ss : List Slice) → start + gap_of m < address
      → at_rest seq code start (m ∷ ms) ss address ≡ at_rest seq (unwrap_or m.code code) (start + gap_of m + 1) ms ss address
  later_is code start address m ms ss after =
      ap₂ (or_slices seq ss address) (behind code start m ms address after) (item_at-there gap_of start address m ms (λ e. absurd (omega (arith, e, after))))

  -- a skipped one
  pub skipped_is : (code start address end : ℕ) (m : Macroblock) (ms : List Macroblock) (ss : List Slice)
      → AreInOrder (columns seq) (start + sum_by (λ m. m.skipped_before + 1) (m ∷ ms)) end ss → address < start + gap_of m
      → at_rest seq code start (m ∷ ms) ss address ≡ no_macroblock
  skipped_is code start address end m ms ss order below =
      ap₂ (or_slices seq ss address) (up_to code start m ms address (omega (arith, below)))
      (item_at-there gap_of start address m ms (λ e. absurd (omega (arith, e, below))) ∙ item_at-before gap_of (start + gap_of m + 1) address ms (omega (arith, below)))
      ∙ nothing_before ss (start + sum_by (λ m. m.skipped_before + 1) (m ∷ ms)) end address order (omega (arith, below, sum_by-cons (λ m. m.skipped_before + 1) m ms))

  -- ---- the order

  pub record IsFront (b count a n : ℕ) (xs : List ℕ) : Type 0 where
    pub starts : 1 ≤ count → b ≡ a
    pub within : count ≤ n
    pub rest : xs ≡ range_with_len (a + count) (n - count)

  front : (b count a n : ℕ) (xs : List ℕ) → range_with_len b count ++ xs ≡ range_with_len a n → IsFront b count a n xs
  front b zero a n xs e = record { starts = λ one. absurd (omega (arith, one)); within = omega arith; rest = e ∙ ap₂ range_with_len (omega arith) (omega arith) }
  front b (suc count) a zero xs e = absurd (let clash : b ∷ (range_with_len (b + 1) count ++ xs) ≡ [] = e in cc)
  front b (suc count) a (suc n) xs e =
      let both : b ∷ (range_with_len (b + 1) count ++ xs) ≡ a ∷ range_with_len (a + 1) n = e in
      let head : b ≡ a = cc in
      let tail : range_with_len (b + 1) count ++ xs ≡ range_with_len (a + 1) n = cc in
      let others : IsFront (b + 1) count (a + 1) n xs = front (b + 1) count (a + 1) n xs tail in
      record { starts = λ one. head; within = omega (arith, others.within); rest = others.rest ∙ ap₂ range_with_len (omega arith) (omega arith) }

  pub in_order : (ss : List Slice) (a n : ℕ) → AllByRecursion (IsWalkableSlice (columns seq)) ss → flat_map (addresses seq) ss ≡ range_with_len a n → AreInOrder (columns seq) a (a + n) ss
  in_order [] a zero are e = omega arith
  in_order [] a (suc n) are e = absurd (let clash : (let xs : List ℕ = [] in xs) ≡ a ∷ range_with_len (a + 1) n = e in cc)
  in_order (s ∷ ss) a n are e =
      let all : IsFront (s.row * columns seq + first_column s.macroblocks) (end_column s - first_column s.macroblocks) a n (flat_map (addresses seq) ss) =
      front (s.row * columns seq + first_column s.macroblocks) (end_column s - first_column s.macroblocks) a n (flat_map (addresses seq) ss) (sym (flat_map-cons (addresses seq) s ss) ∙ e) in
      let some : first_column s.macroblocks < end_column s = are.0.some in
      let starts : s.row * columns seq + first_column s.macroblocks ≡ a = all.starts (omega (arith, some)) in
      let others : AreInOrder (columns seq) (a + (end_column s - first_column s.macroblocks)) (a + (end_column s - first_column s.macroblocks) + (n - (end_column s - first_column s.macroblocks))) ss =
      in_order ss (a + (end_column s - first_column s.macroblocks)) (n - (end_column s - first_column s.macroblocks)) are.1 all.rest in
      let from : a + (end_column s - first_column s.macroblocks) ≡ s.row * columns seq + end_column s = omega (arith, some, starts) in
      let to : a + (end_column s - first_column s.macroblocks) + (n - (end_column s - first_column s.macroblocks)) ≡ a + n = omega (arith, all.within) in
      (sym starts, some, subst (λ x. AreInOrder (columns seq) x (a + n) ss) from (subst (λ x. AreInOrder (columns seq) (a + (end_column s - first_column s.macroblocks)) x ss) to others))

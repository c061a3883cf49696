-- How many bits are left to be counted, while they are counted.
use Rattle.std.proofs.Common.{◌≡◌, ℕ, zero, suc, ◌+◌, ◌-◌, ◌*◌, ◌<◌, ◌≤◌, List, [], ◌∷◌, ◌++◌, Bool, true, false, if◌then◌else◌, refl, sym, ap, ◌∙◌, add-one, length, get_or, drop, drop-cons, arith}
use Rattle.std.proofs.lemmas.List.{drop_all, length-append}
use Rattle.std.specs.List.{flat_map, range_with_len}
use Rattle.syntax_types.specs.declared.block.BlockWay.{BlockWay}
use Rattle.syntax_types.specs.declared.block.RunLevel.{RunLevel}
use Rattle.prefix_codes.specs.declared.symbol.TheConstants.{END_OF_BLOCK}
use Rattle.picture_grammar.specs.Block.{coefficient_table}
use Rattle.picture_grammar.specs.Written.{written_coefficient, written_coefficients}
use Rattle.prefix_codes.specs.TableName.{code_for}

-- a part that may stand
pub part_where : (stands : Bool) (part : List ℕ) (n : ℕ) → length part ≡ n → length (if stands then part else []) ≡ (if stands then n else 0)
part_where true part n is = is
part_where false part n is = refl

-- the same bits over and over
pub over_and_over : (part : List ℕ) (from n : ℕ) → length (flat_map (λ _. part) (range_with_len from n)) ≡ n * length part
over_and_over part from zero = omega arith
over_and_over part from (suc n) =
    let others = length (flat_map (λ _. part) (range_with_len (from + 1) n)) in
    let split : length (flat_map (λ _. part) (range_with_len from (suc n))) ≡ length part + others = length-append part (flat_map (λ _. part) (range_with_len (from + 1) n)) in
    split ∙ (let left : others ≡ n * length part = over_and_over part (from + 1) n in let sum : length part + others ≡ suc n * length part = omega (arith, left) in sum)

-- ---- a list, one item after the other

module _ {X : Type 0} (written : X → List ℕ) (xs : List X) (i : ℕ) (done all : ℕ) (rest : done + length (flat_map written (drop i xs)) ≡ all) where
  -- what is to be counted with one more item done
  pub one_more_counted : (default : X) → i < length xs → (done + length (written (get_or xs i default))) + length (flat_map written (drop (i + 1) xs)) ≡ all
  one_more_counted default within =
      let here : drop i xs ≡ get_or xs i default ∷ drop (i + 1) xs = drop-cons xs i default within ∙ ap (λ k. get_or xs i default ∷ drop k xs) (sym (add-one i)) in
      let split : length (flat_map written (drop i xs)) ≡ length (written (get_or xs i default)) + length (flat_map written (drop (i + 1) xs)) =
      ap (λ left. length (flat_map written left)) here ∙ length-append (written (get_or xs i default)) (flat_map written (drop (i + 1) xs)) in
      omega (arith, split, rest)

  -- and with none left
  pub none_more_counted : length xs ≤ i → done ≡ all
  none_more_counted past =
      let none : length (flat_map written (drop i xs)) ≡ 0 = ap (λ left. length (flat_map written left)) (drop_all i xs past) in
      omega (arith, none, rest)

-- the same over numbers one after the other
module _ (written : ℕ → List ℕ) (n i : ℕ) (done all : ℕ) (rest : done + length (flat_map written (range_with_len i (n - i))) ≡ all) where
  pub one_number_counted : i < n → (done + length (written i)) + length (flat_map written (range_with_len (i + 1) (n - (i + 1)))) ≡ all
  one_number_counted within =
      let count : n - i ≡ suc (n - (i + 1)) = omega arith in
      let split : length (flat_map written (range_with_len i (n - i))) ≡ length (written i) + length (flat_map written (range_with_len (i + 1) (n - (i + 1)))) =
      ap (λ k. length (flat_map written (range_with_len i k))) count ∙ length-append (written i) (flat_map written (range_with_len (i + 1) (n - (i + 1)))) in
      omega (arith, split, rest)

  pub no_number_counted : n ≤ i → done ≡ all
  no_number_counted past =
      let count : n - i ≡ 0 = omega arith in
      let none : length (flat_map written (range_with_len i (n - i))) ≡ 0 = ap (λ k. length (flat_map written (range_with_len i k))) count in
      omega (arith, none, rest)

-- ---- coefficients, one after the other

module _ (way : BlockWay) (place i : ℕ) (pairs : List RunLevel) (done all : ℕ) (rest : done + length (written_coefficients way place (drop i pairs)) ≡ all) where
  pub one_coefficient_counted : (default : RunLevel) → i < length pairs
      → (done + length (written_coefficient (coefficient_table way place) (get_or pairs i default)))
      + length (written_coefficients way (place + ((get_or pairs i default).run + 1)) (drop (i + 1) pairs)) ≡ all
  one_coefficient_counted default within =
      let pair = get_or pairs i default in
      let here : drop i pairs ≡ pair ∷ drop (i + 1) pairs = drop-cons pairs i default within ∙ ap (λ k. pair ∷ drop k pairs) (sym (add-one i)) in
      let first = written_coefficient (coefficient_table way place) pair in
      let others = written_coefficients way (place + (pair.run + 1)) (drop (i + 1) pairs) in
      let split : length (written_coefficients way place (drop i pairs)) ≡ length first + length others =
      ap (λ left. length (written_coefficients way place left)) here ∙ length-append first others in
      omega (arith, split, rest)

  pub the_end_counted : length pairs ≤ i → done + length (code_for (coefficient_table way place) END_OF_BLOCK) ≡ all
  the_end_counted past = ap (λ left. done + length (written_coefficients way place left)) (sym (drop_all i pairs past)) ∙ rest

-- What is still to be written, while it is written: of a list one item after the other, and behind a fault.
use Rattle.std.proofs.Common.{
  ◌≡◌,
  ℕ,
  suc,
  ◌+◌,
  ◌-◌,
  ◌<◌,
  ◌≤◌,
  List,
  ◌∷◌,
  ◌++◌,
  Result,
  Ok,
  Err,
  true,
  false,
  sym,
  ap,
  subst,
  ◌∙◌,
  add-one,
  length,
  get_or,
  drop,
  drop-cons,
  append_assoc,
  append-nil,
  arith,
}
use Rattle.std.proofs.lemmas.List.{drop_all}
use Rattle.std.specs.Result.{IsErr}
use Rattle.std.specs.List.{flat_map, range_with_len, AllByRecursion}
use Rattle.shelf_io.specs.declared.fault.Fault.{Fault}
use Rattle.shelf_io.specs.Sink.{Told}
use Rattle.bit_cursor.specs.declared.bit_writer.BitWriter.{BitWriter}
use Rattle.bit_cursor.specs.BitWriter.{Writes}
use Rattle.bit_cursor.proofs.Composed.{writes_no_more}

-- a call that failed, with still more to come behind it, at the exit of a `?`
pub writes_beyond : {K U : Type 0} {written : K → Told} {faults : K → ℕ} {keeps : K → K → Type 0} {a b : BitWriter K} {xs : List ℕ} (r : Result U Fault) (more : List ℕ)
    → IsErr r → Writes written faults keeps a b r xs → Writes written faults keeps a b r (xs ++ more)
writes_beyond (Ok x) more is call = absurd (let e : false ≡ true = is in cc)
writes_beyond (Err f) more is call = writes_no_more more call

-- ---- a list, one item after the other

module _ {X : Type 0} (written : X → List ℕ) (xs : List X) (i : ℕ) (done all : List ℕ) (rest : done ++ flat_map written (drop i xs) ≡ all) where
  -- what is to be written with one more item done
  pub one_more : (default : X) → i < length xs → (done ++ written (get_or xs i default)) ++ flat_map written (drop (i + 1) xs) ≡ all
  one_more default within =
      let here : drop i xs ≡ get_or xs i default ∷ drop (i + 1) xs = drop-cons xs i default within ∙ ap (λ k. get_or xs i default ∷ drop k xs) (sym (add-one i)) in
      append_assoc done (written (get_or xs i default)) (flat_map written (drop (i + 1) xs)) ∙ ap (λ left. done ++ flat_map written left) (sym here) ∙ rest

  -- and with none left
  pub none_more : length xs ≤ i → done ≡ all
  none_more past = sym (append-nil done) ∙ ap (λ left. done ++ flat_map written left) (sym (drop_all i xs past)) ∙ rest

-- what holds of each item that is left
module _ {X : Type 0} (P : X → Type 0) (xs : List X) (i : ℕ) (default : X) (within : i < length xs) (left : AllByRecursion P (drop i xs)) where
  left_here : AllByRecursion P (get_or xs i default ∷ drop (i + 1) xs)
  left_here = subst (AllByRecursion P) (drop-cons xs i default within ∙ ap (λ k. get_or xs i default ∷ drop k xs) (sym (add-one i))) left

  pub this_one : P (get_or xs i default)
  this_one = left_here.0

  pub other_ones : AllByRecursion P (drop (i + 1) xs)
  other_ones = left_here.1

-- the same over numbers one after the other
module _ (written : ℕ → List ℕ) (n i : ℕ) (done all : List ℕ) (rest : done ++ flat_map written (range_with_len i (n - i)) ≡ all) where
  pub one_number : i < n → (done ++ written i) ++ flat_map written (range_with_len (i + 1) (n - (i + 1))) ≡ all
  one_number within =
      let count : n - i ≡ suc (n - (i + 1)) = omega arith in
      append_assoc done (written i) (flat_map written (range_with_len (i + 1) (n - (i + 1)))) ∙ ap (λ k. done ++ flat_map written (range_with_len i k)) (sym count) ∙ rest

  pub no_number : n ≤ i → done ≡ all
  no_number past =
      let count : n - i ≡ 0 = omega arith in
      sym (append-nil done) ∙ ap (λ k. done ++ flat_map written (range_with_len i k)) (sym count) ∙ rest

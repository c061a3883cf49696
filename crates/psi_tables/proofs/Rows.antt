-- Rows of items, each spelled by its own bytes.
use Rattle.std.proofs.Common.{◌≡◌, ℕ, zero, suc, ◌<◌, Bool, true, false, List, [], ◌∷◌, ◌++◌, length, take, refl, sym, ap, subst, ◌∙◌, arith, length-append, append_assoc}
use Rattle.std.proofs.lemmas.List.{append-nil, append_cancel_left, take_at, nil_from_length}
use Rattle.std.specs.Prelude.{◌==◌}
use Rattle.std.proofs.lemmas.Bool.{false≢true, eqb-true}
use Rattle.psi_tables.specs.Section.{IsItemRow}

-- what `is_empty` tells of a length
pub not_empty : (answer : Bool) (n : ℕ) → answer ≡ (n == 0) → answer ≡ false → 0 < n
not_empty answer zero is false_is = absurd (false≢true (sym false_is ∙ is))
not_empty answer (suc n) is false_is = omega arith

pub empty : (answer : Bool) (n : ℕ) → answer ≡ (n == 0) → answer ≡ true → n ≡ 0
empty answer n is true_is = eqb-true n 0 (sym is ∙ true_is)

-- lists that are one, where their fronts have one length
pub same_parts : (f g b d : List ℕ) → f ++ b ≡ g ++ d → length f ≡ length g → (f ≡ g) × (b ≡ d)
same_parts f g b d same size =
    let front : f ≡ g = sym (take_at f b (length f) refl) ∙ ap (λ (xs : List ℕ). take (length f) xs) same ∙ take_at g d (length f) (sym size) in
    (front, append_cancel_left g b d (ap (λ (xs : List ℕ). xs ++ b) (sym front) ∙ same))

-- an item's bytes aren't none, they tell where they end, and they are those of one item alone
pub record IsTold {A : Type 0} (spells : A → List ℕ → Type 0) : Type 0 where
  pub some : (x : A) (front : List ℕ) → spells x front → 0 < length front
  pub ends : (x y : A) (f g b d : List ℕ) → f ++ b ≡ g ++ d → spells x f → spells y g → length f ≡ length g
  pub one : (x y : A) (front : List ℕ) → spells x front → spells y front → x ≡ y

-- a row and one more item
pub IsRow-push : {A : Type 0} (spells : A → List ℕ → Type 0) (xs : List A) (y : A) (a b : List ℕ) → IsItemRow spells xs a → spells y b → IsItemRow spells (xs ++ y ∷ []) (a ++ b)
IsRow-push spells [] y a b row more = (b, [], ap (λ (xs : List ℕ). xs ++ b) row ∙ sym (append-nil b), more, refl)
IsRow-push spells (x ∷ xs) y a b row more =
    (row.0, row.1 ++ b, ap (λ (bytes : List ℕ). bytes ++ b) row.2 ∙ append_assoc row.0 row.1 b, row.3, IsRow-push spells xs y row.1 b row.4 more)

-- a row that begins with an item's bytes begins with the item
pub IsRow-first : {A : Type 0} (spells : A → List ℕ → Type 0) → IsTold spells → (x : A) (xs : List A) (front behind : List ℕ) → spells x front
    → IsItemRow spells xs (front ++ behind) → (ys : List A) × (xs ≡ x ∷ ys) × IsItemRow spells ys behind
IsRow-first spells told x [] front behind is row = absurd (omega (arith, told.some x front is, ap length row, length-append front behind))
IsRow-first {A} spells told x (y ∷ ys) front behind is row =
    let parts = same_parts front row.0 behind row.1 row.2 (told.ends x y front row.0 behind row.1 row.2 is row.3) in
    let same : y ≡ x = told.one y x row.0 row.3 (subst (spells x) parts.0 is) in
    (ys, ap (λ (z : A). z ∷ ys) same, subst (IsItemRow spells ys) (sym parts.1) row.4)

-- so far these items were taken, and the rest is left
pub record IsUnderWay {A : Type 0} (spells : A → List ℕ → Type 0) (bytes rest : List ℕ) (done : List A) : Type 0 where
  pub taken : List ℕ
  pub row : IsItemRow spells done taken
  pub joined : bytes ≡ taken ++ rest

-- at the beginning
pub under_way_none : {A : Type 0} (spells : A → List ℕ → Type 0) (bytes : List ℕ) → IsUnderWay spells bytes bytes []
under_way_none spells bytes = record { taken = []; row = refl; joined = refl }

-- one item more
pub under_way_more : {A : Type 0} (spells : A → List ℕ → Type 0) (bytes rest : List ℕ) (done : List A) (x : A) (front behind : List ℕ)
    → IsUnderWay spells bytes rest done → rest ≡ front ++ behind → spells x front → IsUnderWay spells bytes behind (done ++ x ∷ [])
under_way_more spells bytes rest done x front behind is split more = record {
  taken = is.taken ++ front;
  row = IsRow-push spells done x is.taken front is.row more;
  joined = is.joined ∙ ap (λ (xs : List ℕ). is.taken ++ xs) split ∙ sym (append_assoc is.taken front behind);
}

-- at the end
pub under_way_all : {A : Type 0} (spells : A → List ℕ → Type 0) (bytes rest : List ℕ) (done : List A) → IsUnderWay spells bytes rest done → length rest ≡ 0 → IsItemRow spells done bytes
under_way_all spells bytes rest done is none =
    subst (IsItemRow spells done) (sym (is.joined ∙ ap (λ (xs : List ℕ). is.taken ++ xs) (nil_from_length rest none) ∙ append-nil is.taken)) is.row

-- a row of all the bytes goes on with a row of the rest
pub row_of_rest : {A : Type 0} (spells : A → List ℕ → Type 0) → IsTold spells → (done xs : List A) (taken rest : List ℕ) → IsItemRow spells done taken
    → IsItemRow spells xs (taken ++ rest) → (ys : List A) × (xs ≡ done ++ ys) × IsItemRow spells ys rest
row_of_rest spells told [] xs taken rest first row = (xs, refl, subst (λ (front : List ℕ). IsItemRow spells xs (front ++ rest)) first row)
row_of_rest {A} spells told (x ∷ done) xs taken rest first row =
    let bytes : taken ++ rest ≡ first.0 ++ (first.1 ++ rest) = ap (λ (front : List ℕ). front ++ rest) first.2 ∙ append_assoc first.0 first.1 rest in
    let one = IsRow-first spells told x xs first.0 (first.1 ++ rest) first.3 (subst (IsItemRow spells xs) bytes row) in
    let others = row_of_rest spells told done one.0 first.1 rest first.4 one.2 in
    (others.0, one.1 ∙ ap (λ (ys : List A). x ∷ ys) others.1, others.2)

pub under_way_rest : {A : Type 0} (spells : A → List ℕ → Type 0) → IsTold spells → (bytes rest : List ℕ) (done xs : List A)
    → IsUnderWay spells bytes rest done → IsItemRow spells xs bytes → (ys : List A) × (xs ≡ done ++ ys) × IsItemRow spells ys rest
under_way_rest spells told bytes rest done xs is row = row_of_rest spells told done xs is.taken rest is.row (subst (IsItemRow spells xs) is.joined row)

-- no bytes are a row of nothing
pub row_of_none : {A : Type 0} (spells : A → List ℕ → Type 0) → IsTold spells → (xs : List A) (bytes : List ℕ) → length bytes ≡ 0 → IsItemRow spells xs bytes → xs ≡ []
row_of_none spells told [] bytes none row = refl
row_of_none spells told (x ∷ xs) bytes none row = absurd (omega (arith, told.some x row.0 row.3, none, ap length row.2, length-append row.0 row.1))

-- bytes are one row at most
pub one_row : {A : Type 0} (spells : A → List ℕ → Type 0) → IsTold spells → (bytes rest : List ℕ) (done xs : List A)
    → IsUnderWay spells bytes rest done → length rest ≡ 0 → IsItemRow spells xs bytes → xs ≡ done
one_row {A} spells told bytes rest done xs is none row =
    let behind = under_way_rest spells told bytes rest done xs is row in
    behind.1 ∙ ap (λ (ys : List A). done ++ ys) (row_of_none spells told behind.0 rest none behind.2) ∙ append-nil done

-- and of all the bytes
pub same_row : {A : Type 0} (spells : A → List ℕ → Type 0) → IsTold spells → (xs ys : List A) (bytes : List ℕ) → IsItemRow spells xs bytes → IsItemRow spells ys bytes → xs ≡ ys
same_row spells told xs ys bytes first second = one_row spells told bytes [] ys xs (record { taken = bytes; row = second; joined = sym (append-nil bytes) }) refl first

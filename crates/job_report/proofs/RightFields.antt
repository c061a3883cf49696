-- Fields with which nothing is wrong: what stands there is of the type and in range.
use Rattle.std.proofs.Common.{
  ◌≡◌,
  ℕ,
  zero,
  suc,
  ◌<◌,
  ◌≤◌,
  ◌+◌,
  Bool,
  true,
  false,
  ◌&&◌,
  ◌++◌,
  if◌then◌else◌,
  List,
  [],
  ◌∷◌,
  length,
  map,
  get_or,
  leb,
  ltb,
  Option,
  Some,
  None,
  unwrap_or,
  refl,
  subst,
  ap,
  arith,
}
use Rattle.std.specs.Prelude.{All}
use Rattle.std.specs.List.{list_all}
use Rattle.std.specs.List.Sorted.{IsStrictlyIncreasing}
use Rattle.std.proofs.lemmas.Bool.{and_parts, leb-true, ltb-true}
use Rattle.std.proofs.lemmas.List.{length-map}
use Rattle.std.proofs.lemmas.List.Elements.{All-nil, All-cons}
use Rattle.toml.specs.Data.{Data, Members, get_member}
use Rattle.job_report.specs.Field.{Field, required, optional_field, natural_of, values_in, is_between, are_numbers, rises}
use Rattle.job_report.specs.Refusal.{FieldRefusal, OfField, OfLimit, refusals_of_value, refusals_of_stated, refusals_of_field}
use Rattle.job_report.specs.Job.{integer_of, array_of, stated_or}
use Rattle.job_report.specs.Private.Value.{IsRight}
use Rattle.job_report.proofs.Stated.{values_in-array_of}

-- nothing is wrong in a row: nothing is wrong before, nor behind
pub none_before : (a b : List FieldRefusal) → a ++ b ≡ [] → a ≡ []
none_before [] b e = refl
none_before (r ∷ a) b e = absurd cc

pub none_behind : (a b : List FieldRefusal) → a ++ b ≡ [] → b ≡ []
none_behind [] b e = e
none_behind (r ∷ a) b e = absurd cc

-- nothing is wrong with a value of the type that is in range, and with no other
both_true : (t r : Bool) (name : List ℕ) → (if t then (if r then [] else OfLimit name ∷ []) else OfField name ∷ []) ≡ [] → (t ≡ true) × (r ≡ true)
both_true true true name e = (refl, refl)
both_true true false name e = absurd cc
both_true false r name e = absurd cc

pub value_right : (field : Field) (name : List ℕ) (value : Data) → refusals_of_value field name value ≡ [] → IsRight field.has_type field.in_range value
value_right field name value e =
    let h = both_true (field.has_type value) (field.in_range value) name e in
    record { of_type = h.0; within = h.1 }

-- what stands in a field that must be there
pub required_right : (place : List ℕ) (entries : Members) (name : List ℕ) (has_type in_range : Data → Bool) (value : Data)
    → refusals_of_field place entries (required name has_type in_range) ≡ [] → get_member name entries ≡ Some value → IsRight has_type in_range value
unfolding refusals_of_field
required_right place entries name has_type in_range value e is =
    let P : Option Data → Type 0 = λ found. refusals_of_stated (required name has_type in_range) (place ++ name) found ≡ [] in
    value_right (required name has_type in_range) (place ++ name) value (subst P is e)

-- what stands in a field that may be left out, or the default
pub optional_right : (place : List ℕ) (entries : Members) (name : List ℕ) (has_type in_range : Data → Bool) (default value : Data)
    → refusals_of_field place entries (optional_field name has_type in_range) ≡ [] → stated_or default name entries ≡ value
    → IsRight has_type in_range default → IsRight has_type in_range value
unfolding refusals_of_field
optional_right place entries name has_type in_range default value e is right =
    let P : Data → Type 0 = IsRight has_type in_range in
    subst P is (found (optional_field name has_type in_range) (place ++ name) (get_member name entries) default e right)
  where
    found : (field : Field) (name : List ℕ) (stated : Option Data) (default : Data) → refusals_of_stated field name stated ≡ []
        → IsRight field.has_type field.in_range default → IsRight field.has_type field.in_range (unwrap_or stated default)
    found field name None default e right = right
    found field name (Some value) default e right = value_right field name value e

-- a number in range
pub between : (least most n : ℕ) → is_between least most (integer_of n) ≡ true → (least ≤ n) × (n ≤ most)
between least most n e =
    let h = and_parts (leb least n) (leb n most) e in
    (leb-true least n h.0, leb-true n most h.1)

-- numbers in range
all_between : (least most : ℕ) (ns : List ℕ) → list_all (is_between least most) (map integer_of ns) ≡ true → All (λ n. (least ≤ n) × (n ≤ most)) ns
all_between least most [] e = All-nil (λ n. (least ≤ n) × (n ≤ most))
all_between least most (n ∷ ns) e =
    let h = and_parts (is_between least most (integer_of n)) (list_all (is_between least most) (map integer_of ns)) e in
    All-cons (λ n. (least ≤ n) × (n ≤ most)) n ns (between least most n h.0) (all_between least most ns h.1)

-- numbers of an array: few, and each in range
pub numbers_right : (count least most : ℕ) (ns : List ℕ) → are_numbers count least most (array_of ns) ≡ true
    → (length ns ≤ count) × All (λ n. (least ≤ n) × (n ≤ most)) ns
numbers_right count least most ns e =
    let P : List Data → Type 0 = λ values. (leb (length values) count && list_all (is_between least most) values) ≡ true in
    let h = and_parts (leb (length (map integer_of ns)) count) (list_all (is_between least most) (map integer_of ns)) (subst P (values_in-array_of ns) e) in
    let few = leb-true (length (map integer_of ns)) count h.0 in
    (omega (few, length-map ns integer_of, arith), all_between least most ns h.1)

naturals : (ns : List ℕ) → map natural_of (map integer_of ns) ≡ ns
naturals [] = refl
naturals (n ∷ ns) = ap (λ ms. n ∷ ms) (naturals ns)

-- numbers that rise
rising : (ns : List ℕ) → rises ns ≡ true → (k : ℕ) → k + 1 < length ns → get_or ns k 0 < get_or ns (k + 1) 0
rising [] e k below = absurd (omega (arith, below))
rising (n ∷ []) e k below = absurd (omega (arith, below))
rising (n ∷ m ∷ ns) e zero below = ltb-true n m (and_parts (ltb n m) (rises (m ∷ ns)) e).0
rising (n ∷ m ∷ ns) e (suc k) below =
    let next : suc k + 1 ≡ suc (k + 1) = omega arith in
    rw next (rising (m ∷ ns) (and_parts (ltb n m) (rises (m ∷ ns)) e).1 k (omega (arith, below)))

-- how coarse versions are: few numbers, each in range, that rise
pub coarser_right : (count least most : ℕ) (ns : List ℕ)
    → (are_numbers count least most (array_of ns) && rises (map natural_of (values_in (array_of ns)))) ≡ true
    → (are_numbers count least most (array_of ns) ≡ true) × IsStrictlyIncreasing ns
coarser_right count least most ns e =
    let h = and_parts (are_numbers count least most (array_of ns)) (rises (map natural_of (values_in (array_of ns)))) e in
    let P : List Data → Type 0 = λ values. rises (map natural_of values) ≡ true in
    let Q : List ℕ → Type 0 = λ ms. rises ms ≡ true in
    (h.0, rising ns (subst Q (naturals ns) (subst P (values_in-array_of ns) h.1)))

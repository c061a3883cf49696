-- Values of TOML by their accessors, and arrays as lists.
use Rattle.std.proofs.Common.{◌≡◌, ℕ, Bool, false, List, [], ◌∷◌, map, Some, None, refl, ap, true≢false}
use Rattle.std.specs.List.{list_all}
use Rattle.std.proofs.lemmas.List.Folds.{list_all-map}
use Rattle.std.proofs.lemmas.Option.{same_Some}
use Rattle.toml.specs.Data.{Data, string, integer, float, boolean, datetime, array, table, Items, as_array}
use Rattle.toml.specs.View.{view, items_of, items_view}
use Rattle.toml.specs.declared.value.Value.{Value}
use Rattle.job_report.specs.Field.{list_of_items, values_in, is_integer, is_between, is_array_of}
use Rattle.job_report.specs.declared.values.Wrong.{Wrong}
use Rattle.job_report.specs.declared.values.Wrong.TheVariants.{OtherType, OutOfRange}
use Rattle.job_report.specs.Private.Value.{IsWrong}
use Rattle.job_report.specs.Job.{integer_of, items_of_numbers, array_of}

pub list_of_items-items_of : (values : List Data) → list_of_items (items_of values) ≡ values
list_of_items-items_of [] = refl
list_of_items-items_of (value ∷ values) = ap (λ vs. value ∷ vs) (list_of_items-items_of values)

pub array-some : (value : Data) (items : Items) → as_array value ≡ Some items → value ≡ array items
array-some (array x) items e = ap array (same_Some _ _ e)
array-some (string s) items e = absurd cc
array-some (float x) items e = absurd cc
array-some (boolean b) items e = absurd cc
array-some (datetime dt) items e = absurd cc
array-some (integer z) items e = absurd cc
array-some (table ms) items e = absurd cc

pub array-none : (value : Data) → as_array value ≡ None → (has_type : Data → Bool) → is_array_of has_type value ≡ false
array-none (array x) e has_type = absurd cc
array-none (string s) e has_type = refl
array-none (float x) e has_type = refl
array-none (boolean b) e has_type = refl
array-none (datetime dt) e has_type = refl
array-none (integer z) e has_type = refl
array-none (table ms) e has_type = refl

pub values_in-items_view : (values : List Value) → values_in (array (items_view values)) ≡ map view values
values_in-items_view values = list_of_items-items_of (map view values)

pub is_array_of-items_view : (has_type : Data → Bool) (values : List Value) → is_array_of has_type (array (items_view values)) ≡ list_all (λ value. has_type (view value)) values
is_array_of-items_view has_type values = rw (list_of_items-items_of (map view values)) (list_all-map has_type view values)

pub items_of_numbers-map : (numbers : List ℕ) → items_of (map integer_of numbers) ≡ items_of_numbers numbers
items_of_numbers-map [] = refl
items_of_numbers-map (n ∷ ns) = rw (items_of_numbers-map ns)

-- a value that is no number, or out of range, is not between
pub not_between : (least most : ℕ) (value : Data) (wrong : Wrong) → IsWrong is_integer (is_between least most) value wrong → is_between least most value ≡ false
not_between least most value OutOfRange h = h.1
not_between least most (integer z) OtherType h = absurd (true≢false h)
not_between least most (array x) OtherType h = refl
not_between least most (string s) OtherType h = refl
not_between least most (float x) OtherType h = refl
not_between least most (boolean b) OtherType h = refl
not_between least most (datetime dt) OtherType h = refl
not_between least most (table ms) OtherType h = refl

pub values_in-array_of : (numbers : List ℕ) → values_in (array_of numbers) ≡ map integer_of numbers
values_in-array_of [] = refl
values_in-array_of (n ∷ ns) = ap (λ vs. integer_of n ∷ vs) (values_in-array_of ns)

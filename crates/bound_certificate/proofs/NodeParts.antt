-- Where the parts of a node are refused, and the items in its bytes.
use Rattle.std.proofs.Common.{◌≡◌, ℕ, zero, suc, ◌+◌, ◌*◌, ◌^◌, ◌<◌, ◌≤◌, List, [], ◌∷◌, ◌++◌, length, get_or, take, drop, slice_index, refl, sym, ap, ap₂, subst, ◌∙◌, arith, lit<, length-append}
use Rattle.std.specs.List.{flat_map, AllByRecursion}
use Rattle.std.specs.Int.{w16, to_be_bytes, from_be_bytes}
use Rattle.std.proofs.lemmas.Nat.{from_be_bytes-to_be_bytes_2}
use Rattle.std.proofs.lemmas.Grind.{flat_map-append}
use Rattle.std.proofs.lemmas.List.{append-nil, drop-drop, length_push, take_all}
use Rattle.bit_lists.specs.Fields.{AreBytes}
use Rattle.bound_certificate.specs.declared.fault.Stop.{Stop}
use Rattle.bound_certificate.specs.declared.fault.Stop.TheVariants.{At, OutOfMemory}
use Rattle.bound_certificate.specs.Private.Texts.{IsOneOf, IsByte, IsBlock, IsRefused, IsStop, IsKind, IsCount, count_of, AreCounted, IsLongCount, AreLongCounted, IsBody, IsNode}
use Rattle.bound_certificate.proofs.Refusals.{stop_first, stop_next}
use Rattle.bound_certificate.proofs.Parts.{ends_count, ends_long_count, ends_one, no_byte, one_of, some_counted, some_long_counted, body_of}
use Rattle.bound_certificate.proofs.Numbers.{long_count_text}
use Rattle.bound_certificate.proofs.Heads.{is_byte}

-- ---- kinds

kind_refused : (version : ℕ) (bytes : List ℕ) (left : ℕ) → AreBytes bytes → IsRefused (IsByte 0 255) bytes left → IsRefused (IsOneOf (IsKind version)) bytes left
kind_refused version [] left are r =
    let none : 0 ≡ left = omega (arith, r.left_is, ap length r.parts, length-append r.before r.rest) in
    subst (λ (n : ℕ). IsRefused (IsOneOf (IsKind version)) [] n) none (no_byte (IsKind version) [] 4 tt (lit< tt) refl)
kind_refused version (byte ∷ bytes) left are r = absurd (r.whole (byte ∷ []) bytes refl (is_byte 0 255 byte (omega arith) (omega (arith, are.0)) (lit< tt)))

pub stop_kind : (version : ℕ) (bytes : List ℕ) (stop : Stop) → IsStop (IsByte 0 255) bytes stop → IsStop (IsOneOf (IsKind version)) bytes stop
stop_kind version bytes OutOfMemory refused = tt
stop_kind version bytes (At left) refused = λ are. kind_refused version bytes left are (refused are)

-- ---- counted items

pub is_count : (count : ℕ) → count ≤ 64 → IsCount (0 ∷ count ∷ [])
is_count count few = record {
  front = 0 ∷ [];
  behind = count ∷ [];
  joined = refl;
  first_is = is_byte 0 0 0 (omega arith) (omega arith) (lit< tt);
  second_is = is_byte 0 64 count (omega arith) few (lit< tt);
}

pub stop_count : (size : ℕ) (bytes : List ℕ) (stop : Stop) → IsStop IsCount bytes stop → IsStop (AreCounted size) bytes stop
stop_count size bytes stop refused = stop_first IsCount (λ count. IsBlock (size * count_of count)) bytes stop (some_counted size) refused

pub stop_items : (size count : ℕ) (bytes rest : List ℕ) (stop : Stop) → count ≤ 64 → bytes ≡ 0 ∷ count ∷ rest → IsStop (IsBlock (size * count)) rest stop → IsStop (AreCounted size) bytes stop
stop_items size count bytes rest stop few same refused =
    stop_next IsCount (λ c. IsBlock (size * count_of c)) bytes (0 ∷ count ∷ []) rest stop ends_count (is_count count few) same refused

pub stop_long_count : (size : ℕ) (bytes : List ℕ) (stop : Stop) → IsStop IsLongCount bytes stop → IsStop (AreLongCounted size) bytes stop
stop_long_count size bytes stop refused = stop_first IsLongCount (λ count. IsBlock (size * from_be_bytes w16 count)) bytes stop (some_long_counted size) refused

pub stop_long_items : (size count : ℕ) (bytes rest : List ℕ) (stop : Stop) → count ≤ 4096 → bytes ≡ to_be_bytes w16 count ++ rest → IsStop (IsBlock (size * count)) rest stop
    → IsStop (AreLongCounted size) bytes stop
stop_long_items size count bytes rest stop few same refused =
    let count_is : from_be_bytes w16 (to_be_bytes w16 count) ≡ count = from_be_bytes-to_be_bytes_2 count (omega (arith, few)) in
    stop_next IsLongCount (λ c. IsBlock (size * from_be_bytes w16 c)) bytes (to_be_bytes w16 count) rest stop ends_long_count (long_count_text count few) same
    (subst (λ (n : ℕ). IsStop (IsBlock (size * n)) rest stop) (sym count_is) refused)

-- ---- nodes

pub stop_node_kind : (version : ℕ) (bytes : List ℕ) (stop : Stop) → IsStop (IsOneOf (IsKind version)) bytes stop → IsStop (IsNode version) bytes stop
stop_node_kind version bytes stop refused = stop_first (IsOneOf (IsKind version)) (λ kind. IsBody (slice_index kind 0)) bytes stop (λ kind _. body_of kind) refused

pub stop_node_body : (version kind : ℕ) (bytes rest : List ℕ) (stop : Stop) → IsKind version kind → kind < 2 ^ 8 → bytes ≡ kind ∷ rest → IsStop (IsBody kind) rest stop
    → IsStop (IsNode version) bytes stop
stop_node_body version kind bytes rest stop is fits same refused =
    stop_next (IsOneOf (IsKind version)) (λ k. IsBody (slice_index k 0)) bytes (kind ∷ []) rest stop (ends_one (IsKind version)) (one_of (IsKind version) kind is fits) same refused

-- ---- items in a block

pub take_add : (n m : ℕ) (xs : List ℕ) → take (n + m) xs ≡ take n xs ++ take m (drop n xs)
take_add zero m xs = ap (λ (k : ℕ). take k xs) (let e : 0 + m ≡ m = omega arith in e)
take_add (suc n) m [] =
    let none : List ℕ = [] in
    take_all (suc n + m) none (omega arith) ∙ sym (take_all m none (omega arith))
take_add (suc n) m (x ∷ xs) = ap (λ (k : ℕ). take k (x ∷ xs)) (let e : suc n + m ≡ suc (n + m) = omega arith in e) ∙ ap (λ (ys : List ℕ). x ∷ ys) (take_add n m xs)

pub two_parts : (place n m : ℕ) (xs a b : List ℕ) → a ≡ take n (drop place xs) → b ≡ take m (drop (place + n) xs) → a ++ b ≡ take (n + m) (drop place xs)
two_parts place n m xs a b first second =
    ap₂ (λ (s t : List ℕ). s ++ t) first (second ∙ ap (λ (ys : List ℕ). take m ys) (sym (drop-drop n place xs))) ∙ sym (take_add n m (drop place xs))

pub one_byte : (n : ℕ) (xs : List ℕ) → n < length xs → get_or xs n 0 ∷ [] ≡ take 1 (drop n xs)
one_byte n [] short = absurd (omega (arith, short))
one_byte zero (x ∷ xs) short = refl
one_byte (suc n) (x ∷ xs) short = one_byte n xs (omega (arith, short))

pub AllByRecursion-push : {A : Type 0} (P : A → Type 0) (xs : List A) (x : A) → AllByRecursion P xs → P x → AllByRecursion P (xs ++ x ∷ [])
AllByRecursion-push P [] x all is = (is, tt)
AllByRecursion-push P (y ∷ ys) x all is = (all.0, AllByRecursion-push P ys x all.1 is)

-- what was read of so many items in a block
pub record HasTaken {A : Type 0} (spelled : A → List ℕ) (holds : A → Type 0) (size : ℕ) (block : List ℕ) (items : List A) (i : ℕ) : Type 0 where
  pub count : length items ≡ i
  pub hold : AllByRecursion holds items
  pub bytes : flat_map spelled items ≡ take (size * i) block

pub taken_none : {A : Type 0} (spelled : A → List ℕ) (holds : A → Type 0) (size : ℕ) (block : List ℕ) → HasTaken spelled holds size block [] 0
taken_none spelled holds size block = record { count = refl; hold = tt; bytes = ap (λ (n : ℕ). take n block) (let e : 0 ≡ size * 0 = omega arith in e) }

pub taken_more : {A : Type 0} (spelled : A → List ℕ) (holds : A → Type 0) (size : ℕ) (block : List ℕ) (items : List A) (i : ℕ) (item : A) → HasTaken spelled holds size block items i
    → holds item → spelled item ≡ take size (drop (size * i) block) → HasTaken spelled holds size block (items ++ item ∷ []) (i + 1)
taken_more {A} spelled holds size block items i item taken is bytes = record {
  count = length_push items item ∙ ap (λ (n : ℕ). n + 1) taken.count;
  hold = AllByRecursion-push holds items item taken.hold is;
  bytes =
      flat_map-append spelled items (item ∷ [])
      ∙ ap₂ (λ (s t : List ℕ). s ++ t) taken.bytes (append-nil (spelled item) ∙ bytes)
      ∙ sym (take_add (size * i) size block)
      ∙ ap (λ (n : ℕ). take n block) (mul_more size i);
}
  where
    mul_more : (n k : ℕ) → n * k + n ≡ n * (k + 1)
    mul_more n k = grind arith

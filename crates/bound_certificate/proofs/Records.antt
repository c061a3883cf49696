-- Texts of nodes, and the nodes of texts.
use Rattle.std.proofs.Common.{◌≡◌, ℕ, zero, suc, ◌+◌, ◌*◌, ◌^◌, ◌<◌, ◌≤◌, Bool, true, false, List, [], ◌∷◌, ◌++◌, length, get_or, take, drop, slice_index, refl, sym, ap, ap₂, subst, ◌∙◌, arith, lit<, length-append}
use Rattle.std.specs.List.{flat_map, AllByRecursion}
use Rattle.std.specs.Int.{w16, w32, w64, to_be_bytes, from_be_bytes}
use Rattle.std.proofs.lemmas.Nat.{from_be_bytes-to_be_bytes_2}
use Rattle.std.proofs.lemmas.List.{take-append-drop, length-drop, length-take-le, nil_from_length}
use Rattle.bit_lists.specs.Fields.{AreBytes, flag}
use Rattle.bit_lists.proofs.ByteLemmas.{AreBytes-append}
use Rattle.bit_lists.proofs.FieldLemmas.{flag-same}
use Rattle.dual_bounds.specs.declared.windows.Multiplier.{Multiplier}
use Rattle.dual_bounds.specs.declared.windows.Window.{Window as PricedWindow}
use Rattle.buffer_windows.specs.declared.windows.BufferWindow.{BufferWindow as SeeingWindow}
use Rattle.bound_certificate.specs.declared.cert.Node.{Node}
use Rattle.bound_certificate.specs.declared.cert.Node.TheVariants.{Branch, Dual, Run, Open, Window, BufferWindow}
use Rattle.bound_certificate.specs.Cert.{IsStatedMultiplier, IsStatedWindow, IsStatedBufferWindow, HasRoom, NodeMayStand}
use Rattle.bound_certificate.specs.Spelling.{bytes_of_multiplier, bytes_of_window, bytes_of_buffer_window, bytes_of_node}
use Rattle.bound_certificate.specs.Private.Texts.{Then, IsBlock, IsByte, AreTexts, IsKind, IsCount, count_of, IsLongCount, IsBody, IsNode}
use Rattle.bound_certificate.proofs.Refusals.{same_parts, are_bytes_front, are_bytes_behind}
use Rattle.bound_certificate.proofs.Parts.{one_of, ends_node}
use Rattle.bound_certificate.proofs.Heads.{is_byte}
use Rattle.bound_certificate.proofs.NodeParts.{is_count}
use Rattle.bound_certificate.proofs.Numbers.{one_number_2, one_number_4, one_number_8, block_4, are_bytes_8, short_count, long_count_of, long_count_text, number_4, number_8}

-- ---- items of one size

-- the bytes of an item that holds are so many, each block of so many is an item's, and that of one alone
pub record IsItem {A : Type 0} (spelled : A → List ℕ) (holds : A → Type 0) (size : ℕ) : Type 0 where
  pub block : (item : A) → holds item → IsBlock size (spelled item)
  pub item : (bytes : List ℕ) → IsBlock size bytes → (x : A) × holds x × (bytes ≡ spelled x)
  pub one : (x y : A) → holds x → holds y → spelled x ≡ spelled y → x ≡ y

joined_blocks : (m n : ℕ) (a b : List ℕ) → IsBlock m a → IsBlock n b → IsBlock (m + n) (a ++ b)
joined_blocks m n a b first second = record {
  size = omega (arith, length-append a b, first.size, second.size);
  are_bytes = AreBytes-append a b first.are_bytes second.are_bytes;
}

pub split_block : (m n all : ℕ) (bytes : List ℕ) → all ≡ m + n → IsBlock all bytes → IsBlock m (take m bytes) × IsBlock n (drop m bytes) × (bytes ≡ take m bytes ++ drop m bytes)
split_block m n all bytes sum is =
    let same : bytes ≡ take m bytes ++ drop m bytes = sym (take-append-drop m bytes) in
    let are = subst AreBytes same is.are_bytes in (
      record { size = length-take-le m bytes (omega (arith, sum, is.size)); are_bytes = are_bytes_front (take m bytes) (drop m bytes) are },
      record { size = omega (arith, length-drop m bytes, sum, is.size); are_bytes = are_bytes_behind (take m bytes) (drop m bytes) are },
      same,
    )

items_block : {A : Type 0} (spelled : A → List ℕ) (holds : A → Type 0) (size : ℕ) → IsItem spelled holds size → (items : List A) → AllByRecursion holds items → IsBlock (size * length items) (flat_map spelled items)
items_block spelled holds size is [] all = record { size = (let e : 0 ≡ size * 0 = omega arith in e); are_bytes = tt }
items_block spelled holds size is (x ∷ items) all =
    let joined = joined_blocks size (size * length items) (spelled x) (flat_map spelled items) (is.block x all.0) (items_block spelled holds size is items all.1) in
    let sum : size + size * length items ≡ size * suc (length items) = mul_more size (length items) in
    subst (λ (n : ℕ). IsBlock n (spelled x ++ flat_map spelled items)) sum joined
  where
    mul_more : (n k : ℕ) → n + n * k ≡ n * suc k
    mul_more n k = grind arith

items_of_block : {A : Type 0} (spelled : A → List ℕ) (holds : A → Type 0) (size : ℕ) → IsItem spelled holds size → (count : ℕ) (bytes : List ℕ) → IsBlock (size * count) bytes
    → (items : List A) × (length items ≡ count) × AllByRecursion holds items × (bytes ≡ flat_map spelled items)
items_of_block {A} spelled holds size is zero bytes block =
    ([], refl, tt, nil_from_length bytes (block.size ∙ (let e : size * 0 ≡ 0 = omega arith in e)))
items_of_block {A} spelled holds size is (suc count) bytes block =
    let parts = split_block size (size * count) (size * suc count) bytes (mul_more size count) block in
    let first = is.item (take size bytes) parts.0 in
    let rest = items_of_block spelled holds size is count (drop size bytes) parts.1 in
    (first.0 ∷ rest.0, ap suc rest.1, (first.1, rest.2), parts.2 ∙ ap₂ (λ (a b : List ℕ). a ++ b) first.2 rest.3)
  where
    mul_more : (n k : ℕ) → n * suc k ≡ n + n * k
    mul_more n k = grind arith

items_same : {A : Type 0} (spelled : A → List ℕ) (holds : A → Type 0) (size : ℕ) → IsItem spelled holds size → (xs ys : List A) → length xs ≡ length ys → AllByRecursion holds xs
    → AllByRecursion holds ys → flat_map spelled xs ≡ flat_map spelled ys → xs ≡ ys
items_same spelled holds size is [] [] count first second same = refl
items_same spelled holds size is [] (y ∷ ys) count first second same = absurd (omega (arith, count))
items_same spelled holds size is (x ∷ xs) [] count first second same = absurd (omega (arith, count))
items_same {A} spelled holds size is (x ∷ xs) (y ∷ ys) count first second same =
    let parts = same_parts (spelled x) (flat_map spelled xs) (spelled y) (flat_map spelled ys) same ((is.block x first.0).size ∙ sym (is.block y second.0).size) in
    ap₂ (λ (z : A) (zs : List A). z ∷ zs) (is.one x y first.0 second.0 parts.0) (items_same spelled holds size is xs ys (omega (arith, count)) first.1 second.1 parts.1)

-- ---- multipliers and windows

number_block : (n : ℕ) → IsBlock 8 (to_be_bytes w64 n)
number_block n = record { size = refl; are_bytes = are_bytes_8 n }

multiplier_of : (bytes : List ℕ) → IsBlock 16 bytes → (x : Multiplier) × IsStatedMultiplier x × (bytes ≡ bytes_of_multiplier x)
multiplier_of bytes is =
    let parts = split_block 8 8 16 bytes refl is in
    let due = number_8 (take 8 bytes) parts.0 in
    let lambda = number_8 (drop 8 bytes) parts.1 in
    (record { due = due.0; lambda = lambda.0 }, (due.1, lambda.1), parts.2 ∙ ap₂ (λ (a b : List ℕ). a ++ b) due.2 lambda.2)

multiplier_one : (x y : Multiplier) → IsStatedMultiplier x → IsStatedMultiplier y → bytes_of_multiplier x ≡ bytes_of_multiplier y → x ≡ y
multiplier_one x y first second same =
    let parts = same_parts (to_be_bytes w64 x.due) (to_be_bytes w64 x.lambda) (to_be_bytes w64 y.due) (to_be_bytes w64 y.lambda) same refl in
    ap₂ (λ (d l : ℕ). record { due = d; lambda = l }) (one_number_8 x.due y.due first.0 second.0 parts.0) (one_number_8 x.lambda y.lambda first.1 second.1 parts.1)

pub are_multipliers : IsItem bytes_of_multiplier IsStatedMultiplier 16
are_multipliers = record {
  block = λ x _. joined_blocks 8 8 (to_be_bytes w64 x.due) (to_be_bytes w64 x.lambda) (number_block x.due) (number_block x.lambda);
  item = multiplier_of;
  one = multiplier_one;
}

window_of : (bytes : List ℕ) → IsBlock 24 bytes → (x : PricedWindow) × IsStatedWindow x × (bytes ≡ bytes_of_window x)
window_of bytes is =
    let parts = split_block 8 16 24 bytes refl is in
    let others = split_block 8 8 16 (drop 8 bytes) refl parts.1 in
    let from = number_8 (take 8 bytes) parts.0 in
    let due = number_8 (take 8 (drop 8 bytes)) others.0 in
    let lambda = number_8 (drop 8 (drop 8 bytes)) others.1 in (
      record { from = from.0; due = due.0; lambda = lambda.0 },
      (from.1, due.1, lambda.1),
      parts.2 ∙ ap₂ (λ (a b : List ℕ). a ++ b) from.2 (others.2 ∙ ap₂ (λ (a b : List ℕ). a ++ b) due.2 lambda.2),
    )

window_one : (x y : PricedWindow) → IsStatedWindow x → IsStatedWindow y → bytes_of_window x ≡ bytes_of_window y → x ≡ y
window_one x y first second same =
    let parts = same_parts (to_be_bytes w64 x.from) (to_be_bytes w64 x.due ++ to_be_bytes w64 x.lambda) (to_be_bytes w64 y.from) (to_be_bytes w64 y.due ++ to_be_bytes w64 y.lambda) same refl in
    let others = same_parts (to_be_bytes w64 x.due) (to_be_bytes w64 x.lambda) (to_be_bytes w64 y.due) (to_be_bytes w64 y.lambda) parts.1 refl in
    ap₂ (λ (f d : ℕ). record { from = f; due = d; lambda = x.lambda }) (one_number_8 x.from y.from first.0 second.0 parts.0) (one_number_8 x.due y.due first.1 second.1 others.0)
    ∙ ap (λ (l : ℕ). record { from = y.from; due = y.due; lambda = l }) (one_number_8 x.lambda y.lambda first.2 second.2 others.1)

pub are_windows : IsItem bytes_of_window IsStatedWindow 24
are_windows = record {
  block = λ x _. joined_blocks 8 16 (to_be_bytes w64 x.from) (to_be_bytes w64 x.due ++ to_be_bytes w64 x.lambda) (number_block x.from)
      (joined_blocks 8 8 (to_be_bytes w64 x.due) (to_be_bytes w64 x.lambda) (number_block x.due) (number_block x.lambda));
  item = window_of;
  one = window_one;
}

byte_block : (n : ℕ) → n < 2 ^ 8 → IsBlock 1 (n ∷ [])
byte_block n fits = record { size = refl; are_bytes = (fits, tt) }

byte_of : (bytes : List ℕ) → IsBlock 1 bytes → (n : ℕ) × (n < 2 ^ 8) × (bytes ≡ n ∷ [])
byte_of [] is = absurd (omega (arith, is.size))
byte_of (byte ∷ []) is = (byte, is.are_bytes.0, refl)
byte_of (byte ∷ next ∷ bytes) is = absurd (omega (arith, is.size))

-- ---- windows that see the buffers

behind_due : SeeingWindow → List ℕ
behind_due x = x.programs ∷ (to_be_bytes w32 x.tail ++ to_be_bytes w64 x.lambda)

behind_first_slot : SeeingWindow → List ℕ
behind_first_slot x = to_be_bytes w64 x.due ++ behind_due x

buffer_window_block : (x : SeeingWindow) → IsStatedBufferWindow x → IsBlock 25 (bytes_of_buffer_window x)
unfolding behind_due behind_first_slot
buffer_window_block x stated =
    let last = joined_blocks 4 8 (to_be_bytes w32 x.tail) (to_be_bytes w64 x.lambda) (block_4 x.tail) (number_block x.lambda) in
    let programs = joined_blocks 1 12 (x.programs ∷ []) (to_be_bytes w32 x.tail ++ to_be_bytes w64 x.lambda) (byte_block x.programs stated.2) last in
    let due = joined_blocks 8 13 (to_be_bytes w64 x.due) (behind_due x) (number_block x.due) programs in
    joined_blocks 4 21 (to_be_bytes w32 x.first) (behind_first_slot x) (block_4 x.first) due

buffer_window_of : (bytes : List ℕ) → IsBlock 25 bytes → (x : SeeingWindow) × IsStatedBufferWindow x × (bytes ≡ bytes_of_buffer_window x)
buffer_window_of bytes is =
    let a = split_block 4 21 25 bytes refl is in
    let b = split_block 8 13 21 (drop 4 bytes) refl a.1 in
    let c = split_block 1 12 13 (drop 8 (drop 4 bytes)) refl b.1 in
    let d = split_block 4 8 12 (drop 1 (drop 8 (drop 4 bytes))) refl c.1 in
    let first = number_4 (take 4 bytes) a.0 in
    let due = number_8 (take 8 (drop 4 bytes)) b.0 in
    let programs = byte_of (take 1 (drop 8 (drop 4 bytes))) c.0 in
    let tail = number_4 (take 4 (drop 1 (drop 8 (drop 4 bytes)))) d.0 in
    let lambda = number_8 (drop 4 (drop 1 (drop 8 (drop 4 bytes)))) d.1 in
    let last = d.2 ∙ ap₂ (λ (s t : List ℕ). s ++ t) tail.2 lambda.2 in
    let from_programs = c.2 ∙ ap₂ (λ (s t : List ℕ). s ++ t) programs.2 last in
    let from_due = b.2 ∙ ap₂ (λ (s t : List ℕ). s ++ t) due.2 from_programs in (
      record { first = first.0; due = due.0; programs = programs.0; tail = tail.0; lambda = lambda.0 },
      (first.1, due.1, programs.1, tail.1, lambda.1),
      a.2 ∙ ap₂ (λ (s t : List ℕ). s ++ t) first.2 from_due,
    )

buffer_window_one : (x y : SeeingWindow) → IsStatedBufferWindow x → IsStatedBufferWindow y → bytes_of_buffer_window x ≡ bytes_of_buffer_window y → x ≡ y
unfolding behind_due behind_first_slot
buffer_window_one x y one other same =
    let a = same_parts (to_be_bytes w32 x.first) (behind_first_slot x) (to_be_bytes w32 y.first) (behind_first_slot y) same refl in
    let b = same_parts (to_be_bytes w64 x.due) (behind_due x) (to_be_bytes w64 y.due) (behind_due y) a.1 refl in
    let c = same_parts (x.programs ∷ []) (to_be_bytes w32 x.tail ++ to_be_bytes w64 x.lambda) (y.programs ∷ []) (to_be_bytes w32 y.tail ++ to_be_bytes w64 y.lambda) b.1 refl in
    let d = same_parts (to_be_bytes w32 x.tail) (to_be_bytes w64 x.lambda) (to_be_bytes w32 y.tail) (to_be_bytes w64 y.lambda) c.1 refl in
    let first = one_number_4 x.first y.first one.0 other.0 a.0 in
    let due = one_number_8 x.due y.due one.1 other.1 b.0 in
    let programs : x.programs ≡ y.programs = ap (λ (xs : List ℕ). get_or xs 0 0) c.0 in
    let tail = one_number_4 x.tail y.tail one.3 other.3 d.0 in
    let lambda = one_number_8 x.lambda y.lambda one.4 other.4 d.1 in
    ap₂ (λ (f n : ℕ). record { first = f; due = n; programs = x.programs; tail = x.tail; lambda = x.lambda }) first due
    ∙ ap₂ (λ (p t : ℕ). record { first = y.first; due = y.due; programs = p; tail = t; lambda = x.lambda }) programs tail
    ∙ ap (λ (l : ℕ). record { first = y.first; due = y.due; programs = y.programs; tail = y.tail; lambda = l }) lambda

pub are_buffer_windows : IsItem bytes_of_buffer_window IsStatedBufferWindow 25
are_buffer_windows = record { block = buffer_window_block; item = buffer_window_of; one = buffer_window_one }

-- ---- counted items

-- texts of two bytes that spell the numbers up to one
pub record IsCountText (text : List ℕ → Type 0) (number : List ℕ → ℕ) (most : ℕ) : Type 0 where
  pub fits : most < 2 ^ 16
  pub spelled : (n : ℕ) → n ≤ most → text (to_be_bytes w16 n)
  pub number_is : (n : ℕ) → n ≤ most → number (to_be_bytes w16 n) ≡ n
  pub read : (bytes : List ℕ) → text bytes → (n : ℕ) × (n ≤ most) × (bytes ≡ to_be_bytes w16 n)

short_count_of : (bytes : List ℕ) → IsCount bytes → (n : ℕ) × (n ≤ 64) × (bytes ≡ to_be_bytes w16 n)
short_count_of bytes is =
    let first = is.first_is in
    let count = is.second_is in
    let zero_is : first.byte ≡ 0 = omega (arith, first.allows.1) in
    let front : bytes ≡ first.byte ∷ count.byte ∷ [] = is.joined ∙ ap₂ (λ (a b : List ℕ). a ++ b) first.is count.is in
    (count.byte, count.allows.1, front ∙ ap (λ (a : ℕ). a ∷ count.byte ∷ []) zero_is ∙ sym (short_count count.byte count.allows.1))

pub short_counts : IsCountText IsCount count_of 64
short_counts = record {
  fits = lit< tt;
  spelled = λ n few. subst IsCount (sym (short_count n few)) (is_count n few);
  number_is = λ n few. ap count_of (short_count n few);
  read = short_count_of;
}

pub long_counts : IsCountText IsLongCount (from_be_bytes w16) 4096
long_counts = record {
  fits = lit< tt;
  spelled = long_count_text;
  number_is = λ n few. from_be_bytes-to_be_bytes_2 n (omega (arith, few));
  read = long_count_of;
}

module _ {A : Type 0} (spelled : A → List ℕ) (holds : A → Type 0) (size : ℕ) (is : IsItem spelled holds size) (text : List ℕ → Type 0) (number : List ℕ → ℕ) (most : ℕ)
    (counts : IsCountText text number most)
  where
    counted_text : (items : List A) → length items ≤ most → AllByRecursion holds items → Then text (λ count. IsBlock (size * number count)) (to_be_bytes w16 (length items) ++ flat_map spelled items)
    counted_text items few all = record {
      front = to_be_bytes w16 (length items);
      behind = flat_map spelled items;
      joined = refl;
      first_is = counts.spelled (length items) few;
      second_is = subst (λ (n : ℕ). IsBlock (size * n) (flat_map spelled items)) (sym (counts.number_is (length items) few)) (items_block spelled holds size is items all);
    }

    counted_items : (bytes : List ℕ) → Then text (λ count. IsBlock (size * number count)) bytes
        → (items : List A) × (length items ≤ most) × AllByRecursion holds items × (bytes ≡ to_be_bytes w16 (length items) ++ flat_map spelled items)
    counted_items bytes whole =
        let count = counts.read whole.front whole.first_is in
        let count_is : number whole.front ≡ count.0 = ap number count.2 ∙ counts.number_is count.0 count.1 in
        let block : IsBlock (size * count.0) whole.behind = subst (λ (n : ℕ). IsBlock (size * n) whole.behind) count_is whole.second_is in
        let items = items_of_block spelled holds size is count.0 whole.behind block in
        let few : length items.0 ≤ most = omega (arith, items.1, count.1) in
        (items.0, few, items.2, whole.joined ∙ ap₂ (λ (a b : List ℕ). a ++ b) (count.2 ∙ ap (to_be_bytes w16) (sym items.1)) items.3)

    counted_same : (xs ys : List A) → length xs ≤ most → length ys ≤ most → AllByRecursion holds xs → AllByRecursion holds ys
        → to_be_bytes w16 (length xs) ++ flat_map spelled xs ≡ to_be_bytes w16 (length ys) ++ flat_map spelled ys → xs ≡ ys
    counted_same xs ys few least first second same =
        let parts = same_parts (to_be_bytes w16 (length xs)) (flat_map spelled xs) (to_be_bytes w16 (length ys)) (flat_map spelled ys) same refl in
        let count = one_number_2 (length xs) (length ys) (omega (arith, few, counts.fits)) (omega (arith, least, counts.fits)) parts.0 in
        items_same spelled holds size is xs ys count first second parts.1

-- ---- nodes

flag_text : (scheduled : Bool) → IsByte 0 1 (flag scheduled ∷ [])
flag_text true = is_byte 0 1 1 (omega arith) (omega arith) (lit< tt)
flag_text false = is_byte 0 1 0 (omega arith) (omega arith) (lit< tt)

pub node_text : (version : ℕ) (node : Node) → NodeMayStand version node → IsNode version (bytes_of_node node)
unfolding bytes_of_node
node_text version (Branch unit) stands =
    record { front = 1 ∷ []; behind = to_be_bytes w32 unit; joined = refl; first_is = one_of (IsKind version) 1 tt (lit< tt); second_is = block_4 unit }
node_text version (Dual priced) stands = record {
  front = 2 ∷ [];
  behind = to_be_bytes w16 (length priced.items) ++ flat_map bytes_of_multiplier priced.items;
  joined = refl;
  first_is = one_of (IsKind version) 2 stands.0 (lit< tt);
  second_is = counted_text bytes_of_multiplier IsStatedMultiplier 16 are_multipliers IsCount count_of 64 short_counts priced.items stands.1.0 stands.1.1;
}
node_text version (Run scheduled) stands =
    record { front = 3 ∷ []; behind = flag scheduled ∷ []; joined = refl; first_is = one_of (IsKind version) 3 tt (lit< tt); second_is = flag_text scheduled }
node_text version Open stands = record { front = 4 ∷ []; behind = []; joined = refl; first_is = one_of (IsKind version) 4 tt (lit< tt); second_is = refl }
node_text version (Window priced) stands = record {
  front = 5 ∷ [];
  behind = to_be_bytes w16 (length priced.items) ++ flat_map bytes_of_window priced.items;
  joined = refl;
  first_is = one_of (IsKind version) 5 stands.0 (lit< tt);
  second_is = counted_text bytes_of_window IsStatedWindow 24 are_windows IsCount count_of 64 short_counts priced.items stands.1.0 stands.1.1;
}
node_text version (BufferWindow priced) stands = record {
  front = 6 ∷ [];
  behind = to_be_bytes w16 (length priced) ++ flat_map bytes_of_buffer_window priced;
  joined = refl;
  first_is = one_of (IsKind version) 6 stands.0 (lit< tt);
  second_is = counted_text bytes_of_buffer_window IsStatedBufferWindow 25 are_buffer_windows IsLongCount (from_be_bytes w16) 4096 long_counts priced stands.1.0 stands.1.1;
}

flag_of : (bytes : List ℕ) (byte : ℕ) → byte ≤ 1 → bytes ≡ byte ∷ [] → (scheduled : Bool) × (bytes ≡ flag scheduled ∷ [])
flag_of bytes zero few is = (false, is)
flag_of bytes (suc zero) few is = (true, is)
flag_of bytes (suc (suc n)) few is = absurd (omega (arith, few))

node_of_kind : (version kind : ℕ) (behind : List ℕ) → IsKind version kind → IsBody kind behind → (node : Node) × NodeMayStand version node × (kind ∷ behind ≡ bytes_of_node node)
unfolding bytes_of_node
node_of_kind version zero behind is body = absurd is
node_of_kind version (suc zero) behind is body =
    let unit = number_4 behind body in
    (Branch unit.0, (tt, unit.1), ap (λ (xs : List ℕ). 1 ∷ xs) unit.2)
node_of_kind version (suc (suc zero)) behind is body =
    let items = counted_items bytes_of_multiplier IsStatedMultiplier 16 are_multipliers IsCount count_of 64 short_counts behind body in
    (Dual (record { items = items.0 }), (is, (items.1, items.2)), ap (λ (xs : List ℕ). 2 ∷ xs) items.3)
node_of_kind version (suc (suc (suc zero))) behind is body =
    let scheduled = flag_of behind body.byte body.allows.1 body.is in
    (Run scheduled.0, (tt, tt), ap (λ (xs : List ℕ). 3 ∷ xs) scheduled.1)
node_of_kind version (suc (suc (suc (suc zero)))) behind is body = (Open, (tt, tt), ap (λ (xs : List ℕ). 4 ∷ xs) body)
node_of_kind version (suc (suc (suc (suc (suc zero))))) behind is body =
    let items = counted_items bytes_of_window IsStatedWindow 24 are_windows IsCount count_of 64 short_counts behind body in
    (Window (record { items = items.0 }), (is, (items.1, items.2)), ap (λ (xs : List ℕ). 5 ∷ xs) items.3)
node_of_kind version (suc (suc (suc (suc (suc (suc zero)))))) behind is body =
    let items = counted_items bytes_of_buffer_window IsStatedBufferWindow 25 are_buffer_windows IsLongCount (from_be_bytes w16) 4096 long_counts behind body in
    (BufferWindow items.0, (is, (items.1, items.2)), ap (λ (xs : List ℕ). 6 ∷ xs) items.3)
node_of_kind version (suc (suc (suc (suc (suc (suc (suc kind))))))) behind is body = absurd is

pub node_of_text : (version : ℕ) (bytes : List ℕ) → IsNode version bytes → (node : Node) × NodeMayStand version node × (bytes ≡ bytes_of_node node)
node_of_text version bytes text =
    let kind = text.first_is in
    let body : IsBody kind.byte text.behind = subst (λ (xs : List ℕ). IsBody (slice_index xs 0) text.behind) kind.is text.second_is in
    let node = node_of_kind version kind.byte text.behind kind.allows body in
    (node.0, node.1, text.joined ∙ ap (λ (xs : List ℕ). xs ++ text.behind) kind.is ∙ node.2)

-- ---- all nodes

pub nodes_text : (version : ℕ) (nodes : List Node) → AllByRecursion (NodeMayStand version) nodes → AreTexts (length nodes) (IsNode version) (flat_map bytes_of_node nodes)
nodes_text version [] stand = refl
nodes_text version (node ∷ nodes) stand = record {
  front = bytes_of_node node;
  behind = flat_map bytes_of_node nodes;
  joined = refl;
  first_is = node_text version node stand.0;
  second_is = nodes_text version nodes stand.1;
}

pub nodes_of_text : (version n : ℕ) (bytes : List ℕ) → AreTexts n (IsNode version) bytes
    → (nodes : List Node) × (length nodes ≡ n) × AllByRecursion (NodeMayStand version) nodes × (bytes ≡ flat_map bytes_of_node nodes)
nodes_of_text version zero bytes text = ([], refl, tt, text)
nodes_of_text version (suc n) bytes text =
    let first = node_of_text version text.front text.first_is in
    let rest = nodes_of_text version n text.behind text.second_is in
    (first.0 ∷ rest.0, ap suc rest.1, (first.1, rest.2), text.joined ∙ ap₂ (λ (a b : List ℕ). a ++ b) first.2 rest.3)

-- ---- one node

first_byte : (xs ys : List ℕ) → xs ≡ ys → get_or xs 0 0 ≡ get_or ys 0 0
first_byte xs ys same = ap (λ (zs : List ℕ). get_or zs 0 0) same

behind_first : (x y : ℕ) (xs ys : List ℕ) → x ∷ xs ≡ y ∷ ys → xs ≡ ys
behind_first x y xs ys same = ap (λ (zs : List ℕ). drop 1 zs) same

node_same : (a b : Node) → HasRoom a → HasRoom b → bytes_of_node a ≡ bytes_of_node b → a ≡ b
unfolding bytes_of_node
node_same (Branch a) (Branch b) first second same = ap Branch (one_number_4 a b first second (behind_first 1 1 (to_be_bytes w32 a) (to_be_bytes w32 b) same))
node_same (Branch a) (Dual b) first second same = absurd (let e : 1 ≡ 2 = first_byte _ _ same in omega (arith, e))
node_same (Branch a) (Run b) first second same = absurd (let e : 1 ≡ 3 = first_byte _ _ same in omega (arith, e))
node_same (Branch a) Open first second same = absurd (let e : 1 ≡ 4 = first_byte _ _ same in omega (arith, e))
node_same (Branch a) (Window b) first second same = absurd (let e : 1 ≡ 5 = first_byte _ _ same in omega (arith, e))
node_same (Branch a) (BufferWindow b) first second same = absurd (let e : 1 ≡ 6 = first_byte _ _ same in omega (arith, e))
node_same (Dual a) (Branch b) first second same = absurd (let e : 2 ≡ 1 = first_byte _ _ same in omega (arith, e))
node_same (Dual a) (Dual b) first second same =
    let rest = behind_first 2 2 (to_be_bytes w16 (length a.items) ++ flat_map bytes_of_multiplier a.items) (to_be_bytes w16 (length b.items) ++ flat_map bytes_of_multiplier b.items) same in
    ap (λ (xs : List Multiplier). Dual (record { items = xs })) (counted_same bytes_of_multiplier IsStatedMultiplier 16 are_multipliers IsCount count_of 64 short_counts a.items b.items first.0 second.0 first.1 second.1 rest)
node_same (Dual a) (Run b) first second same = absurd (let e : 2 ≡ 3 = first_byte _ _ same in omega (arith, e))
node_same (Dual a) Open first second same = absurd (let e : 2 ≡ 4 = first_byte _ _ same in omega (arith, e))
node_same (Dual a) (Window b) first second same = absurd (let e : 2 ≡ 5 = first_byte _ _ same in omega (arith, e))
node_same (Dual a) (BufferWindow b) first second same = absurd (let e : 2 ≡ 6 = first_byte _ _ same in omega (arith, e))
node_same (Run a) (Branch b) first second same = absurd (let e : 3 ≡ 1 = first_byte _ _ same in omega (arith, e))
node_same (Run a) (Dual b) first second same = absurd (let e : 3 ≡ 2 = first_byte _ _ same in omega (arith, e))
node_same (Run a) (Run b) first second same = ap Run (flag-same a b (first_byte (flag a ∷ []) (flag b ∷ []) (behind_first 3 3 (flag a ∷ []) (flag b ∷ []) same)))
node_same (Run a) Open first second same = absurd (let e : 3 ≡ 4 = first_byte _ _ same in omega (arith, e))
node_same (Run a) (Window b) first second same = absurd (let e : 3 ≡ 5 = first_byte _ _ same in omega (arith, e))
node_same (Run a) (BufferWindow b) first second same = absurd (let e : 3 ≡ 6 = first_byte _ _ same in omega (arith, e))
node_same Open (Branch b) first second same = absurd (let e : 4 ≡ 1 = first_byte _ _ same in omega (arith, e))
node_same Open (Dual b) first second same = absurd (let e : 4 ≡ 2 = first_byte _ _ same in omega (arith, e))
node_same Open (Run b) first second same = absurd (let e : 4 ≡ 3 = first_byte _ _ same in omega (arith, e))
node_same Open Open first second same = refl
node_same Open (Window b) first second same = absurd (let e : 4 ≡ 5 = first_byte _ _ same in omega (arith, e))
node_same Open (BufferWindow b) first second same = absurd (let e : 4 ≡ 6 = first_byte _ _ same in omega (arith, e))
node_same (Window a) (Branch b) first second same = absurd (let e : 5 ≡ 1 = first_byte _ _ same in omega (arith, e))
node_same (Window a) (Dual b) first second same = absurd (let e : 5 ≡ 2 = first_byte _ _ same in omega (arith, e))
node_same (Window a) (Run b) first second same = absurd (let e : 5 ≡ 3 = first_byte _ _ same in omega (arith, e))
node_same (Window a) Open first second same = absurd (let e : 5 ≡ 4 = first_byte _ _ same in omega (arith, e))
node_same (Window a) (Window b) first second same =
    let rest = behind_first 5 5 (to_be_bytes w16 (length a.items) ++ flat_map bytes_of_window a.items) (to_be_bytes w16 (length b.items) ++ flat_map bytes_of_window b.items) same in
    ap (λ (xs : List PricedWindow). Window (record { items = xs })) (counted_same bytes_of_window IsStatedWindow 24 are_windows IsCount count_of 64 short_counts a.items b.items first.0 second.0 first.1 second.1 rest)
node_same (Window a) (BufferWindow b) first second same = absurd (let e : 5 ≡ 6 = first_byte _ _ same in omega (arith, e))
node_same (BufferWindow a) (Branch b) first second same = absurd (let e : 6 ≡ 1 = first_byte _ _ same in omega (arith, e))
node_same (BufferWindow a) (Dual b) first second same = absurd (let e : 6 ≡ 2 = first_byte _ _ same in omega (arith, e))
node_same (BufferWindow a) (Run b) first second same = absurd (let e : 6 ≡ 3 = first_byte _ _ same in omega (arith, e))
node_same (BufferWindow a) Open first second same = absurd (let e : 6 ≡ 4 = first_byte _ _ same in omega (arith, e))
node_same (BufferWindow a) (Window b) first second same = absurd (let e : 6 ≡ 5 = first_byte _ _ same in omega (arith, e))
node_same (BufferWindow a) (BufferWindow b) first second same =
    let rest = behind_first 6 6 (to_be_bytes w16 (length a) ++ flat_map bytes_of_buffer_window a) (to_be_bytes w16 (length b) ++ flat_map bytes_of_buffer_window b) same in
    ap BufferWindow (counted_same bytes_of_buffer_window IsStatedBufferWindow 25 are_buffer_windows IsLongCount (from_be_bytes w16) 4096 long_counts a b first.0 second.0 first.1 second.1 rest)

pub nodes_same : (version : ℕ) (xs ys : List Node) → length xs ≡ length ys → AllByRecursion (NodeMayStand version) xs → AllByRecursion (NodeMayStand version) ys
    → flat_map bytes_of_node xs ≡ flat_map bytes_of_node ys → xs ≡ ys
nodes_same version [] [] count first second same = refl
nodes_same version [] (y ∷ ys) count first second same = absurd (omega (arith, count))
nodes_same version (x ∷ xs) [] count first second same = absurd (omega (arith, count))
nodes_same version (x ∷ xs) (y ∷ ys) count first second same =
    let size = ends_node version (bytes_of_node x) (bytes_of_node y) (flat_map bytes_of_node xs) (flat_map bytes_of_node ys) same (node_text version x first.0) (node_text version y second.0) in
    let parts = same_parts (bytes_of_node x) (flat_map bytes_of_node xs) (bytes_of_node y) (flat_map bytes_of_node ys) same size in
    ap₂ (λ (z : Node) (zs : List Node). z ∷ zs) (node_same x y first.0.1 second.0.1 parts.0) (nodes_same version xs ys (omega (arith, count)) first.1 second.1 parts.1)

-- The parts of which a certificate is made: where they end, that there are some, and where they are refused.
use Rattle.std.proofs.Common.{◌≡◌, ℕ, zero, suc, ◌-◌, ◌*◌, ◌^◌, ◌<◌, ◌≤◌, List, [], ◌∷◌, ◌++◌, length, get_or, replicate, slice_index, refl, sym, ap, subst, ◌∙◌, arith, length-append, lit<}
use Rattle.std.proofs.lemmas.List.{append-nil, length-replicate}
use Rattle.std.specs.Int.{w16, w32, from_be_bytes}
use Rattle.bit_lists.specs.Fields.{AreBytes}
use Rattle.bit_lists.proofs.ByteLemmas.{AreBytes-append}
use Rattle.bound_certificate.specs.Private.Texts.{
  Then,
  IsOneOf,
  IsByte,
  IsBlock,
  AreTexts,
  IsRefused,
  IsKind,
  IsCount,
  AreCounted,
  IsLongCount,
  AreLongCounted,
  IsBody,
  IsNode,
  IsMark,
  IsChoice,
  IsNodeCount,
  AfterFirst,
  AfterSecond,
  AfterThird,
  IsTree,
  count_of,
  last_most,
  last_least,
}
use Rattle.bound_certificate.proofs.Refusals.{Ends, ends_then, ends_texts}

-- ---- one byte

pub ends_one : (allowed : ℕ → Type 0) → Ends (IsOneOf allowed)
ends_one allowed a b s t same x y = ap length x.is ∙ sym (ap length y.is)

-- no byte is there
pub no_byte : (allowed : ℕ → Type 0) (bytes : List ℕ) (some : ℕ) → allowed some → some < 2 ^ 8 → bytes ≡ [] → IsRefused (IsOneOf allowed) bytes 0
no_byte allowed bytes some allows fits none = record {
  before = [];
  rest = [];
  parts = none;
  left_is = refl;
  more = some ∷ [];
  begun = record { byte = some; allows = allows; fits = fits; is = refl };
  byte = λ next behind others at text. absurd (omega (arith, ap length at));
  whole = λ front others same text. absurd (omega (arith, ap length (sym none ∙ same), length-append front others, ap length text.is));
}

-- a byte that isn't allowed
pub bad_byte : (allowed : ℕ → Type 0) (bytes : List ℕ) (byte : ℕ) (behind : List ℕ) (left some : ℕ) → allowed some → some < 2 ^ 8 → bytes ≡ byte ∷ behind → left ≡ length bytes
    → (allowed byte → ⊥) → IsRefused (IsOneOf allowed) bytes left
bad_byte allowed bytes byte behind left some allows fits is left_is not = record {
  before = [];
  rest = bytes;
  parts = refl;
  left_is = left_is;
  more = some ∷ [];
  begun = record { byte = some; allows = allows; fits = fits; is = refl };
  byte = λ next more others at text.
      let same : byte ≡ text.byte = ap (λ (xs : List ℕ). get_or xs 0 0) (sym is ∙ at) ∙ ap (λ (xs : List ℕ). get_or xs 0 0) text.is in
      not (subst allowed (sym same) text.allows);
  whole = λ front others same text.
      let first : byte ≡ text.byte = ap (λ (xs : List ℕ). get_or xs 0 0) (sym is ∙ same ∙ ap (λ (xs : List ℕ). xs ++ others) text.is) in
      not (subst allowed (sym first) text.allows);
}

pub one_of : (allowed : ℕ → Type 0) (byte : ℕ) → allowed byte → byte < 2 ^ 8 → IsOneOf allowed (byte ∷ [])
one_of allowed byte allows fits = record { byte = byte; allows = allows; fits = fits; is = refl }

-- ---- so many bytes

pub ends_block : (count : ℕ) → Ends (IsBlock count)
ends_block count a b s t same x y = x.size ∙ sym y.size

pub are_bytes_zeros : (n : ℕ) → AreBytes (replicate n 0)
are_bytes_zeros zero = tt
are_bytes_zeros (suc n) = (lit< tt, are_bytes_zeros n)

pub some_block : (count : ℕ) → IsBlock count (replicate count 0)
some_block count = record { size = length-replicate {A = ℕ} count 0; are_bytes = are_bytes_zeros count }

pub short_block : (count : ℕ) (bytes : List ℕ) → length bytes < count → AreBytes bytes → IsRefused (IsBlock count) bytes 0
short_block count bytes short are = record {
  before = bytes;
  rest = [];
  parts = sym (append-nil bytes);
  left_is = refl;
  more = replicate (count - length bytes) 0;
  begun = record {
    size = omega (arith, short, length-append bytes (replicate (count - length bytes) 0), length-replicate {A = ℕ} (count - length bytes) 0);
    are_bytes = AreBytes-append bytes (replicate (count - length bytes) 0) are (are_bytes_zeros (count - length bytes));
  };
  byte = λ next behind others at text. absurd (omega (arith, ap length at));
  whole = λ front others same text. absurd (omega (arith, short, text.size, ap length same, length-append front others));
}

-- ---- where texts end

ends_nothing : Ends (λ bytes. bytes ≡ [])
ends_nothing a b s t same x y = ap length x ∙ sym (ap length y)

pub ends_byte : (least most : ℕ) → Ends (IsByte least most)
ends_byte least most = ends_one (λ byte. (least ≤ byte) × (byte ≤ most))

pub ends_count : Ends IsCount
ends_count = ends_then (IsByte 0 0) (λ _. IsByte 0 64) (ends_byte 0 0) (λ _ _. ends_byte 0 64)

pub ends_counted : (size : ℕ) → Ends (AreCounted size)
ends_counted size = ends_then IsCount (λ count. IsBlock (size * count_of count)) ends_count (λ count _. ends_block (size * count_of count))

pub ends_long_count : Ends IsLongCount
ends_long_count = ends_then (IsByte 0 16) (λ high. IsByte 0 (last_most (slice_index high 0))) (ends_byte 0 16) (λ high _. ends_byte 0 (last_most (slice_index high 0)))

pub ends_long_counted : (size : ℕ) → Ends (AreLongCounted size)
ends_long_counted size = ends_then IsLongCount (λ count. IsBlock (size * from_be_bytes w16 count)) ends_long_count (λ count _. ends_block (size * from_be_bytes w16 count))

ends_body : (kind : ℕ) → Ends (IsBody kind)
ends_body zero = ends_nothing
ends_body (suc zero) = ends_block 4
ends_body (suc (suc zero)) = ends_counted 16
ends_body (suc (suc (suc zero))) = ends_byte 0 1
ends_body (suc (suc (suc (suc zero)))) = ends_nothing
ends_body (suc (suc (suc (suc (suc zero))))) = ends_counted 24
ends_body (suc (suc (suc (suc (suc (suc zero)))))) = ends_long_counted 25
ends_body (suc (suc (suc (suc (suc (suc (suc kind))))))) = ends_nothing

pub ends_node : (version : ℕ) → Ends (IsNode version)
ends_node version = ends_then (IsOneOf (IsKind version)) (λ kind. IsBody (slice_index kind 0)) (ends_one (IsKind version)) (λ kind _. ends_body (slice_index kind 0))

pub ends_mark : Ends IsMark
ends_mark = ends_then (IsByte 0x52 0x52) (λ _. Then (IsByte 0x4D 0x4D) (λ _. Then (IsByte 0x58 0x58) (λ _. IsByte 0x43 0x43))) (ends_byte 0x52 0x52)
    (λ _ _. ends_then (IsByte 0x4D 0x4D) (λ _. Then (IsByte 0x58 0x58) (λ _. IsByte 0x43 0x43)) (ends_byte 0x4D 0x4D)
    (λ _ _. ends_then (IsByte 0x58 0x58) (λ _. IsByte 0x43 0x43) (ends_byte 0x58 0x58) (λ _ _. ends_byte 0x43 0x43)))

pub ends_choice : Ends IsChoice
ends_choice = ends_then (IsBlock 4) (λ count. IsBlock (from_be_bytes w32 count)) (ends_block 4) (λ count _. ends_block (from_be_bytes w32 count))

pub ends_node_count : Ends IsNodeCount
ends_node_count = ends_then (IsByte 0 0) (λ _. AfterFirst) (ends_byte 0 0)
    (λ _ _. ends_then (IsByte 0 16) AfterSecond (ends_byte 0 16)
    (λ second _. ends_then (IsByte 0 (last_most (slice_index second 0))) (AfterThird second) (ends_byte 0 (last_most (slice_index second 0)))
    (λ third _. ends_byte (last_least (slice_index second 0) (slice_index third 0)) (last_most (slice_index second 0)))))

pub ends_tree : (version : ℕ) → Ends (IsTree version)
ends_tree version = ends_then IsNodeCount (λ count. AreTexts (from_be_bytes w32 count) (IsNode version)) ends_node_count
    (λ count _. ends_texts (from_be_bytes w32 count) (IsNode version) (ends_node version))

-- ---- that there are some

pub some_byte : (least most : ℕ) → least ≤ most → most < 2 ^ 8 → (x : List ℕ) × IsByte least most x
some_byte least most low fits = (most ∷ [], record { byte = most; allows = (low, omega arith); fits = fits; is = refl })

pub some_counted : (size : ℕ) (count : List ℕ) → IsCount count → (x : List ℕ) × IsBlock (size * count_of count) x
some_counted size count is = (replicate (size * count_of count) 0, some_block (size * count_of count))

all_counted : (size : ℕ) → (x : List ℕ) × AreCounted size x
all_counted size =
    let first = some_byte 0 0 (omega arith) (lit< tt) in
    let second = some_byte 0 64 (omega arith) (lit< tt) in
    let count : IsCount (first.0 ++ second.0) = record { front = first.0; behind = second.0; joined = refl; first_is = first.1; second_is = second.1 } in
    let block = some_counted size (first.0 ++ second.0) count in
    ((first.0 ++ second.0) ++ block.0, record { front = first.0 ++ second.0; behind = block.0; joined = refl; first_is = count; second_is = block.1 })

long_zero : IsLongCount (0 ∷ 0 ∷ [])
long_zero = record {
  front = 0 ∷ [];
  behind = 0 ∷ [];
  joined = refl;
  first_is = record { byte = 0; allows = (omega arith, omega arith); fits = lit< tt; is = refl };
  second_is = record { byte = 0; allows = (omega arith, omega arith); fits = lit< tt; is = refl };
}

pub some_long_counted : (size : ℕ) (count : List ℕ) → IsLongCount count → (x : List ℕ) × IsBlock (size * from_be_bytes w16 count) x
some_long_counted size count is = (replicate (size * from_be_bytes w16 count) 0, some_block (size * from_be_bytes w16 count))

all_long_counted : (size : ℕ) → (x : List ℕ) × AreLongCounted size x
all_long_counted size =
    let count : List ℕ = 0 ∷ 0 ∷ [] in
    let block = some_long_counted size count long_zero in
    (count ++ block.0, record { front = count; behind = block.0; joined = refl; first_is = long_zero; second_is = block.1 })

some_body : (kind : ℕ) → (x : List ℕ) × IsBody kind x
some_body zero = ([], refl)
some_body (suc zero) = (replicate 4 0, some_block 4)
some_body (suc (suc zero)) = all_counted 16
some_body (suc (suc (suc zero))) = some_byte 0 1 (omega arith) (lit< tt)
some_body (suc (suc (suc (suc zero)))) = ([], refl)
some_body (suc (suc (suc (suc (suc zero))))) = all_counted 24
some_body (suc (suc (suc (suc (suc (suc zero)))))) = all_long_counted 25
some_body (suc (suc (suc (suc (suc (suc (suc kind))))))) = ([], refl)

pub body_of : (kind : List ℕ) → (x : List ℕ) × IsBody (slice_index kind 0) x
body_of kind = some_body (slice_index kind 0)

-- an open node may stand in each version
some_node : (version : ℕ) → (x : List ℕ) × IsNode version x
some_node version = (4 ∷ [], record { front = 4 ∷ []; behind = []; joined = refl; first_is = record { byte = 4; allows = tt; fits = lit< tt; is = refl }; second_is = refl })

pub some_nodes : (n version : ℕ) → (x : List ℕ) × AreTexts n (IsNode version) x
some_nodes zero version = ([], refl)
some_nodes (suc n) version =
    let one = some_node version in
    let more = some_nodes n version in
    (one.0 ++ more.0, record { front = one.0; behind = more.0; joined = refl; first_is = one.1; second_is = more.1 })

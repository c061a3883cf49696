-- The worked examples, from the definitions: the bytes B4 01.
use Rattle.std.proofs.Common.{◌≡◌, ℕ, List, [], ◌∷◌, length, drop, lit≤, refl}
use Rattle.bit_lists.specs.Bits.{bits_of, number_of}
use Rattle.bit_lists.specs.Fields.{bit_list}
use Rattle.bit_cursor.specs.Shown.{IsFirstNumber, IsWindow, bytes_beyond, byte_aligned}

abbrev two_bytes : List ℕ
two_bytes = bit_list (0xB4 ∷ 0x01 ∷ [])

in_order : two_bytes ≡ 1 ∷ 0 ∷ 1 ∷ 1 ∷ 0 ∷ 1 ∷ 0 ∷ 0 ∷ 0 ∷ 0 ∷ 0 ∷ 0 ∷ 0 ∷ 0 ∷ 0 ∷ 1 ∷ []
in_order = refl

first_three : IsFirstNumber 3 two_bytes 5
unfolding bits_of number_of
first_three = record { enough = lit≤ tt; value = refl; front = refl }

-- ---- behind the first three bits

eight_seen : IsWindow 8 (drop 3 two_bytes) 160 8
unfolding bits_of number_of
eight_seen = record { known = refl; window = refl; front = refl }

thirteen_left : length (drop 3 two_bytes) ≡ 13
thirteen_left = refl

last_thirteen : IsFirstNumber 13 (drop 3 two_bytes) 5121
unfolding bits_of number_of
last_thirteen = record { enough = lit≤ tt; value = refl; front = refl }

-- more are seen than are left, and then zero bits
sixteen_seen : IsWindow 16 (drop 3 two_bytes) 40968 13
unfolding bits_of number_of
sixteen_seen = record { known = refl; window = refl; front = refl }

none_seen : IsWindow 4 (drop 16 two_bytes) 0 0
unfolding bits_of number_of
none_seen = record { known = refl; window = refl; front = refl }

-- ---- bytes

third_bit_aligned : byte_aligned 3 ≡ 8
third_bit_aligned = refl

whole_byte_aligned : byte_aligned 8 ≡ 8
whole_byte_aligned = refl

-- three bits are in one byte, and of the five that stay thirteen want one more
first_byte : bytes_beyond 0 3 ≡ 1
first_byte = refl

second_byte : bytes_beyond 5 13 ≡ 1
second_byte = refl

no_byte : bytes_beyond 5 5 ≡ 0
no_byte = refl

-- A prefix of which all four bytes stand.
use Rattle.std.proofs.Common.{◌≡◌, ℕ, ◌<◌, Bool, true, ◌&&◌, ◌||◌, List, [], ◌∷◌, length, take, arith}
use Rattle.std.specs.Prelude.{nat_eq, nat_le}
use Rattle.std.specs.List.{starts_with}
use Rattle.std.proofs.lemmas.Bool.{and_parts, eqb-true}
use Rattle.std.proofs.lemmas.Bool.Decides.{nat_tests}
use Rattle.pes_units.specs.PesHeader.{has_prefix, is_stream_id, packet_start_code_prefix, stream_id}
use Rattle.pes_units.proofs.Elements.{packet_start_code_prefix-is}

pub prefix-first : (video : Bool) (bytes : List ℕ) → 3 < length bytes → has_prefix video bytes ≡ true → packet_start_code_prefix bytes ≡ 1
prefix-first video [] long has = absurd (omega arith)
prefix-first video (a ∷ []) long has = absurd (omega arith)
prefix-first video (a ∷ b ∷ []) long has = absurd (omega arith)
prefix-first video (a ∷ b ∷ c ∷ rest) long has =
    let bytes : List ℕ = a ∷ b ∷ c ∷ rest in
    let starts = (and_parts (starts_with nat_eq (0 ∷ 0 ∷ 1 ∷ []) (take 3 bytes)) (nat_le (length bytes) 3 || is_stream_id video (stream_id bytes)) has).0 in
    let first = and_parts (nat_eq a 0) (nat_eq b 0 && (nat_eq c 1 && true)) starts in
    let second = and_parts (nat_eq b 0) (nat_eq c 1 && true) first.1 in
    let third = and_parts (nat_eq c 1) true second.1 in
    omega (arith, packet_start_code_prefix-is bytes, eqb-true a 0 first.0, eqb-true b 0 second.0, eqb-true c 1 third.0)

pub prefix-id : (video : Bool) (bytes : List ℕ) → 3 < length bytes → has_prefix video bytes ≡ true → is_stream_id video (stream_id bytes) ≡ true
prefix-id video bytes long has =
    let tests = and_parts (starts_with nat_eq (0 ∷ 0 ∷ 1 ∷ []) (take 3 bytes)) (nat_le (length bytes) 3 || is_stream_id video (stream_id bytes)) has in
    grind (arith, nat_tests, tests.1)

-- What a sink got in one call.
use Rattle.std.proofs.Common.{◌≡◌, ℕ, ◌*◌, ◌≤◌, List, [], ◌++◌, Result, Ok, Err, OnOk, OnErr, length, take, drop, sym, ap, subst, ◌∙◌, append_assoc}
use Rattle.std.proofs.lemmas.List.{take_at, length-take-le}
use Rattle.shelf_io.specs.Sink.{Told, with_bytes, AddsPrefix}
use Rattle.shelf_io.proofs.Written.{with_bytes-none}
use Rattle.bit_lists.specs.Bits.{IsPrefix}
use Rattle.bit_lists.specs.Fields.{AreBytes, bit_list}
use Rattle.bit_lists.proofs.PrefixLemmas.{IsPrefix-append}
use Rattle.bit_lists.proofs.ByteLemmas.{length-bit_list, bit_list-take, AreBytes-take}
use Rattle.bit_cursor.specs.BitWriter.{Gets, GetsFront}

-- nothing went out
pub gets_none : (told : Told) (waited put waits : List ℕ) → waits ≡ waited ++ put → Gets told told waited put waits
gets_none told waited put waits is = record { bytes = []; are_bytes = tt; at_the_end = with_bytes-none told; in_order = is }

-- these bytes went out
pub gets_bytes : {X Y : Type 0} (r : Result X Y) (told after : Told) (bytes waited put waits : List ℕ) → AreBytes bytes
    → bit_list bytes ++ waits ≡ waited ++ put → OnOk r (after ≡ with_bytes told bytes) → OnOk r (Gets told after waited put waits)
gets_bytes (Ok x) told after bytes waited put waits are order adds = record { bytes = bytes; are_bytes = are; at_the_end = adds; in_order = order }
gets_bytes (Err e) told after bytes waited put waits are order adds = tt

-- or a front of them
pub gets_front : {X Y : Type 0} (r : Result X Y) (told after : Told) (bytes waited put waits : List ℕ) → AreBytes bytes
    → bit_list bytes ++ waits ≡ waited ++ put → OnErr r (AddsPrefix told after bytes) → OnErr r (GetsFront told after waited put)
gets_front (Ok x) told after bytes waited put waits are order adds = tt
gets_front (Err e) told after bytes waited put waits are order adds =
    let k = adds.0 in
    let split : bit_list (take k bytes) ++ (bit_list (drop k bytes) ++ waits) ≡ waited ++ put =
    sym (append_assoc (bit_list (take k bytes)) (bit_list (drop k bytes)) waits) ∙ ap (λ bits. bits ++ waits) (sym (bit_list-take k bytes)) ∙ order in
    record {
      bytes = take k bytes;
      are_bytes = AreBytes-take k bytes are;
      at_the_end = adds.2;
      front = subst (IsPrefix (bit_list (take k bytes))) split (IsPrefix-append (bit_list (take k bytes)) (bit_list (drop k bytes) ++ waits));
    }

-- as many bytes as there are whole ones in what waited and was filled up
pub whole_bytes : (k : ℕ) (bytes waited zeros : List ℕ) → 8 * k ≡ length waited → k ≤ length bytes → bit_list bytes ≡ waited ++ zeros → bit_list (take k bytes) ++ [] ≡ waited ++ []
whole_bytes k bytes waited zeros many within are =
    let front : length (bit_list (take k bytes)) ≡ 8 * k = length-bit_list (take k bytes) ∙ ap (λ n. 8 * n) (length-take-le k bytes within) in
    let same : bit_list (take k bytes) ≡ waited =
    sym (take_at (bit_list (take k bytes)) (bit_list (drop k bytes)) (8 * k) front) ∙ ap (take (8 * k)) (sym (bit_list-take k bytes) ∙ are) ∙ take_at waited zeros (8 * k) (sym many) in
    ap (λ bits. bits ++ []) same

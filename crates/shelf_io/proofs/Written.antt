-- Bytes that are added in several calls.
use Rattle.std.proofs.Common.{◌≡◌, ℕ, ◌+◌, ◌-◌, ◌≤◌, List, [], ◌++◌, length, take, drop, refl, ap, sym, ◌∙◌, append_assoc, append-nil, length-append, arith}
use Rattle.std.proofs.Math.Seq.{take-add}
use Rattle.std.proofs.lemmas.List.{take-take}
use Rattle.shelf_io.specs.Sink.{Told, Bytes, Number, Nothing, with_bytes}

-- the first n bytes of a piece behind its first k
pub take_rest : (piece : List ℕ) (k n : ℕ) → n ≤ length piece - k → take n (take (length piece - k) (drop k piece)) ≡ take n (drop k piece)
take_rest piece k n h = take-take n (length piece - k) (drop k piece) h

-- to add no bytes is to add nothing
pub with_bytes-none : (told : Told) → told ≡ with_bytes told []
with_bytes-none (Bytes before) = ap Bytes (sym (append-nil before))
with_bytes-none (Number before) = ap Number (omega arith)
with_bytes-none Nothing = refl

-- to add bytes and then others is to add both
pub with_bytes-twice : (told : Told) (xs ys : List ℕ) → with_bytes (with_bytes told xs) ys ≡ with_bytes told (xs ++ ys)
with_bytes-twice (Bytes before) xs ys = ap Bytes (append_assoc before xs ys)
with_bytes-twice (Number before) xs ys = ap Number (omega (arith, length-append xs ys))
with_bytes-twice Nothing xs ys = refl

twice : (told : Told) (piece : List ℕ) (k n : ℕ) → with_bytes (with_bytes told (take k piece)) (take n (drop k piece)) ≡ with_bytes told (take (k + n) piece)
twice told piece k n = with_bytes-twice told (take k piece) (take n (drop k piece)) ∙ ap (with_bytes told) (sym (take-add k n piece))

-- to add the first k bytes of a piece and then the first n of the rest is to add the first k + n
pub with_bytes_twice : (told mid new : Told) (piece : List ℕ) (k n : ℕ) → n ≤ length piece - k → mid ≡ with_bytes told (take k piece)
    → new ≡ with_bytes mid (take n (take (length piece - k) (drop k piece))) → new ≡ with_bytes told (take (k + n) piece)
with_bytes_twice told mid new piece k n h before then =
    then ∙ ap (with_bytes mid) (take_rest piece k n h) ∙ ap (λ was. with_bytes was (take n (drop k piece))) before ∙ twice told piece k n

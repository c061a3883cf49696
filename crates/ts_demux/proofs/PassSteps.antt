-- A pass over the packets of a source, one packet further.
use Rattle.std.proofs.Common.{◌≡◌, ℕ, ◌+◌, ◌*◌, ◌<◌, List, [], ◌++◌, Option, Some, inl, inr, length, take, drop, sym, ap, ◌∙◌, arith, append_assoc, length-append, append-nil, subst}
use Rattle.std.proofs.lemmas.List.{take_at, drop_at, take-append-drop}
use Rattle.ts_packets.specs.TransportStream.{piece_at, piece_count}
use Rattle.ts_demux.specs.declared.demux_fault.DemuxFault.{DemuxFault}
use Rattle.ts_demux.specs.declared.pass_fault.PassFault.{PassFault}
use Rattle.ts_demux.specs.declared.pass_fault.PassFault.TheVariants.{Refused}
use Rattle.ts_demux.specs.PacketBuffer.{Passes, IsAtEnd}
use Rattle.ts_demux.specs.Pass.{IsEarly, IsWhole, HoldsOfFile, OnRefused}
use Rattle.ts_demux.proofs.Passing.{passes_twice}

-- the packet that stands first is passed too
pub passes_packet : (left after : Option (List ℕ)) (most most_after : ℕ) (seen held : List ℕ) → Passes left after most most_after [] seen held
    → Passes left after most most_after [] (seen ++ take 188 held) (drop 188 held)
passes_packet left after most most_after seen held passes = record {
  bytes = passes.bytes;
  taken = passes.taken;
  in_order = passes.in_order ∙ ap (λ (xs : List ℕ). seen ++ xs) (sym (take-append-drop 188 held)) ∙ sym (append_assoc seen (take 188 held) (drop 188 held));
}

-- what was taken is passed or held
pub passes_size : (left after : Option (List ℕ)) (most most_after : ℕ) (held passed held_after : List ℕ) → Passes left after most most_after held passed held_after
    → length held + most ≡ length passed + length held_after + most_after
passes_size left after most most_after held passed held_after passes =
    let same : length (held ++ passes.bytes) ≡ length (passed ++ held_after) = ap length passes.in_order in
    omega (arith, same, length-append held passes.bytes, length-append passed held_after, passes.taken.takes.fewer)

-- the bytes behind n packets are the next one's
pub next_within : (seen packet more : List ℕ) (n : ℕ) → length seen ≡ 188 * n → length packet ≡ 188 → n < piece_count (seen ++ (packet ++ more))
next_within seen packet more n count size = omega (arith, count, size, length-append seen (packet ++ more), length-append packet more)

pub next_piece : (seen packet more : List ℕ) (n : ℕ) → length seen ≡ 188 * n → length packet ≡ 188 → packet ≡ piece_at (seen ++ (packet ++ more)) n
next_piece seen packet more n count size =
    sym (ap (take 188) (drop_at seen (packet ++ more) (n * 188) (omega (arith, count))) ∙ take_at packet more 188 size)

-- the count of packets goes on
pub next_count : (seen packet : List ℕ) (n : ℕ) → length seen ≡ 188 * n → length packet ≡ 188 → length (seen ++ packet) ≡ 188 * (n + 1)
next_count seen packet n count size = omega (arith, count, size, length-append seen packet)

-- what passes where the buffer was filled behind it
pub passes_filled : (left mid after : Option (List ℕ)) (most most_mid most_after : ℕ) (seen held held_after : List ℕ) → Passes left mid most most_mid [] seen held
    → Passes mid after most_mid most_after held [] held_after → Passes left after most most_after [] seen held_after
passes_filled left mid after most most_mid most_after seen held held_after first then =
    subst (λ (passed : List ℕ). Passes left after most most_after [] passed held_after) (append-nil seen)
    (passes_twice left mid after most most_mid most_after [] seen held [] held_after first then)

-- ---- where the source told the file

-- what was read is its front
told_front : (file : List ℕ) (after : Option (List ℕ)) (most most_after : ℕ) (seen held : List ℕ) → Passes (Some file) after most most_after [] seen held →
    (rest : List ℕ) × ((seen ++ held) ++ rest ≡ file) × (after ≡ Some rest)
told_front file after most most_after seen held passes =
    let count = length passes.bytes in (
      drop count file,
      ap (λ (xs : List ℕ). xs ++ drop count file) (sym passes.in_order ∙ sym passes.taken.told) ∙ take-append-drop count file,
      passes.taken.takes.rest,
    )

pub told_seen : (file : List ℕ) (after : Option (List ℕ)) (most most_after : ℕ) (seen held : List ℕ) → Passes (Some file) after most most_after [] seen held →
    (more : List ℕ) × (seen ++ more ≡ file)
told_seen file after most most_after seen held passes =
    let front = told_front file after most most_after seen held passes in
    (held ++ front.0, sym (append_assoc seen held front.0) ∙ front.1)

pub told_all : (file : List ℕ) (after : Option (List ℕ)) (most most_after : ℕ) (seen held : List ℕ) → Passes (Some file) after most most_after [] seen held →
    IsAtEnd after → seen ++ held ≡ file
told_all file after most most_after seen held passes end =
    let front = told_front file after most most_after seen held passes in
    let ended : front.0 ≡ [] = subst (λ (told : Option (List ℕ)). IsAtEnd told) front.2 end in
    sym (append-nil (seen ++ held)) ∙ ap (λ (xs : List ℕ). (seen ++ held) ++ xs) (sym ended) ∙ front.1

pub told_early : (file : List ℕ) (after : Option (List ℕ)) (most most_after : ℕ) (held : List ℕ) (P : List ℕ → Type 0) → IsEarly (Some file) after most most_after held P → P file
told_early file after most most_after held P early =
    let seen = told_seen file after most most_after early.seen held early.passes in
    subst P seen.1 (early.every seen.0)

pub told_whole : (file : List ℕ) (after : Option (List ℕ)) (most most_after : ℕ) (held : List ℕ) (P : List ℕ → Type 0) → IsWhole (Some file) after most most_after held P → P file
told_whole file after most most_after held P whole = subst P (told_all file after most most_after whole.seen held whole.passes whole.end) whole.whole

-- what holds of the file that is read holds of the one that the source told
pub told_file : (file : List ℕ) (after : Option (List ℕ)) (most most_after : ℕ) (held : List ℕ) (P : List ℕ → Type 0) → HoldsOfFile (Some file) after most most_after held P → P file
told_file file after most most_after held P (inl early) = told_early file after most most_after held P early
told_file file after most most_after held P (inr whole) = told_whole file after most most_after held P whole

-- what is said of a refusal
pub on_refused : (fault : PassFault) (refusal : DemuxFault) (P : DemuxFault → Type 0) → fault ≡ Refused refusal → OnRefused fault P → P refusal
on_refused fault refusal P is said = subst (λ (f : PassFault). OnRefused f P) is said

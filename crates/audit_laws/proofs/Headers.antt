-- An audio decoder has no fault more where more bytes of its packets are PES headers: its buffers take all payload alike, and of what is held too long headers don't count.
use Rattle.std.proofs.Common.{◌≡◌, ℕ, zero, suc, ◌+◌, ◌-◌, ◌*◌, ◌<◌, ◌≤◌, Bool, true, false, cond, List, [], ◌∷◌, ◌++◌, replicate, take, Some, refl, sym, ap, ap₂, subst, ◌∙◌, arith}
use Rattle.std.specs.Prelude.{filter, slice_get}
use Rattle.std.specs.List.{AllZip, sum_by}
use Rattle.std.proofs.lemmas.List.{append_assoc, replicate-append-replicate}
use Rattle.std.proofs.lemmas.Option.{same_Some}
use Rattle.tstd_model.specs.declared.decoder_input.Arrival.{Arrival}
use Rattle.tstd_model.specs.declared.decoder_input.BufferKind.TheVariants.{Audio}
use Rattle.tstd_model.specs.declared.decoder_input.PacketPart.{PacketPart}
use Rattle.tstd_model.specs.declared.decoder_input.PacketPart.TheVariants.{Overhead, PesHeader, Data}
use Rattle.tstd_model.specs.declared.decoder_input.Removal.{Removal}
use Rattle.tstd_model.specs.declared.fault.TstdFault.{TstdFault}
use Rattle.tstd_model.specs.declared.fault.TstdFault.TheVariants.{Overflow, Late, Old}
use Rattle.tstd_model.specs.Instants.{came_before, departures}
use Rattle.tstd_model.specs.PacketBytes.{arrives, arrives_in, is_payload, kept, parts, parts_of}
use Rattle.tstd_model.specs.Decoder.{DecoderBuffer, buffers, leave_tb, payload_passes, removed}
use Rattle.audit_laws.specs.Headers.{HasNoLessHeader, HaveNoLessHeaders}
use Rattle.tstd_model.specs.Faults.{IsFault}

-- ---- bytes beside bytes

-- the byte is payload where the other is, and data only where the other is
pub record IsNoMore (more fewer : PacketPart) : Type 0 where
  pub payload : is_payload more ≡ is_payload fewer
  pub is_data : more ≡ Data → fewer ≡ Data

abbrev pub AreNoMore : List PacketPart → List PacketPart → Type 0
AreNoMore more fewer = AllZip IsNoMore more fewer

same-part : (part : PacketPart) → IsNoMore part part
same-part part = record { payload = refl; is_data = λ is. is }

no-data : PesHeader ≡ Data → ⊥
no-data is = cc

same-parts : (n : ℕ) (part : PacketPart) → AreNoMore (replicate n part) (replicate n part)
same-parts zero part = tt
same-parts (suc n) part = (same-part part, same-parts n part)

headers-for-data : (n : ℕ) → AreNoMore (replicate n PesHeader) (replicate n Data)
headers-for-data zero = tt
headers-for-data (suc n) = (record { payload = refl; is_data = λ is. absurd (no-data is) }, headers-for-data n)

both : (more fewer others rest : List PacketPart) → AreNoMore more fewer → AreNoMore others rest → AreNoMore (more ++ others) (fewer ++ rest)
both [] [] others rest first second = second
both [] (y ∷ ys) others rest first second = absurd first
both (x ∷ xs) [] others rest first second = absurd first
both (x ∷ xs) (y ∷ ys) others rest first second = (first.0, both xs ys others rest first.1 second)

-- ---- packets beside packets

body-parts : (h k d : ℕ) → AreNoMore (replicate (h + k) PesHeader ++ replicate d Data) (replicate h PesHeader ++ replicate (k + d) Data)
body-parts h k d =
    subst (λ (xs : List PacketPart). AreNoMore xs (replicate h PesHeader ++ replicate (k + d) Data))
    (sym (append_assoc (replicate h PesHeader) (replicate k PesHeader) (replicate d Data)) ∙ ap (λ (xs : List PacketPart). xs ++ replicate d Data) (replicate-append-replicate h k PesHeader))
    (subst (λ (xs : List PacketPart). AreNoMore (replicate h PesHeader ++ (replicate k PesHeader ++ replicate d Data)) (replicate h PesHeader ++ xs)) (replicate-append-replicate k d Data)
    (both (replicate h PesHeader) (replicate h PesHeader) (replicate k PesHeader ++ replicate d Data) (replicate k Data ++ replicate d Data) (same-parts h PesHeader)
    (both (replicate k PesHeader) (replicate k Data) (replicate d Data) (replicate d Data) (headers-for-data k) (same-parts d Data))))

packet-parts : (n p h h' : ℕ) → h ≤ h' → h' ≤ p
    → AreNoMore ((replicate n Overhead ++ replicate h' PesHeader) ++ replicate (p - h') Data) ((replicate n Overhead ++ replicate h PesHeader) ++ replicate (p - h) Data)
packet-parts n p h h' le within =
    let k : ℕ = h' - h in
    let body : AreNoMore (replicate h' PesHeader ++ replicate (p - h') Data) (replicate h PesHeader ++ replicate (p - h) Data) =
    subst (λ (m : ℕ). AreNoMore (replicate m PesHeader ++ replicate (p - h') Data) (replicate h PesHeader ++ replicate (p - h) Data)) (let e : h + (h' - h) ≡ h' = omega (arith, le) in e)
    (subst (λ (m : ℕ). AreNoMore (replicate (h + (h' - h)) PesHeader ++ replicate (p - h') Data) (replicate h PesHeader ++ replicate m Data))
    (let e : h' - h + (p - h') ≡ p - h = omega (arith, le, within) in e) (body-parts h (h' - h) (p - h'))) in
    let left : List PacketPart = replicate n Overhead ++ (replicate h' PesHeader ++ replicate (p - h') Data) in
    subst (λ (xs : List PacketPart). AreNoMore xs ((replicate n Overhead ++ replicate h PesHeader) ++ replicate (p - h) Data))
    (sym (append_assoc (replicate n Overhead) (replicate h' PesHeader) (replicate (p - h') Data)))
    (subst (λ (xs : List PacketPart). AreNoMore (replicate n Overhead ++ (replicate h' PesHeader ++ replicate (p - h') Data)) xs)
    (sym (append_assoc (replicate n Overhead) (replicate h PesHeader) (replicate (p - h) Data)))
    (both (replicate n Overhead) (replicate n Overhead) (replicate h' PesHeader ++ replicate (p - h') Data) (replicate h PesHeader ++ replicate (p - h) Data) (same-parts n Overhead) body))

one-packet : (more fewer : Arrival) → HasNoLessHeader more fewer → AreNoMore (parts_of more) (parts_of fewer)
unfolding parts_of
one-packet more fewer is =
    subst (λ (p : ℕ). AreNoMore ((replicate (188 - p) Overhead ++ replicate more.header PesHeader) ++ replicate (p - more.header) Data) (parts_of fewer)) (sym is.payload)
    (packet-parts (188 - fewer.payload) fewer.payload fewer.header more.header is.header (subst (λ (p : ℕ). more.header ≤ p) is.payload is.within))

all-parts : (more fewer : List Arrival) → HaveNoLessHeaders more fewer → AreNoMore (parts more) (parts fewer)
unfolding parts
all-parts [] [] have = tt
all-parts [] (y ∷ ys) have = absurd have
all-parts (x ∷ xs) [] have = absurd have
all-parts (x ∷ xs) (y ∷ ys) have = both (parts_of x) (parts_of y) (parts xs) (parts ys) (one-packet x y have.0) (all-parts xs ys have.1)

same-arrives : (slot : ℕ) (more fewer : List Arrival) → HaveNoLessHeaders more fewer → arrives slot more ≡ arrives slot fewer
unfolding arrives arrives_in
same-arrives slot [] [] have = refl
same-arrives slot [] (y ∷ ys) have = absurd have
same-arrives slot (x ∷ xs) [] have = absurd have
same-arrives slot (x ∷ xs) (y ∷ ys) have =
    ap₂ (λ (n : ℕ) (later : List ℕ). arrives_in slot (record { slot_no = n; header = 0; payload = 0 }) ++ later) have.0.slot (same-arrives slot xs ys have.1)

-- ---- what is kept of them

same-kept : (more fewer : List PacketPart) (entries : List ℕ) → AreNoMore more fewer → kept is_payload more entries ≡ kept is_payload fewer entries
unfolding kept
same-kept [] [] entries are = refl
same-kept [] (y ∷ ys) entries are = absurd are
same-kept (x ∷ xs) [] entries are = absurd are
same-kept (x ∷ xs) (y ∷ ys) [] are = refl
same-kept (x ∷ xs) (y ∷ ys) (e ∷ es) are =
    ap₂ (λ (b : Bool) (rest : List ℕ). cond b (e ∷ rest) rest) are.0.payload (same-kept xs ys es are.1)

-- data among the payload of the one is data among that of the other
data-there : (more fewer : List PacketPart) (byte : ℕ) → AreNoMore more fewer → slice_get (filter is_payload more) byte ≡ Some Data → slice_get (filter is_payload fewer) byte ≡ Some Data
data-there [] [] byte are there = there
data-there [] (y ∷ ys) byte are there = absurd are
data-there (x ∷ xs) [] byte are there = absurd are
data-there (x ∷ xs) (y ∷ ys) byte are there = by_test (is_payload x) (is_payload y) are.0.payload (λ k. data-there xs ys k are.1) byte there
  where
    by_test : (a b : Bool) → a ≡ b → ((k : ℕ) → slice_get (filter is_payload xs) k ≡ Some Data → slice_get (filter is_payload ys) k ≡ Some Data) → (byte : ℕ)
        → slice_get (cond a (x ∷ filter is_payload xs) (filter is_payload xs)) byte ≡ Some Data
        → slice_get (cond b (y ∷ filter is_payload ys) (filter is_payload ys)) byte ≡ Some Data
    by_test true true same rest zero found = ap (λ (part : PacketPart). Some part) (are.0.is_data (same_Some x Data found))
    by_test true true same rest (suc k) found = rest k found
    by_test false false same rest k found = rest k found
    by_test true false same rest k found = absurd cc
    by_test false true same rest k found = absurd cc

-- ---- the decoder

module _ (slot : ℕ) (more fewer : List Arrival) (removals : List Removal) (have : HaveNoLessHeaders more fewer) where
  beside : AreNoMore (parts more) (parts fewer)
  beside = all-parts more fewer have

  same-passes : payload_passes slot Audio more ≡ payload_passes slot Audio fewer
  unfolding payload_passes leave_tb
  same-passes =
      same-kept (parts more) (parts fewer) (leave_tb slot Audio more) beside
      ∙ ap (λ (comes : List ℕ). kept is_payload (parts fewer) (departures 101520 0 comes)) (same-arrives slot more fewer have)

  same-buffers : buffers slot Audio more removals ≡ buffers slot Audio fewer removals
  unfolding leave_tb
  same-buffers =
      ap₂ (λ (comes passes : List ℕ). record { size = 512; ins = comes; outs = departures 101520 0 comes } ∷ record { size = 3584; ins = passes; outs = removed removals } ∷ [])
      (same-arrives slot more fewer have) same-passes

  -- each of its faults is a fault of the other
  pub fault-there : (fault : TstdFault) → IsFault slot Audio more removals fault → IsFault slot Audio fewer removals fault
  fault-there (Overflow at) fault =
      record { place = fault.place; buffer = fault.buffer; one_of = ap (λ (bs : List DecoderBuffer). slice_get bs fault.place) (sym same-buffers) ∙ fault.one_of; over = fault.over }
  fault-there (Late number) fault = record {
    removal = fault.removal;
    one_of = fault.one_of;
    fewer = subst (λ (passes : List ℕ). came_before (940 * fault.removal.due) passes < sum_by (λ (r : Removal). r.bytes) (take (number + 1) removals)) same-passes fault.fewer;
  }
  fault-there (Old at) fault = record {
    byte = fault.byte;
    arrival = fault.arrival;
    is_data = data-there (parts more) (parts fewer) fault.byte beside fault.is_data;
    arrives = ap (λ (entries : List ℕ). slice_get entries fault.byte)
        (sym (same-kept (parts more) (parts fewer) (arrives slot fewer) beside) ∙ ap (kept is_payload (parts more)) (sym (same-arrives slot more fewer have))) ∙ fault.arrives;
    past = fault.past;
    stays = fault.stays;
  }

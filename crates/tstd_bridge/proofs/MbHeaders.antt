-- Bytes of PES headers leave MB with the data behind them, at most a header's bytes later than if each took its own time.
use Rattle.std.proofs.Common.{◌≡◌, ℕ, zero, suc, ◌+◌, ◌-◌, ◌<◌, ◌≤◌, ◌⊎◌, List, [], ◌∷◌, ◌++◌, length, replicate, max, refl, sym, subst, ap, inl, inr, append_assoc, arith}
use Rattle.std.proofs.lemmas.Bool.{cases_lt}
use Rattle.stream_constants.specs.declared.packets.TheConstants.{PACKET_BYTES}
use Rattle.tstd_model.specs.declared.decoder_input.Arrival.{Arrival}
use Rattle.tstd_model.specs.declared.decoder_input.PacketPart.{PacketPart}
use Rattle.tstd_model.specs.declared.decoder_input.PacketPart.TheVariants.{Overhead, PesHeader, Data}
use Rattle.tstd_model.specs.Instants.{departures, came}
use Rattle.tstd_model.specs.PacketBytes.{parts_of, is_payload, is_data, kept, with_headers}
use Rattle.tstd_model.specs.Private.Server.{last_departure}
use Rattle.tstd_model.proofs.Counts.{came-yes, came-no, came_none-spaced}
use Rattle.tstd_model.proofs.Server.{departures-spaced}

-- each PES header, one that so many bytes before these parts belong to too, has at most so many bytes, and data behind it
abbrev pub HaveDataBehind : (most before : ℕ) → List PacketPart → Type 0
HaveDataBehind most before [] = before ≡ 0
HaveDataBehind most before (Overhead ∷ parts) = (before ≡ 0) × HaveDataBehind most 0 parts
HaveDataBehind most before (PesHeader ∷ parts) = (suc before ≤ most) × HaveDataBehind most (suc before) parts
HaveDataBehind most before (Data ∷ parts) = HaveDataBehind most 0 parts

-- ---- data alone is served sooner than with PES headers
pub data_soon : (s l' l : ℕ) (ps : List PacketPart) (xs : List ℕ) → l' ≤ l → last_departure s l' (kept is_data ps xs) ≤ last_departure s l (kept is_payload ps xs)
unfolding kept last_departure
data_soon s l' l [] xs le = le
data_soon s l' l (p ∷ ps) [] le = le
data_soon s l' l (Overhead ∷ ps) (x ∷ xs) le = data_soon s l' l ps xs le
data_soon s l' l (PesHeader ∷ ps) (x ∷ xs) le = data_soon s l' (max x l + s) ps xs (omega (arith, le))
data_soon s l' l (Data ∷ ps) (x ∷ xs) le = data_soon s (max x l' + s) (max x l + s) ps xs (omega (arith, le))

-- ---- headers leave with the data behind them
shift : (count : ℕ) (ps : List PacketPart) → replicate count PesHeader ++ PesHeader ∷ ps ≡ replicate (suc count) PesHeader ++ ps
shift zero ps = refl
shift (suc count) ps = ap (λ (more : List PacketPart). PesHeader ∷ more) (shift count ps)

came_headers : (x move count : ℕ) (ps : List PacketPart) (later : List ℕ) → move ≤ x
    → came x (with_headers (replicate count PesHeader ++ Data ∷ ps) (move ∷ later)) ≡ count + suc (came x (with_headers ps later))
unfolding with_headers
came_headers x move zero ps later has = omega (arith, came-yes x move (with_headers ps later) has)
came_headers x move (suc count) ps later has =
    omega (arith, came-yes x move (with_headers (replicate count PesHeader ++ Data ∷ ps) (move ∷ later)) has, came_headers x move count ps later has)

pub headers_behind : (most s x before l' l : ℕ) (ps : List PacketPart) (xs : List ℕ) → HaveDataBehind most before ps → length ps ≡ length xs → l' ≤ l → before ≤ most
    → before + came x (departures s l (kept is_payload ps xs)) ≤ most + came x (with_headers (replicate before PesHeader ++ ps) (departures s l' (kept is_data ps xs)))
unfolding kept departures with_headers
headers_behind most s x before l' l [] xs behind as_many le few = omega (arith, few)
headers_behind most s x before l' l (p ∷ ps) [] behind as_many le few = absurd (omega (arith, as_many))
headers_behind most s x zero l' l (Overhead ∷ ps) (y ∷ ys) behind as_many le few = headers_behind most s x zero l' l ps ys behind.1 (omega (arith, as_many)) le few
headers_behind most s x (suc before) l' l (Overhead ∷ ps) (y ∷ ys) behind as_many le few = absurd (omega (arith, behind.0))
headers_behind most s x before l' l (PesHeader ∷ ps) (y ∷ ys) behind as_many le few =
    let z = max y l + s in
    let later = departures s (max y l + s) (kept is_payload ps ys) in
    elim (cases_lt x (max y l + s)) [
      | inl after ↦ omega (arith, few, came-no x z later after, came_none-spaced s x z later after (departures-spaced s z (kept is_payload ps ys)))
      | inr has ↦
          omega (
            arith,
            came-yes x z later has,
            ap (λ (q : List PacketPart). came x (with_headers q (departures s l' (kept is_data ps ys)))) (shift before ps),
            headers_behind most s x (suc before) l' z ps ys behind.1 (omega (arith, as_many)) (omega (arith, le)) behind.0,
          )
    ]
headers_behind most s x before l' l (Data ∷ ps) (y ∷ ys) behind as_many le few =
    let z = max y l + s in
    let u = max y l' + s in
    let later = departures s (max y l + s) (kept is_payload ps ys) in
    elim (cases_lt x (max y l + s)) [
      | inl after ↦ omega (arith, few, came-no x z later after, came_none-spaced s x z later after (departures-spaced s z (kept is_payload ps ys)))
      | inr has ↦
          omega (
            arith,
            came-yes x z later has,
            came_headers x u before ps (departures s u (kept is_data ps ys)) (omega (arith, has, le)),
            headers_behind most s x 0 u z ps ys behind (omega (arith, as_many)) (omega (arith, le)) (omega arith),
          )
    ]

-- ---- the parts of packets
pub behind-append : (most before : ℕ) (ps qs : List PacketPart) → HaveDataBehind most before ps → HaveDataBehind most 0 qs → HaveDataBehind most before (ps ++ qs)
behind-append most before [] qs first second = subst (λ b. HaveDataBehind most b qs) (sym first) second
behind-append most before (Overhead ∷ ps) qs first second = (first.0, behind-append most 0 ps qs first.1 second)
behind-append most before (PesHeader ∷ ps) qs first second = (first.0, behind-append most (suc before) ps qs first.1 second)
behind-append most before (Data ∷ ps) qs first second = behind-append most 0 ps qs first second

behind-overhead : (most count : ℕ) (ps : List PacketPart) → HaveDataBehind most 0 ps → HaveDataBehind most 0 (replicate count Overhead ++ ps)
behind-overhead most zero ps rest = rest
behind-overhead most (suc count) ps rest = (refl, behind-overhead most count ps rest)

behind-header : (most before count all : ℕ) (ps : List PacketPart) → all ≡ before + count → all ≤ most → HaveDataBehind most all ps → HaveDataBehind most before (replicate count PesHeader ++ ps)
behind-header most before zero all ps all_is few rest = let same : all ≡ before = omega (arith, all_is) in subst (λ b. HaveDataBehind most b ps) same rest
behind-header most before (suc count) all ps all_is few rest = (omega (arith, all_is, few), behind-header most (suc before) count all ps (omega (arith, all_is)) few rest)

behind-data : (most count : ℕ) → HaveDataBehind most 0 (replicate count Data)
behind-data most zero = refl
behind-data most (suc count) = behind-data most count

behind-some : (most before count : ℕ) → (0 < count) ⊎ (before ≡ 0) → HaveDataBehind most before (replicate count Data)
behind-some most before zero (inl some) = absurd (omega (arith, some))
behind-some most before zero (inr none) = none
behind-some most before (suc count) some = behind-data most count

pub behind-packet : (most : ℕ) (arrival : Arrival) → arrival.header ≤ most → (0 < arrival.payload - arrival.header) ⊎ (arrival.header ≡ 0) → HaveDataBehind most 0 (parts_of arrival)
unfolding parts_of
behind-packet most arrival few some =
    let front = replicate (PACKET_BYTES - arrival.payload) Overhead in
    let header = replicate arrival.header PesHeader in
    let body = replicate (arrival.payload - arrival.header) Data in
    subst (λ (ps : List PacketPart). HaveDataBehind most 0 ps) (sym (append_assoc front header body))
    (behind-overhead most (PACKET_BYTES - arrival.payload) (header ++ body)
    (behind-header most 0 arrival.header arrival.header body (omega arith) few (behind-some most arrival.header (arrival.payload - arrival.header) some)))

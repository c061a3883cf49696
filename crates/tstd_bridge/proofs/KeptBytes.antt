-- The bytes of one more packet that go on from TB, and how many of some instants have come.
use Rattle.std.proofs.Common.{◌≡◌, ℕ, zero, suc, ◌+◌, ◌-◌, ◌≤◌, leb, cond, Bool, List, [], ◌∷◌, ◌++◌, length, replicate, max, refl, ap, ◌∙◌, inl, inr, append-nil, append_assoc, length-append, arith}
use Rattle.std.proofs.lemmas.List.{length-replicate}
use Rattle.std.proofs.lemmas.Bool.{cases_Bool}
use Rattle.std.proofs.lemmas.Grind.{flat_map-append}
use Rattle.std.proofs.lemmas.List.Sums.{sum_by-append}
use Rattle.stream_constants.specs.declared.packets.TheConstants.{PACKET_BYTES}
use Rattle.tstd_model.specs.declared.decoder_input.Arrival.{Arrival}
use Rattle.tstd_model.specs.declared.decoder_input.PacketPart.{PacketPart}
use Rattle.tstd_model.specs.declared.decoder_input.PacketPart.TheVariants.{Overhead, PesHeader, Data}
use Rattle.tstd_model.specs.Instants.{spaced, departures, came}
use Rattle.tstd_model.specs.PacketBytes.{HasHeaderWithin, parts_of, parts, is_payload, is_data, kept}
use Rattle.tstd_model.specs.Private.Server.{Spaced}
use Rattle.tstd_model.proofs.Counts.{came-yes, Spaced-rises}
use Rattle.tstd_model.proofs.Server.{departures-spaced}

-- ---- counts
pub came-append : (x : ℕ) (xs ys : List ℕ) → came x (xs ++ ys) ≡ came x xs + came x ys
came-append x xs ys = sum_by-append (λ instant. cond (leb instant x) 1 0) xs ys

pub came-replicate : (x at count : ℕ) → at ≤ x → came x (replicate count at) ≡ count
came-replicate x at zero has = refl
came-replicate x at (suc count) has = omega (arith, came-yes x at (replicate count at) has, came-replicate x at count has)

-- ---- bytes leave after they come
pub departures-from : (s l first step count : ℕ) → Spaced 0 first (departures s l (spaced first step count))
unfolding departures spaced
departures-from s l first step zero = tt
departures-from s l first step (suc count) = (
  omega arith,
  Spaced-rises s (max first l + s) (max first l + s) (departures s (max first l + s) (spaced (first + step) step count)) (omega arith)
      (departures-spaced s (max first l + s) (spaced (first + step) step count)),
)

-- ---- entries of bytes that are kept
pub kept-append : (test : PacketPart → Bool) (ps qs : List PacketPart) (xs ys : List ℕ) → length ps ≡ length xs → kept test (ps ++ qs) (xs ++ ys) ≡ kept test ps xs ++ kept test qs ys
unfolding kept
kept-append test [] qs [] ys as_many = refl
kept-append test [] qs (x ∷ xs) ys as_many = absurd (omega (arith, as_many))
kept-append test (p ∷ ps) qs [] ys as_many = absurd (omega (arith, as_many))
kept-append test (p ∷ ps) qs (x ∷ xs) ys as_many =
    let later : kept test (ps ++ qs) (xs ++ ys) ≡ kept test ps xs ++ kept test qs ys = kept-append test ps qs xs ys (omega (arith, as_many)) in
    elim (cases_Bool (test p)) as (λ _. kept test ((p ∷ ps) ++ qs) ((x ∷ xs) ++ ys) ≡ kept test (p ∷ ps) (x ∷ xs) ++ kept test qs ys) [
      | inl passes ↦ rw passes (ap (λ more. x ∷ more) later)
      | inr fails ↦ rw fails later
    ]

pub length-kept_parts : (test : PacketPart → Bool) (ps : List PacketPart) (xs : List ℕ) → length (kept test ps xs) ≤ length ps
unfolding kept
length-kept_parts test [] xs = omega arith
length-kept_parts test (p ∷ ps) [] = omega arith
length-kept_parts test (p ∷ ps) (x ∷ xs) =
    elim (cases_Bool (test p)) as (λ _. length (kept test (p ∷ ps) (x ∷ xs)) ≤ length (p ∷ ps)) [
      | inl passes ↦ rw passes (omega (arith, length-kept_parts test ps xs))
      | inr fails ↦ rw fails (omega (arith, length-kept_parts test ps xs))
    ]

length-kept_behind : (count : ℕ) (ps : List PacketPart) (xs : List ℕ) → length (kept is_payload (replicate count Overhead ++ ps) xs) ≤ length ps
unfolding kept
length-kept_behind zero ps xs = length-kept_parts is_payload ps xs
length-kept_behind (suc count) ps [] = omega arith
length-kept_behind (suc count) ps (x ∷ xs) = length-kept_behind count ps xs

-- the parts of a packet's payload
payload_parts : (arrival : Arrival) → HasHeaderWithin arrival → length (replicate arrival.header PesHeader ++ replicate (arrival.payload - arrival.header) Data) ≡ arrival.payload
payload_parts arrival fits =
    let header = replicate arrival.header PesHeader in
    let body = replicate (arrival.payload - arrival.header) Data in
    omega (arith, length-append header body, length-replicate arrival.header PesHeader, length-replicate (arrival.payload - arrival.header) Data, fits.0)

parts_of-is : (arrival : Arrival)
    → parts_of arrival ≡ replicate (PACKET_BYTES - arrival.payload) Overhead ++ (replicate arrival.header PesHeader ++ replicate (arrival.payload - arrival.header) Data)
unfolding parts_of
parts_of-is arrival = append_assoc (replicate (PACKET_BYTES - arrival.payload) Overhead) (replicate arrival.header PesHeader) (replicate (arrival.payload - arrival.header) Data)

pub length-kept_packet : (arrival : Arrival) (xs : List ℕ) → HasHeaderWithin arrival → length (kept is_payload (parts_of arrival) xs) ≤ arrival.payload
length-kept_packet arrival xs fits =
    let rest = replicate arrival.header PesHeader ++ replicate (arrival.payload - arrival.header) Data in
    rw (parts_of-is arrival) (omega (arith, length-kept_behind (PACKET_BYTES - arrival.payload) rest xs, payload_parts arrival fits))

pub length-packet_parts : (arrival : Arrival) → HasHeaderWithin arrival → length (parts_of arrival) ≡ PACKET_BYTES
length-packet_parts arrival fits =
    let front = replicate (PACKET_BYTES - arrival.payload) Overhead in
    let rest = replicate arrival.header PesHeader ++ replicate (arrival.payload - arrival.header) Data in
    rw (parts_of-is arrival)
    (omega (arith, length-append front rest, length-replicate (PACKET_BYTES - arrival.payload) Overhead, payload_parts arrival fits, fits.1))

pub parts-push : (arrivals : List Arrival) (arrival : Arrival) → parts (arrivals ++ arrival ∷ []) ≡ parts arrivals ++ parts_of arrival
unfolding parts
parts-push arrivals arrival = flat_map-append parts_of arrivals (arrival ∷ []) ∙ ap (λ more. parts arrivals ++ more) (append-nil (parts_of arrival))

-- ---- all payload bytes of a packet are kept
kept_body : (body : ℕ) (xs : List ℕ) → body ≤ length xs → length (kept is_payload (replicate body Data) xs) ≡ body
unfolding kept
kept_body zero xs within = refl
kept_body (suc body) [] within = absurd (omega arith)
kept_body (suc body) (x ∷ xs) within = ap suc (kept_body body xs (omega (arith, within)))

kept_payload : (header body : ℕ) (xs : List ℕ) → header + body ≤ length xs → length (kept is_payload (replicate header PesHeader ++ replicate body Data) xs) ≡ header + body
unfolding kept
kept_payload zero body xs within = kept_body body xs (omega (arith, within)) ∙ (let e : body ≡ 0 + body = omega arith in e)
kept_payload (suc header) body [] within = absurd (omega arith)
kept_payload (suc header) body (x ∷ xs) within =
    let e : suc (header + body) ≡ suc header + body = omega arith in
    ap suc (kept_payload header body xs (omega (arith, within))) ∙ e

kept_all : (front header body : ℕ) (xs : List ℕ) → front + (header + body) ≤ length xs
    → length (kept is_payload (replicate front Overhead ++ (replicate header PesHeader ++ replicate body Data)) xs) ≡ header + body
unfolding kept
kept_all zero header body xs within = kept_payload header body xs (omega (arith, within))
kept_all (suc front) header body [] within = absurd (omega arith)
kept_all (suc front) header body (x ∷ xs) within = kept_all front header body xs (omega (arith, within))

pub length-kept_whole : (arrival : Arrival) (xs : List ℕ) → HasHeaderWithin arrival → length xs ≡ PACKET_BYTES → length (kept is_payload (parts_of arrival) xs) ≡ arrival.payload
length-kept_whole arrival xs fits whole =
    rw (parts_of-is arrival)
    (omega (arith, kept_all (PACKET_BYTES - arrival.payload) arrival.header (arrival.payload - arrival.header) xs (omega (arith, fits.0, fits.1, whole)), fits.0))

pub spaced-from : (before first step count : ℕ) → before ≤ first → Spaced 0 before (spaced first step count)
unfolding spaced
spaced-from before first step zero le = tt
spaced-from before first step (suc count) le = (omega arith, spaced-from first (first + step) step count (omega arith))

-- ---- all data bytes of a packet are kept
data_body : (body : ℕ) (xs : List ℕ) → body ≤ length xs → length (kept is_data (replicate body Data) xs) ≡ body
unfolding kept
data_body zero xs within = refl
data_body (suc body) [] within = absurd (omega arith)
data_body (suc body) (x ∷ xs) within = ap suc (data_body body xs (omega (arith, within)))

data_payload : (header body : ℕ) (xs : List ℕ) → header + body ≤ length xs → length (kept is_data (replicate header PesHeader ++ replicate body Data) xs) ≡ body
unfolding kept
data_payload zero body xs within = data_body body xs (omega (arith, within))
data_payload (suc header) body [] within = absurd (omega arith)
data_payload (suc header) body (x ∷ xs) within = data_payload header body xs (omega (arith, within))

data_all : (front header body : ℕ) (xs : List ℕ) → front + (header + body) ≤ length xs
    → length (kept is_data (replicate front Overhead ++ (replicate header PesHeader ++ replicate body Data)) xs) ≡ body
unfolding kept
data_all zero header body xs within = data_payload header body xs (omega (arith, within))
data_all (suc front) header body [] within = absurd (omega arith)
data_all (suc front) header body (x ∷ xs) within = data_all front header body xs (omega (arith, within))

pub length-kept_data : (arrival : Arrival) (xs : List ℕ) → HasHeaderWithin arrival → length xs ≡ PACKET_BYTES → length (kept is_data (parts_of arrival) xs) ≡ arrival.payload - arrival.header
length-kept_data arrival xs fits whole =
    rw (parts_of-is arrival)
    (data_all (PACKET_BYTES - arrival.payload) arrival.header (arrival.payload - arrival.header) xs (omega (arith, fits.0, fits.1, whole)))

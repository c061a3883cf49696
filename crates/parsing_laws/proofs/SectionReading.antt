-- The sections that each packet of an output stream completes, on a PID that carries one section again and again.
use Rattle.std.proofs.Common.{
  ◌≡◌,
  ℕ,
  zero,
  suc,
  ◌+◌,
  ◌-◌,
  ◌<◌,
  ◌≤◌,
  Bool,
  true,
  false,
  not,
  cond,
  ◌==◌,
  List,
  [],
  ◌∷◌,
  ◌++◌,
  length,
  get_or,
  map,
  take,
  drop,
  replicate,
  Some,
  None,
  refl,
  sym,
  ap,
  ap₂,
  ◌∙◌,
  subst,
  arith,
}
use Rattle.std.specs.Prelude.{is_none, slice_get}
use Rattle.std.specs.List.{find}
use Rattle.std.proofs.lemmas.Bool.{eqb-true}
use Rattle.std.proofs.lemmas.List.{get_or-drop, length-drop, take_more}
use Rattle.std.proofs.lemmas.List.Sums.{sum_by_push}
use Rattle.std.proofs.lemmas.Option.{none-some, same_Some}
use Rattle.ts_packets.specs.declared.packet_fault.PacketFault.TheVariants.{Sync, ErrorFlag, Scrambled, BadField}
use Rattle.ts_packets.specs.Packet.{PacketRecord, fields_of, has_fault, packet_of, sync_byte}
use Rattle.ts_packets.specs.TransportStream.{pid_pieces}
use Rattle.psi_tables.specs.Sections.{Found}
use Rattle.slot_rule.specs.declared.sent.Sent.{Sent}
use Rattle.slot_rule.specs.declared.sent.Sent.TheVariants.{Null}
use Rattle.ts_demux.specs.Tables.{sections_at, sections_in}
use Rattle.mux_writer.specs.declared.layout.Layout.{Layout}
use Rattle.mux_writer.specs.Output.{payload_count, sent_in}
use Rattle.output_laws.specs.SentOn.{is_sent_on, slots_between}

-- bytes that are read as a packet begin with the sync byte
pub synced : (bytes : List ℕ) (packet : PacketRecord) → packet_of bytes ≡ Some packet → sync_byte bytes ≡ 0x47
synced bytes packet is = by_test (sync_byte bytes == 0x47) refl
  where
    by_test : (test : Bool) → (sync_byte bytes == 0x47) ≡ test → sync_byte bytes ≡ 0x47
    by_test true same = eqb-true (sync_byte bytes) 0x47 same
    by_test false same =
        absurd (none-some packet
        (sym (ap (λ (t : Bool). cond (is_none (cond (not t) (Some Sync) (find (has_fault bytes) (ErrorFlag ∷ Scrambled ∷ BadField ∷ [])))) (Some (fields_of bytes)) None) same) ∙ is))

-- ---- one section again and again

-- from any packet to any later one the sections on the PID are this one, as often as slots send it
abbrev pub SectionsAre : (file : List ℕ) → Layout → List Sent → (pid : ℕ) → Found → Type 0
SectionsAre file layout rows pid found =
    (from to : ℕ) → from ≤ to → to ≤ length rows → sections_in (pid_pieces file pid from to) ≡ replicate (payload_count layout pid (slots_between rows from to)) found

drop-front : {A : Type 0} (a c : ℕ) (x : A) → drop (length (replicate a x)) (replicate (a + c) x) ≡ replicate c x
drop-front zero c x = ap (λ (n : ℕ). replicate n x) (let e : zero + c ≡ c = omega arith in e)
drop-front (suc a) c x = ap (λ (n : ℕ). drop (length (replicate (suc a) x)) (replicate n x)) (let e : suc a + c ≡ suc (a + c) = omega arith in e) ∙ drop-front a c x

-- one for a slot that sends on the PID
abbrev pub sent_there : Layout → (pid : ℕ) → List Sent → ℕ → Bool
sent_there layout pid rows n = is_sent_on layout pid (sent_in rows n)

count-between : (layout : Layout) (pid : ℕ) (rows : List Sent) (from n : ℕ) → from ≤ n → n < length rows
    → payload_count layout pid (slots_between rows from (n + 1)) ≡ payload_count layout pid (slots_between rows from n) + cond (sent_there layout pid rows n) 1 0
count-between layout pid rows from n begun within =
    let more : (n + 1) - from ≡ (n - from) + 1 = omega (arith, begun) in
    let place : from + (n - from) ≡ n = omega (arith, begun) in
    let inside : n - from < length (drop from rows) = omega (arith, begun, within, length-drop from rows) in
    let row : get_or (drop from rows) (n - from) Null ≡ sent_in rows n = get_or-drop from rows (n - from) Null ∙ ap (λ (k : ℕ). get_or rows k Null) place in
    ap (λ (k : ℕ). payload_count layout pid (take k (drop from rows))) more
    ∙ ap (payload_count layout pid) (take_more (drop from rows) (n - from) Null inside)
    ∙ sum_by_push (λ (sent : Sent). cond {A = ℕ} (is_sent_on layout pid sent) 1 0) (take (n - from) (drop from rows)) (get_or (drop from rows) (n - from) Null)
    ∙ ap (λ (sent : Sent). payload_count layout pid (slots_between rows from n) + cond {A = ℕ} (is_sent_on layout pid sent) 1 0) row

-- what a packet adds: the section where its slot sends on the PID, and else nothing
pub sections-added : (file : List ℕ) (layout : Layout) (rows : List Sent) (pid : ℕ) (found : Found) → SectionsAre file layout rows pid found → (from n : ℕ) → from ≤ n → n < length rows
    → sections_at file pid from n ≡ replicate (cond (sent_there layout pid rows n) 1 0) found
sections-added file layout rows pid found are from n begun within =
    let a : ℕ = payload_count layout pid (slots_between rows from n) in
    let c : ℕ = cond {A = ℕ} (sent_there layout pid rows n) 1 0 in
    let before : sections_in (pid_pieces file pid from n) ≡ replicate a found = are from n begun (omega (arith, within)) in
    let after : sections_in (pid_pieces file pid from (n + 1)) ≡ replicate (a + c) found =
    are from (n + 1) (omega (arith, begun)) (omega (arith, within)) ∙ ap (λ (k : ℕ). replicate k found) (count-between layout pid rows from n begun within) in
    ap₂ (λ (xs ys : List Found). drop (length xs) ys) before after ∙ drop-front a c found

pub first-added : (file : List ℕ) (layout : Layout) (rows : List Sent) (pid : ℕ) (found : Found) → SectionsAre file layout rows pid found → (from n : ℕ) → from ≤ n → n < length rows
    → sent_there layout pid rows n ≡ true → slice_get (sections_at file pid from n) 0 ≡ Some found
first-added file layout rows pid found are from n begun within on =
    ap (λ (xs : List Found). slice_get xs 0) (sections-added file layout rows pid found are from n begun within)
    ∙ ap (λ (sent : Bool). slice_get (replicate (cond {A = ℕ} sent 1 0) found) 0) on

one-of : (found f : Found) (k : ℕ) (sent : Bool) → slice_get (replicate (cond {A = ℕ} sent 1 0) found) k ≡ Some f → (f ≡ found) × (sent ≡ true)
one-of found f zero true is = (sym (same_Some found f is), refl)
one-of found f (suc k) true is = absurd (none-some f is)
one-of found f zero false is = absurd (none-some f is)
one-of found f (suc k) false is = absurd (none-some f is)

pub only-added : (file : List ℕ) (layout : Layout) (rows : List Sent) (pid : ℕ) (found : Found) → SectionsAre file layout rows pid found → (from n k : ℕ) (f : Found) → from ≤ n → n < length rows
    → slice_get (sections_at file pid from n) k ≡ Some f → (f ≡ found) × (sent_there layout pid rows n ≡ true)
only-added file layout rows pid found are from n k f begun within is =
    one-of found f k (sent_there layout pid rows n) (sym (ap (λ (xs : List Found). slice_get xs k) (sections-added file layout rows pid found are from n begun within)) ∙ is)

-- What is passed of lists of instants, and what follows for the packets that bring them.
use Rattle.std.proofs.Common.{◌≡◌, ℕ, zero, suc, ◌+◌, ◌*◌, ◌<◌, ◌≤◌, List, [], ◌∷◌, ◌++◌, length, replicate, append-nil, refl, sym, ◌∙◌, ap, subst, arith, Option, Some, None, IfSome, IfNone, slice_index_or, remove}
use Rattle.std.proofs.lemmas.List.{append_assoc, nil_from_length}
use Rattle.stream_constants.specs.declared.decoder.TheConstants.{MB_SUBTICKS}
use Rattle.tstd_model.specs.declared.passing.Wanted.{Wanted}
use Rattle.tstd_model.specs.declared.passing.Wanted.TheVariants.{DataAlone}
use Rattle.tstd_model.specs.declared.runs.Passed.{Passed}
use Rattle.tstd_model.specs.declared.runs.Run.{Run}
use Rattle.tstd_model.specs.Instants.{departures_into}
use Rattle.tstd_model.specs.PacketBytes.{Arrival, HasHeaderWithin, parts, with_headers}
use Rattle.tstd_model.specs.Private.Keeps.{Keeps, EachAtLeast, GivesRun, HasPassed, Passes, wanted_count}
use Rattle.tstd_model.specs.Private.Runs.{run_bytes}
use Rattle.tstd_model.specs.Private.Server.{EachAtMost}
use Rattle.tstd_model.specs.Private.Watches.{comes_later, first_of}
use Rattle.tstd_model.proofs.KeepLaws.{keeps-same, keeps-through, keeps-front, keeps-run, keeps-most, keeps-into, keeps-moved, keeps-headers}
use Rattle.tstd_model.proofs.KeptPackets.{arrives-kept, with_headers-first, with_headers-none}

-- ---- what is passed grows
pub least-more : (least least' at count : ℕ) (xs : List ℕ) → least' ≤ least → least' ≤ at → EachAtLeast least xs → EachAtLeast least' (xs ++ replicate count at)
least-more least least' at zero [] le le' each = tt
least-more least least' at (suc count) [] le le' each = (le', least-more least least' at count [] le le' tt)
least-more least least' at count (x ∷ xs) le le' each = (omega (arith, each.0), least-more least least' at count xs le le' each.1)

pub most-more : (most most' at count : ℕ) (xs : List ℕ) → most ≤ most' → at ≤ most' → EachAtMost most xs → EachAtMost most' (xs ++ replicate count at)
most-more most most' at zero [] le le' each = tt
most-more most most' at (suc count) [] le le' each = (le', most-more most most' at count [] le le' tt)
most-more most most' at count (x ∷ xs) le le' each = (omega (arith, each.0), most-more most most' at count xs le le' each.1)

replicate-cut : (k n m at : ℕ) → m ≡ k + n → replicate m at ≡ replicate k at ++ replicate n at
replicate-cut zero n m at is = let same : m ≡ n = omega (arith, is) in ap (λ c. replicate c at) same
replicate-cut (suc k) n zero at is = absurd (omega (arith, is))
replicate-cut (suc k) n (suc m) at is = ap (λ (l : List ℕ). at ∷ l) (replicate-cut k n m at (omega (arith, is)))

length-more : (xs : List ℕ) (count at : ℕ) → length (xs ++ replicate count at) ≡ length xs + count
length-more [] zero at = refl
length-more [] (suc count) at = omega (arith, length-more [] count at)
length-more (x ∷ xs) count at = omega (arith, length-more xs count at)

-- some of the run that is left first
pub passed-more : (passed passed' : Passed) (before rest : List ℕ) (k n m at : ℕ) → m ≡ k + n → passed'.count ≡ passed.count + k
    → ((taken : List ℕ) → EachAtLeast passed.first taken → EachAtLeast passed'.first (taken ++ replicate k at))
    → ((taken : List ℕ) → EachAtMost passed.last taken → EachAtMost passed'.last (taken ++ replicate k at))
    → HasPassed passed before (replicate m at ++ rest) → HasPassed passed' before (replicate n at ++ rest)
passed-more passed passed' before rest k n m at is count_is least most has =
    let xs = replicate k at in
    let ys = replicate n at in
    record {
      taken = has.taken ++ xs;
      split =
          has.split
          ∙ ap (λ (l : List ℕ). has.taken ++ (l ++ rest)) (replicate-cut k n m at is)
          ∙ ap (λ (l : List ℕ). has.taken ++ l) (append_assoc xs ys rest)
          ∙ sym (append_assoc has.taken xs (ys ++ rest));
      number = omega (arith, length-more has.taken k at, has.number, count_is);
      least = least has.taken has.least;
      most = most has.taken has.most;
    }

-- ---- what bounds on what is passed show
-- the latest of so many
pub passed-most : (passed : Passed) (count : ℕ) (before after : List ℕ) → HasPassed passed before after → passed.count ≡ count
    → Keeps 0 0 (replicate count passed.last ++ after) before
passed-most passed count before after has count_is =
    subst (λ l. Keeps 0 0 (replicate count passed.last ++ after) l) (sym has.split)
    (keeps-most passed.last count has.taken after after (has.number ∙ count_is) has.most (keeps-same after))

-- instants behind those that are passed
pub passed-behind : (passed : Passed) (before after lows : List ℕ) → HasPassed passed before after → HasPassed passed (before ++ lows) (after ++ lows)
passed-behind passed before after lows has = record {
  taken = has.taken;
  split = ap (λ (l : List ℕ). l ++ lows) has.split ∙ append_assoc has.taken after lows;
  number = has.number;
  least = has.least;
  most = has.most;
}

-- the wanted bytes of a packet come in time
pub passed-come : (wanted : Wanted) (slot limit : ℕ) (packet : Arrival) (passed : Passed) (before after : List ℕ) (later : List Arrival) → HasHeaderWithin packet
    → HasPassed passed before after → passed.count ≡ wanted_count wanted packet → passed.last ≤ first_of slot packet + limit
    → Keeps 0 limit (comes_later wanted slot later) after → Keeps 0 limit (comes_later wanted slot (packet ∷ later)) before
passed-come wanted slot limit packet passed before after later fits has count_is le keeps =
    let count = wanted_count wanted packet in
    keeps-through 0 limit (comes_later wanted slot (packet ∷ later)) (replicate count passed.last ++ after) before
    (arrives-kept 0 slot 0 packet later fits wanted limit passed.last count after refl le keeps)
    (passed-most passed count before after has count_is)

pub come-by : (passed : Passed) (first first' limit : ℕ) → first ≡ first' → passed.last ≤ first + limit → passed.last ≤ first' + limit
come-by passed first first' limit is le = subst (λ n. passed.last ≤ n + limit) is le

-- taken bytes that are all behind an instant by which so many have come
found-front : (least at count : ℕ) (xs rest lows : List ℕ) → length xs ≤ count → (length xs < count → rest ≡ []) → (0 < length xs → at < least) → EachAtLeast least xs
    → Keeps 1 0 rest lows → Keeps 1 0 (xs ++ rest) (replicate count at ++ lows)
found-front least at zero [] rest lows le end behind each keeps = keeps
found-front least at (suc count) [] rest lows le end behind each keeps = subst (λ l. Keeps 1 0 l (replicate (suc count) at ++ lows)) (sym (end (omega arith))) tt
found-front least at zero (x ∷ xs) rest lows le end behind each keeps = absurd (omega (arith, le))
found-front least at (suc count) (x ∷ xs) rest lows le end behind each keeps = (
  omega (arith, each.0, behind (omega arith)),
  found-front least at count xs rest lows (omega (arith, le)) (λ less. end (omega (arith, less))) (λ some. behind (omega arith)) each.1 keeps,
)

pub passed-found : (passed : Passed) (count at : ℕ) (before after lows comes : List ℕ) → Passes count passed before after → (0 < passed.count → at < passed.first)
    → Keeps 0 0 (replicate count at ++ lows) comes → Keeps 1 0 after lows → Keeps 1 0 before comes
passed-found passed count at before after lows comes passes behind bound keeps =
    let has = passes.has in
    keeps-through 1 0 before (replicate count at ++ lows) comes
    (subst (λ l. Keeps 1 0 l (replicate count at ++ lows)) (sym has.split)
    (found-front passed.first at count has.taken after lows (omega (arith, has.number, passes.few)) (λ less. passes.all (omega (arith, has.number, less)))
    (λ some. behind (omega (arith, has.number, some))) has.least keeps))
    bound

-- ---- data moves
pub passed-moved : (passed : Passed) (before by come at count : ℕ) (rooms rooms' comes : List ℕ) → HasPassed passed rooms rooms' → passed.count ≡ count
    → before ≤ by → come ≤ by → passed.last ≤ by → by + MB_SUBTICKS * count ≤ at
    → Keeps 0 0 (replicate count at ++ departures_into rooms' MB_SUBTICKS at comes) (departures_into rooms MB_SUBTICKS before (replicate count come ++ comes))
passed-moved passed before by come at count rooms rooms' comes has count_is le le' le'' end =
    let all = replicate count come ++ comes in
    keeps-through 0 0 (replicate count at ++ departures_into rooms' MB_SUBTICKS at comes)
    (departures_into (replicate count passed.last ++ rooms') MB_SUBTICKS before all) (departures_into rooms MB_SUBTICKS before all)
    (keeps-moved MB_SUBTICKS before by come passed.last at count rooms' comes le le' le'' end)
    (keeps-into MB_SUBTICKS before before rooms (replicate count passed.last ++ rooms') all all (omega arith) (passed-most passed count rooms rooms' has count_is) (keeps-same all))

-- ---- runs that are kept
pub keeps-prefix : (zs xs ys : List ℕ) → Keeps 0 0 xs ys → Keeps 0 0 (zs ++ xs) (zs ++ ys)
keeps-prefix zs xs ys keeps = keeps-front 0 0 zs zs xs ys refl (keeps-same zs) keeps

pub run_bytes-end : (runs : List Run) (run : Run) → run_bytes (runs ++ run ∷ []) ≡ run_bytes runs ++ replicate run.count run.at
unfolding run_bytes
run_bytes-end [] run = append-nil (replicate run.count run.at)
run_bytes-end (other ∷ runs) run =
    ap (λ (l : List ℕ). replicate other.count other.at ++ l) (run_bytes-end runs run) ∙ sym (append_assoc (replicate other.count other.at) (run_bytes runs) (replicate run.count run.at))

-- two runs as one, as late as the later
pub runs-joined : (kept : List ℕ) (n m k a most top : ℕ) (rest : List ℕ) → top ≡ n + k → m ≤ most → a ≤ most
    → Keeps 0 0 ((kept ++ replicate top most) ++ rest) ((kept ++ replicate n m) ++ (replicate k a ++ rest))
runs-joined kept n m k a most top rest is le le' =
    subst (λ l. Keeps 0 0 l ((kept ++ replicate n m) ++ (replicate k a ++ rest))) (sym (append_assoc kept (replicate top most) rest))
    (subst (λ l. Keeps 0 0 (kept ++ (replicate top most ++ rest)) l) (sym (append_assoc kept (replicate n m) (replicate k a ++ rest)))
    (keeps-prefix kept (replicate top most ++ rest) (replicate n m ++ (replicate k a ++ rest))
    (keeps-run n k 0 m a most top k rest is (omega arith) le le')))

-- a run behind the others
pub runs-apart : (kept : List ℕ) (xs ys rest : List ℕ) → Keeps 0 0 ((((kept ++ xs) ++ ys)) ++ rest) ((kept ++ xs) ++ (ys ++ rest))
runs-apart kept xs ys rest =
    subst (λ l. Keeps 0 0 l ((kept ++ xs) ++ (ys ++ rest))) (sym (append_assoc (kept ++ xs) ys rest)) (keeps-same ((kept ++ xs) ++ (ys ++ rest)))

-- with what stands in front
pub runs-front : (front xs ys zs rest : List ℕ) → Keeps 0 0 (xs ++ rest) (ys ++ (zs ++ rest)) → Keeps 0 0 ((front ++ xs) ++ rest) ((front ++ ys) ++ (zs ++ rest))
runs-front front xs ys zs rest keeps =
    subst (λ l. Keeps 0 0 l ((front ++ ys) ++ (zs ++ rest))) (sym (append_assoc front xs rest))
    (subst (λ l. Keeps 0 0 (front ++ (xs ++ rest)) l) (sym (append_assoc front ys (zs ++ rest))) (keeps-prefix front (xs ++ rest) (ys ++ (zs ++ rest)) keeps))

pub run_bytes-none : (runs : List Run) → runs ≡ [] → run_bytes runs ++ replicate 0 0 ≡ []
unfolding run_bytes
run_bytes-none runs none = ap (λ (l : List Run). run_bytes l ++ []) none

pub run_bytes-first : (run : Run) (runs : List Run) (xs : List ℕ) → run_bytes (run ∷ runs) ++ xs ≡ replicate run.count run.at ++ (run_bytes runs ++ xs)
unfolding run_bytes
run_bytes-first run runs xs = append_assoc (replicate run.count run.at) (run_bytes runs) xs

-- the first of some runs is taken out
pub first-removed : (runs rest : List Run) (run : Run) → run ≡ slice_index_or runs 0 run → rest ≡ remove runs 0 → 0 < length runs → runs ≡ run ∷ rest
first-removed [] rest run value items some = absurd (omega arith)
first-removed (other ∷ runs) rest run value items some =
    ap (λ r. r ∷ runs) (sym value) ∙ ap (λ (l : List Run). run ∷ l) (sym items)

-- the last run, where it has a byte, behind no others
pub gives-last : (found : Option Run) (last : Run) (runs : List Run) (all : List ℕ) → runs ≡ [] → run_bytes runs ++ replicate last.count last.at ≡ all
    → IfSome found (λ run. (run ≡ last) × (0 < last.count)) → IfNone found (last.count ≡ 0) → GivesRun found all (run_bytes runs ++ replicate 0 0)
unfolding run_bytes
gives-last None last runs all none is some zero_is =
    (sym is ∙ ap (λ (l : List Run). run_bytes l ++ replicate last.count last.at) none ∙ ap (λ n. replicate n last.at) zero_is, run_bytes-none runs none)
gives-last (Some run) last runs all none is some zero_is =
    let last_is : replicate last.count last.at ≡ replicate run.count run.at = ap (λ (r : Run). replicate r.count r.at) (sym some.0) in (
      omega (arith, some.1, ap (λ (r : Run). r.count) some.0),
      sym is
          ∙ ap (λ (l : List Run). run_bytes l ++ replicate last.count last.at) none
          ∙ last_is
          ∙ sym (append-nil (replicate run.count run.at))
          ∙ ap (λ (l : List ℕ). replicate run.count run.at ++ l) (sym (run_bytes-none runs none)),
    )

-- none of what is left is passed: nothing is left
pub passed-nothing : (passed : Passed) (before after : List ℕ) → Passes 1 passed before after → passed.count ≡ 0 → before ≡ []
passed-nothing passed before after passes none =
    let has = passes.has in
    let taken_is : has.taken ≡ [] = nil_from_length has.taken (has.number ∙ none) in
    has.split ∙ ap (λ (l : List ℕ). l ++ after) taken_is ∙ passes.all (omega (arith, none))

-- ---- what leaves a multiplexing buffer
-- a packet with data
pub left-data : (packet : Arrival) (later : List Arrival) (total at : ℕ) (old new before after : List ℕ) → total ≡ wanted_count DataAlone packet + packet.header → 0 < wanted_count DataAlone packet
    → ((rest : List ℕ) → Keeps 0 0 (new ++ rest) (old ++ (replicate total at ++ rest)))
    → Keeps 0 0 (replicate (wanted_count DataAlone packet) at ++ after) before
    → Keeps 0 0 (new ++ with_headers (parts later) after) (old ++ with_headers (parts (packet ∷ later)) before)
left-data packet later total at old new before after is some pushed keeps =
    let rest = with_headers (parts later) after in
    keeps-through 0 0 (new ++ rest) (old ++ (replicate total at ++ rest)) (old ++ with_headers (parts (packet ∷ later)) before)
    (pushed rest)
    (keeps-prefix old (replicate total at ++ rest) (with_headers (parts (packet ∷ later)) before) (with_headers-first packet later total at before after is some keeps))

-- a packet without payload
pub left-none : (packet : Arrival) (later : List Arrival) (at : ℕ) (old before after : List ℕ) → wanted_count DataAlone packet ≡ 0 → packet.header ≡ 0
    → Keeps 0 0 (replicate (wanted_count DataAlone packet) at ++ after) before
    → Keeps 0 0 (old ++ with_headers (parts later) after) (old ++ with_headers (parts (packet ∷ later)) before)
left-none packet later at old before after none no_header keeps =
    let keeps' : Keeps 0 0 after before = subst (λ n. Keeps 0 0 (replicate n at ++ after) before) none keeps in
    subst (λ l. Keeps 0 0 (old ++ with_headers (parts later) after) (old ++ l)) (sym (with_headers-none packet later before (omega (arith, none)) (omega (arith, no_header))))
    (keeps-prefix old (with_headers (parts later) after) (with_headers (parts later) before) (keeps-headers (parts later) after before keeps'))

-- What is quiet and known one section, or one packet, further.
use Rattle.std.proofs.Common.{
  ◌≡◌,
  ◌≢◌,
  ℕ,
  zero,
  suc,
  ◌+◌,
  ◌-◌,
  ◌<◌,
  ◌≤◌,
  ◌==◌,
  ◌⊎◌,
  inl,
  inr,
  Bool,
  true,
  false,
  cond,
  List,
  [],
  ◌∷◌,
  ◌++◌,
  length,
  drop,
  map,
  filter,
  slice_get,
  Some,
  None,
  refl,
  sym,
  ap,
  ◌∙◌,
  subst,
  arith,
}
use Rattle.std.proofs.lemmas.Bool.Decides.{nat_tests}
use Rattle.std.specs.Prelude.{nat_le}
use Rattle.std.specs.List.{range_with_len}
use Rattle.ts_packets.specs.TransportStream.{Piece, is_of_pid, pid_pieces}
use Rattle.psi_tables.specs.Sections.{Found}
use Rattle.ts_demux.specs.Tables.{piece, IsBefore, IsSection, Stop, StopsAt, StopsFirst, sections_at, sections_in}
use Rattle.ts_demux.specs.TableWalk.{IsQuiet}

-- ---- places

-- one rank further
pub further : (m j n r : ℕ) → IsBefore m j n (r + 1) → IsBefore m j n r ⊎ ((m ≡ n) × (j ≡ r))
further m j n r (inl less) = inl (inl less)
further m j n r (inr (same, less)) = by_rank (j == r) refl
  where
    by_rank : (is : Bool) → (j == r) ≡ is → IsBefore m j n r ⊎ ((m ≡ n) × (j ≡ r))
    by_rank true is = inr (same, grind (arith, nat_tests))
    by_rank false is = inl (inr (same, grind (arith, nat_tests)))

-- the next packet
pub next_packet : (m j n r : ℕ) → IsBefore m j (n + 1) 0 → IsBefore m j n r ⊎ ((m ≡ n) × (r ≤ j))
next_packet m j n r (inr (same, less)) = absurd (omega arith)
next_packet m j n r (inl less) = by_packet (m == n) refl (suc j - r) refl
  where
    by_packet : (is : Bool) → (m == n) ≡ is → (left : ℕ) → suc j - r ≡ left → IsBefore m j n r ⊎ ((m ≡ n) × (r ≤ j))
    by_packet false is left left_is = let other : m ≢ n = grind (arith, nat_tests) in inl (inl (omega arith))
    by_packet true is zero left_is = let same : m ≡ n = grind (arith, nat_tests) in inl (inr (same, omega arith))
    by_packet true is (suc left) left_is = let same : m ≡ n = grind (arith, nat_tests) in inr (same, omega arith)

-- of two places one is before the other, or they are the same
pub ordered : (m j n k : ℕ) → IsBefore m j n k ⊎ (((m ≡ n) × (j ≡ k)) ⊎ IsBefore n k m j)
ordered m j n k = by_packet (suc m - n) refl (suc n - m) refl (suc j - k) refl (suc k - j) refl
  where
    by_packet : (a : ℕ) → suc m - n ≡ a → (b : ℕ) → suc n - m ≡ b → (c : ℕ) → suc j - k ≡ c → (d : ℕ) → suc k - j ≡ d → IsBefore m j n k ⊎ (((m ≡ n) × (j ≡ k)) ⊎ IsBefore n k m j)
    by_packet zero a b b_is c c_is d d_is = inl (inl (omega arith))
    by_packet (suc a) a_is zero b_is c c_is d d_is = inr (inr (inl (omega arith)))
    by_packet (suc a) a_is (suc b) b_is zero c_is d d_is = inl (inr (omega arith, omega arith))
    by_packet (suc a) a_is (suc b) b_is (suc c) c_is zero d_is = inr (inr (inr (omega arith, omega arith)))
    by_packet (suc a) a_is (suc b) b_is (suc c) c_is (suc d) d_is = inr (inl (omega arith, omega arith))

-- ranks of sections
pub rank_before : (m j n k : ℕ) → IsBefore m (j + 1) n (k + 1) → IsBefore m j n k
rank_before m j n k (inl less) = inl less
rank_before m j n k (inr (same, less)) = inr (same, omega arith)

pub before_rank : (m j n k : ℕ) → IsBefore m j n k → IsBefore m (j + 1) n (k + 1)
before_rank m j n k (inl less) = inl less
before_rank m j n k (inr (same, less)) = inr (same, omega arith)

pub later : (m j n r s : ℕ) → r ≤ s → IsBefore m j n r → IsBefore m j n s
later m j n r s less (inl before) = inl before
later m j n r s less (inr (same, before)) = inr (same, omega arith)

pub next_later : (m j n r : ℕ) → IsBefore m j n r → IsBefore m j (n + 1) 0
next_later m j n r (inl before) = inl (omega arith)
next_later m j n r (inr (same, before)) = inl (omega arith)

pub behind_before : (m j n r : ℕ) → IsBefore m j n r → m ≤ n
behind_before m j n r (inl before) = omega arith
behind_before m j n r (inr (same, before)) = omega arith

-- ---- pieces of a PID

range_more : (from n : ℕ) → range_with_len from (n + 1) ≡ range_with_len from n ++ (from + n) ∷ []
range_more from zero = ap (λ (k : ℕ). k ∷ []) (omega arith)
range_more from (suc n) = ap (range_with_len from) (more n) ∙ ap (λ (ks : List ℕ). from ∷ ks) (range_more (from + 1) n ∙ ap (λ (k : ℕ). range_with_len (from + 1) n ++ k ∷ []) (omega arith))
  where
    more : (n : ℕ) → suc n + 1 ≡ suc (n + 1)
    more n = omega arith

filter_last : (f : ℕ → Bool) (xs : List ℕ) (x : ℕ) → filter f (xs ++ x ∷ []) ≡ filter f xs ++ cond (f x) (x ∷ []) []
filter_last f [] x = by_test (f x)
  where
    by_test : (is : Bool) → cond is (x ∷ []) [] ≡ cond is (x ∷ []) []
    by_test is = refl
filter_last f (y ∷ xs) x = by_test (f y) (filter_last f xs x)
  where
    by_test : (is : Bool) → filter f (xs ++ x ∷ []) ≡ filter f xs ++ cond (f x) (x ∷ []) [] →
        cond is (y ∷ filter f (xs ++ x ∷ [])) (filter f (xs ++ x ∷ [])) ≡ cond is (y ∷ filter f xs) (filter f xs) ++ cond (f x) (x ∷ []) []
    by_test true same = ap (λ (ys : List ℕ). y ∷ ys) same
    by_test false same = same

map_last : (f : ℕ → Piece) (xs ys : List ℕ) → map f (xs ++ ys) ≡ map f xs ++ map f ys
map_last f [] ys = refl
map_last f (x ∷ xs) ys = ap (λ (zs : List Piece). f x ∷ zs) (map_last f xs ys)

pieces_behind : (file : List ℕ) (pid from n : ℕ) (is : Bool) → from ≤ n → is_of_pid file pid n ≡ is → pid_pieces file pid from (n + 1) ≡ pid_pieces file pid from n ++ cond is (piece file n ∷ []) []
pieces_behind file pid from n is behind of_pid =
    let count : n + 1 - from ≡ (n - from) + 1 = omega arith in
    let last : from + (n - from) ≡ n = omega arith in
    ap (λ (k : ℕ). map (piece file) (filter (is_of_pid file pid) (range_with_len from k))) count
    ∙ ap (λ (ks : List ℕ). map (piece file) (filter (is_of_pid file pid) ks)) (range_more from (n - from) ∙ ap (λ (k : ℕ). range_with_len from (n - from) ++ k ∷ []) last)
    ∙ ap (map (piece file)) (filter_last (is_of_pid file pid) (range_with_len from (n - from)) n
    ∙ ap (λ (b : Bool). filter (is_of_pid file pid) (range_with_len from (n - from)) ++ cond b (n ∷ []) []) of_pid)
    ∙ map_last (piece file) (filter (is_of_pid file pid) (range_with_len from (n - from))) (cond is (n ∷ []) [])
    ∙ ap (λ (ps : List Piece). pid_pieces file pid from n ++ ps) (by_test is)
  where
    by_test : (is : Bool) → map (piece file) (cond is (n ∷ []) []) ≡ cond is (piece file n ∷ []) []
    by_test true = refl
    by_test false = refl

nil_last : (xs : List Piece) → xs ++ [] ≡ xs
nil_last [] = refl
nil_last (x ∷ xs) = ap (λ (ys : List Piece). x ∷ ys) (nil_last xs)

-- one of the PID is added, another isn't
pub pieces_more : (file : List ℕ) (pid from n : ℕ) → from ≤ n → is_of_pid file pid n ≡ true → pid_pieces file pid from (n + 1) ≡ pid_pieces file pid from n ++ piece file n ∷ []
pieces_more file pid from n behind of_pid = pieces_behind file pid from n true behind of_pid

pub pieces_same : (file : List ℕ) (pid from n : ℕ) → from ≤ n → is_of_pid file pid n ≡ false → pid_pieces file pid from (n + 1) ≡ pid_pieces file pid from n
pieces_same file pid from n behind of_pid = pieces_behind file pid from n false behind of_pid ∙ nil_last (pid_pieces file pid from n)

pub pieces_none : (file : List ℕ) (pid n : ℕ) → pid_pieces file pid n n ≡ []
pieces_none file pid n = let none : n - n ≡ 0 = omega arith in ap (λ (k : ℕ). map (piece file) (filter (is_of_pid file pid) (range_with_len n k))) none

-- ---- a packet is of one PID

pub of_one : (file : List ℕ) (pid other n : ℕ) → is_of_pid file pid n ≡ true → is_of_pid file other n ≡ true → pid ≡ other
of_one file pid other n is other_is = grind (arith, nat_tests)

pub of_no_other : (file : List ℕ) (pid other n : ℕ) → is_of_pid file pid n ≡ true → pid ≢ other → is_of_pid file other n ≡ false
of_no_other file pid other n is other_is = grind (arith, nat_tests)

-- ---- sections of a packet

drop_all : {A : Type 0} (xs : List A) → drop (length xs) xs ≡ []
drop_all [] = refl
drop_all (x ∷ xs) = drop_all xs

pieces_early : (file : List ℕ) (pid from n : ℕ) → n < from → pid_pieces file pid from (n + 1) ≡ pid_pieces file pid from n
pieces_early file pid from n early =
    let none : n + 1 - from ≡ 0 = omega arith in
    let none_before : n - from ≡ 0 = omega arith in
    ap (λ (k : ℕ). map (piece file) (filter (is_of_pid file pid) (range_with_len from k))) (none ∙ sym none_before)

pub pieces_other : (file : List ℕ) (pid from n : ℕ) → is_of_pid file pid n ≡ false → pid_pieces file pid from (n + 1) ≡ pid_pieces file pid from n
pieces_other file pid from n of_pid = by_place (nat_le from n) refl
  where
    by_place : (is : Bool) → nat_le from n ≡ is → pid_pieces file pid from (n + 1) ≡ pid_pieces file pid from n
    by_place true is = let behind : from ≤ n = grind (arith, nat_tests) in pieces_same file pid from n behind of_pid
    by_place false is = let early : n < from = grind (arith, nat_tests) in pieces_early file pid from n early

-- a packet of another PID completes none
pub none_there : (file : List ℕ) (pid from n k : ℕ) (found : Found) → is_of_pid file pid n ≡ false → IsSection file pid from n k found → ⊥
none_there file pid from n k found of_pid is =
    let none : sections_at file pid from n ≡ [] = ap (λ (ps : List Piece). drop (length (sections_in (pid_pieces file pid from n))) (sections_in ps))
    (pieces_other file pid from n of_pid) ∙ drop_all (sections_in (pid_pieces file pid from n)) in
    let stands : slice_get (sections_at file pid from n) k ≡ Some found = is.stands in
    let empty : None ≡ Some found = subst (λ (xs : List Found). slice_get xs k ≡ Some found) none stands in
    absurd cc

pub same_section : (file : List ℕ) (pid from n k : ℕ) (a b : Found) → IsSection file pid from n k a → IsSection file pid from n k b → a ≡ b
same_section file pid from n k a b is other = let e : Some a ≡ Some b = sym is.stands ∙ other.stands in cc

-- the first one that waits is the next one
pub next_there : (xs : List Found) (k : ℕ) (found : Found) (rest : List Found) → drop k xs ≡ found ∷ rest → (slice_get xs k ≡ Some found) × (drop (k + 1) xs ≡ rest)
next_there [] zero found rest is = absurd cc
next_there [] (suc k) found rest is = absurd cc
next_there (x ∷ xs) zero found rest is = (cc, cc)
next_there (x ∷ xs) (suc k) found rest is = ((next_there xs k found rest is).0, ap (λ (n : ℕ). drop n (x ∷ xs)) (more k) ∙ (next_there xs k found rest is).1)
  where
    more : (n : ℕ) → suc n + 1 ≡ suc (n + 1)
    more n = omega arith

-- none is behind the last one
pub none_behind : (xs : List Found) (done k : ℕ) (found : Found) → drop done xs ≡ [] → done ≤ k → slice_get xs k ≡ Some found → ⊥
none_behind [] done k found end less is = absurd cc
none_behind (x ∷ xs) zero k found end less is = absurd cc
none_behind (x ∷ xs) (suc done) zero found end less is = absurd (omega arith)
none_behind (x ∷ xs) (suc done) (suc k) found end less is = none_behind xs done k found end (omega arith) is

-- ---- what ends the reading

pub stops : (file : List ℕ) (program n r : ℕ) (stop : Stop) → IsQuiet file program n r → StopsAt file program n r stop → StopsFirst file program stop
stops file program n r stop quiet is = record { packet = n; rank = r; stops = is; first = quiet }

pub quiet_further : (file : List ℕ) (program n r : ℕ) → IsQuiet file program n r → ((stop : Stop) → StopsAt file program n r stop → ⊥) → IsQuiet file program n (r + 1)
quiet_further file program n r quiet none m j stop before is =
    elim (further m j n r before) [
      | inl less ↦ quiet m j stop less is
      | inr same ↦ none stop (subst (λ (k : ℕ). StopsAt file program n k stop) same.1 (subst (λ (k : ℕ). StopsAt file program k j stop) same.0 is))
    ]

pub quiet_next : (file : List ℕ) (program n r : ℕ) → IsQuiet file program n r → ((j : ℕ) (stop : Stop) → r ≤ j → StopsAt file program n j stop → ⊥) → IsQuiet file program (n + 1) 0
quiet_next file program n r quiet none m j stop before is =
    elim (next_packet m j n r before) [
      | inl less ↦ quiet m j stop less is
      | inr same ↦ none j stop same.1 (subst (λ (k : ℕ). StopsAt file program k j stop) same.0 is)
    ]

-- The bytes of a tree's nodes in a certificate: of one with a branch more, of nodes in order, and of how many there can be.
use Rattle.std.proofs.Common.{◌≡◌, ◌≢◌, ℕ, zero, suc, ◌+◌, ◌*◌, ◌<◌, ◌≤◌, ◌==◌, ◌⊎◌, inl, inr, cond, Bool, true, false, List, [], ◌∷◌, ◌++◌, length, map, set, Option, refl, sym, ap, subst, ◌∙◌, arith}
use Rattle.std.specs.List.{flat_map, sum_by}
use Rattle.std.specs.Int.{w32, to_be_bytes}
use Rattle.std.proofs.Math.Nat.{add-mul, mul-add, mul-le-mul_left, mul-le-mul_right, mul_assoc, mul_comm, suc-mul}
use Rattle.std.proofs.lemmas.Bool.{cases_eq, cases_lt}
use Rattle.std.proofs.lemmas.List.{length-append}
use Rattle.std.proofs.lemmas.Nat.{mul-le}
use Rattle.std.proofs.lemmas.List.Concat.{length-flat_map}
use Rattle.std.proofs.lemmas.List.Folds.{length-flat_map-take}
use Rattle.std.proofs.lemmas.List.Sums.{sum_by-append, sum_by-cons, sum_by-set}
use Rattle.arrayvec.specs.ArrayVec.{ArrayVec}
use Rattle.version_table.specs.declared.limits.TheConstants.{NODES_MOST, VERSIONS_MOST}
use Rattle.version_table.specs.declared.table.Table.{Table}
use Rattle.version_table.specs.Table.{IsValidTable, units_of}
use Rattle.dual_bounds.specs.declared.constants.TheConstants.{WINDOWS_MOST}
use Rattle.dual_bounds.specs.declared.windows.Multiplier.{Multiplier}
use Rattle.dual_bounds.specs.declared.windows.Window.{Window as PricedWindow}
use Rattle.buffer_windows.specs.declared.constants.TheConstants.{BUFFER_WINDOWS_MOST}
use Rattle.buffer_windows.specs.declared.windows.BufferWindow.{BufferWindow as SeeingWindow}
use Rattle.bound_certificate.specs.declared.limits.TheConstants.{CERT_BYTES_MOST}
use Rattle.bound_certificate.specs.declared.cert.Cert.{Cert}
use Rattle.bound_certificate.specs.declared.cert.Node.{Node}
use Rattle.bound_certificate.specs.declared.cert.Node.TheVariants.{Branch, Dual, Run, Open, Window, BufferWindow}
use Rattle.bound_certificate.specs.Spelling.{bytes_of_buffer_window, bytes_of_multiplier, bytes_of_node, bytes_of_window, cert_spelling}
use Rattle.branch_plan.specs.declared.limits.TheConstants.{BRANCH_BYTES, HEAD_BYTES, NODE_BYTES_MOST, SHARED_BYTES_MOST, WINDOWS_IN_ALL}
use Rattle.branch_plan.specs.declared.branching.Growth.{Growth}
use Rattle.branch_plan.specs.declared.values.Values.{Values}
use Rattle.branch_plan.specs.Tree.{AreEnough}
use Rattle.branch_plan.specs.Private.Branching.{IsFull, IsLeafMost, tree_bytes}
use Rattle.branch_plan.specs.Private.Forest.{Follows, times_among}
use Rattle.branch_plan.specs.Private.Found.{AreShared}
use Rattle.branch_plan.specs.Private.Growth.{node_of}
use Rattle.branch_plan.specs.Private.Leaves.{MayStand}
use Rattle.branch_plan.specs.Private.Valued.{IsValuedBy}
use Rattle.branch_plan.proofs.Opens.{other_none, self_one}

-- ---- one node
multipliers_bytes : (multipliers : List Multiplier) → length (flat_map bytes_of_multiplier multipliers) ≡ 16 * length multipliers
multipliers_bytes [] = refl
multipliers_bytes (multiplier ∷ multipliers) =
    length-append (bytes_of_multiplier multiplier) (flat_map bytes_of_multiplier multipliers) ∙ omega (arith, one multiplier, multipliers_bytes multipliers)
  where
    one : (multiplier : Multiplier) → length (bytes_of_multiplier multiplier) ≡ 16
    one multiplier = refl

window_bytes : (window : PricedWindow) → length (bytes_of_window window) ≡ 24
window_bytes window = refl

windows_bytes : (windows : List PricedWindow) → length (flat_map bytes_of_window windows) ≡ 24 * length windows
windows_bytes [] = refl
windows_bytes (window ∷ windows) =
    length-append (bytes_of_window window) (flat_map bytes_of_window windows) ∙ omega (arith, window_bytes window, windows_bytes windows)

one_buffer_window : (window : SeeingWindow) → length (bytes_of_buffer_window window) ≡ 25
one_buffer_window window = refl

buffer_windows_bytes : (windows : List SeeingWindow) → length (flat_map bytes_of_buffer_window windows) ≡ 25 * length windows
buffer_windows_bytes [] = refl
buffer_windows_bytes (window ∷ windows) =
    length-append (bytes_of_buffer_window window) (flat_map bytes_of_buffer_window windows) ∙ omega (arith, one_buffer_window window, buffer_windows_bytes windows)

three_more : (n m : ℕ) → n ≡ m → suc (suc (suc n)) ≡ 3 + m
three_more n m same = omega (arith, same)

pub dual_bytes : (priced : ArrayVec Multiplier) → length (bytes_of_node (Dual priced)) ≡ 3 + 16 * length priced.items
unfolding bytes_of_node
dual_bytes priced = three_more (length (flat_map bytes_of_multiplier priced.items)) (16 * length priced.items) (multipliers_bytes priced.items)

pub time_bytes : (priced : ArrayVec PricedWindow) → length (bytes_of_node (Window priced)) ≡ 3 + 24 * length priced.items
unfolding bytes_of_node
time_bytes priced = three_more (length (flat_map bytes_of_window priced.items)) (24 * length priced.items) (windows_bytes priced.items)

pub seeing_bytes : (windows : List SeeingWindow) → length (bytes_of_node (BufferWindow windows)) ≡ 3 + 25 * length windows
unfolding bytes_of_node
seeing_bytes windows = three_more (length (flat_map bytes_of_buffer_window windows)) (25 * length windows) (buffer_windows_bytes windows)

pub branch_bytes : (unit : ℕ) → length (bytes_of_node (Branch unit)) ≡ BRANCH_BYTES
unfolding bytes_of_node
branch_bytes unit = refl

pub run_bytes : (scheduled : Bool) → length (bytes_of_node (Run scheduled)) ≡ 2
unfolding bytes_of_node
run_bytes true = refl
run_bytes false = refl

pub open_bytes : length (bytes_of_node Open) ≡ 1
unfolding bytes_of_node
open_bytes = refl

-- ---- a leaf, at most
pub leaf_most_seen : (n : ℕ) (seeing : List SeeingWindow) → n ≡ length seeing → n ≤ BUFFER_WINDOWS_MOST → WINDOWS_MOST < n → IsLeafMost seeing (3 + 25 * n)
leaf_most_seen n seeing is limit more = record { seen = omega (arith, is); time = omega (arith, more); limit = omega (arith, limit) }

pub leaf_most_time : (n : ℕ) (seeing : List SeeingWindow) → n ≡ length seeing → n ≤ WINDOWS_MOST → IsLeafMost seeing (3 + 25 * WINDOWS_MOST)
leaf_most_time n seeing is less = record { seen = omega (arith, is, less); time = omega arith; limit = omega arith }

-- a node of a search is within the bytes of a leaf
pub node_within : (table : Table) (most leaf_most : ℕ) (seeing : List SeeingWindow) (fixed : List (Option ℕ)) (node : Node) (values : Values) → IsLeafMost seeing leaf_most
    → MayStand table most node → IsValuedBy table seeing fixed node values → length (bytes_of_node node) ≤ leaf_most
node_within table most leaf_most seeing fixed (Branch unit) values is may valued = omega (arith, branch_bytes unit, is.time)
node_within table most leaf_most seeing fixed (Dual priced) values is may valued = absurd (omega (arith, may.version))
node_within table most leaf_most seeing fixed (Run scheduled) values is may valued = omega (arith, run_bytes scheduled, is.time)
node_within table most leaf_most seeing fixed Open values is may valued = omega (arith, open_bytes, is.time)
node_within table most leaf_most seeing fixed (Window priced) values is may valued = omega (arith, time_bytes priced, may.windows, is.time)
node_within table most leaf_most seeing fixed (BufferWindow priced) values is may valued = omega (arith, seeing_bytes priced, ap length valued.0, is.seen)

-- ---- a node, where windows are shared out
windows_shared : (most n bytes : ℕ) → most ≤ NODES_MOST → most * n ≤ WINDOWS_IN_ALL → bytes ≤ 3 + 25 * n → most * bytes ≤ SHARED_BYTES_MOST
windows_shared most n bytes few all within =
    let split : most * (3 + 25 * n) ≡ most * 3 + most * (25 * n) = mul-add most 3 (25 * n) in
    let inner : most * (25 * n) ≡ (most * n) * 25 = ap (λ m. most * m) (mul_comm 25 n) ∙ sym (mul_assoc most n 25) in
    omega (arith, mul-le-mul_left most within, split, inner, few, all)

small_shared : (most bytes : ℕ) → most ≤ NODES_MOST → bytes ≤ 5 → most * bytes ≤ SHARED_BYTES_MOST
small_shared most bytes few small = omega (arith, mul-le most bytes 1048576 5 few small)

-- so many nodes of these bytes are within what windows are shared out of
pub node_shared : (table : Table) (most : ℕ) (seeing : List SeeingWindow) (fixed : List (Option ℕ)) (node : Node) (values : Values) → most ≤ NODES_MOST → AreEnough table most
    → AreShared table most (length seeing) → MayStand table most node → IsValuedBy table seeing fixed node values → most * length (bytes_of_node node) ≤ SHARED_BYTES_MOST
node_shared table most seeing fixed (Branch unit) values few enough shared may valued = small_shared most _ few (omega (arith, branch_bytes unit))
node_shared table most seeing fixed (Dual priced) values few enough shared may valued = absurd (omega (arith, may.version))
node_shared table most seeing fixed (Run scheduled) values few enough shared may valued = small_shared most _ few (omega (arith, run_bytes scheduled))
node_shared table most seeing fixed Open values few enough shared may valued = small_shared most _ few (omega (arith, open_bytes))
node_shared table most seeing fixed (Window priced) values few enough shared may valued =
    windows_shared most (length priced.items) _ few (may.few enough) (omega (arith, time_bytes priced))
node_shared table most seeing fixed (BufferWindow priced) values few enough shared may valued =
    windows_shared most (length seeing) _ few (shared enough) (omega (arith, seeing_bytes priced, ap length valued.0))

-- ---- nodes together
abbrev size_of : Node → ℕ
size_of node = length (bytes_of_node node)

bytes_summed : (nodes : List Node) → tree_bytes nodes ≡ sum_by size_of nodes
bytes_summed nodes = length-flat_map bytes_of_node nodes

pub one_within : (nodes : List Node) (i : ℕ) → i < length nodes → length (bytes_of_node (node_of nodes i)) ≤ tree_bytes nodes
one_within nodes i within = omega (arith, length-flat_map-take bytes_of_node nodes i Open within)

pub bytes_at_most : (leaf_most : ℕ) (nodes : List Node) → ((j : ℕ) → j < length nodes → length (bytes_of_node (node_of nodes j)) ≤ leaf_most)
    → tree_bytes nodes ≤ length nodes * leaf_most
bytes_at_most leaf_most [] each = omega arith
bytes_at_most leaf_most (node ∷ nodes) each =
    omega (
      arith,
      length-append (bytes_of_node node) (flat_map bytes_of_node nodes),
      each 0 (omega arith),
      bytes_at_most leaf_most nodes (λ j low. each (suc j) (omega (arith, low))),
      suc-mul (length nodes) leaf_most,
    )

-- a leaf made a branch, and its children behind all
pub bytes_branched : (nodes made : List Node) (i unit : ℕ) → i < length nodes
    → tree_bytes (set nodes i (Branch unit) ++ made) + length (bytes_of_node (node_of nodes i)) ≡ tree_bytes nodes + BRANCH_BYTES + tree_bytes made
bytes_branched nodes made i unit within =
    let more = set nodes i (Branch unit) in
    omega (
      arith,
      bytes_summed (more ++ made),
      sum_by-append size_of more made,
      sum_by-set size_of nodes i (Branch unit) Open within,
      bytes_summed nodes,
      bytes_summed made,
      branch_bytes unit,
    )

-- ---- nodes in order
-- the sum of a number for each one below another
abbrev sum_to : (ℕ → ℕ) → ℕ → ℕ
sum_to f zero = 0
sum_to f (suc n) = f n + sum_to f n

same_sum : (f g : ℕ → ℕ) (n : ℕ) → ((j : ℕ) → j < n → f j ≡ g j) → sum_to f n ≡ sum_to g n
same_sum f g zero same = refl
same_sum f g (suc n) same = omega (arith, same n (omega arith), same_sum f g n (λ j low. same j (omega (arith, low))))

none_summed : (f : ℕ → ℕ) (n : ℕ) → sum_to (λ j. 0 * f j) n ≡ 0
none_summed f zero = refl
none_summed f (suc n) = omega (arith, none_summed f n)

-- one time more of a number that isn't below adds nothing; of one that is it adds that number's
past_summed : (f times : ℕ → ℕ) (x n : ℕ) → n ≤ x → sum_to (λ j. (cond (x == j) 1 0 + times j) * f j) n ≡ sum_to (λ j. times j * f j) n
past_summed f times x n past =
    same_sum (λ j. (cond (x == j) 1 0 + times j) * f j) (λ j. times j * f j) n
    (λ j low. ap (λ (one : ℕ). (one + times j) * f j) (other_none x j (λ same. omega (arith, past, low, same))) ∙ ap (λ (t : ℕ). t * f j) (none_more (times j)))
  where
    none_more : (t : ℕ) → 0 + t ≡ t
    none_more t = omega arith

one_summed : (f times : ℕ → ℕ) (x n : ℕ) → x < n → sum_to (λ j. (cond (x == j) 1 0 + times j) * f j) n ≡ f x + sum_to (λ j. times j * f j) n
one_summed f times x zero within = absurd (omega (arith, within))
one_summed f times x (suc n) within = elim (cases_eq x n)
    as (λ _. sum_to (λ j. (cond (x == j) 1 0 + times j) * f j) (suc n) ≡ f x + sum_to (λ j. times j * f j) (suc n)) [
      | inl same ↦ omega (
        arith,
        ap (λ (one : ℕ). (one + times n) * f n) (self_one x n same),
        add-mul 1 (times n) (f n),
        ap f same,
        past_summed f times x n (omega (arith, same)),
      )
      | inr differs ↦ omega (
        arith,
        ap (λ (one : ℕ). (one + times n) * f n) (other_none x n differs),
        add-mul 0 (times n) (f n),
        one_summed f times x n (below differs),
      )
    ]
  where
    below : x ≢ n → x < n
    below differs = elim (cases_eq x n) as (λ _. x < n) [
      | inl same ↦ absurd (differs same)
      | inr other ↦ omega (arith, within, other)
    ]

times_summed : (f next : ℕ → ℕ) (n at : ℕ) (ids : List ℕ) → Follows next n at ids → sum_by f ids ≡ sum_to (λ j. times_among j ids * f j) n
times_summed f next n at [] follows = sym (none_summed f n)
times_summed f next n at (x ∷ ids) follows =
    sum_by-cons f x ids ∙ ap (λ (rest : ℕ). f x + rest) (times_summed f next n (next x) ids follows.2)
    ∙ sym (one_summed f (λ j. times_among j ids) x n follows.1)

first_summed : (f : ℕ → ℕ) (n : ℕ) → sum_to f (suc n) ≡ f 0 + sum_to (λ j. f (suc j)) n
first_summed f zero = omega arith
first_summed f (suc n) = omega (arith, first_summed f n)

by_number : (nodes : List Node) → sum_by size_of nodes ≡ sum_to (λ j. size_of (node_of nodes j)) (length nodes)
by_number [] = refl
by_number (node ∷ nodes) =
    sum_by-cons size_of node nodes ∙ ap (λ (rest : ℕ). size_of node + rest) (by_number nodes)
    ∙ sym (first_summed (λ j. size_of (node_of (node ∷ nodes) j)) (length nodes))

mapped : (nodes : List Node) (ids : List ℕ) → sum_by size_of (map (node_of nodes) ids) ≡ sum_by (λ j. size_of (node_of nodes j)) ids
mapped nodes [] = refl
mapped nodes (x ∷ ids) =
    sum_by-cons size_of (node_of nodes x) (map (node_of nodes) ids) ∙ ap (λ (rest : ℕ). size_of (node_of nodes x) + rest) (mapped nodes ids)
    ∙ sym (sum_by-cons (λ j. size_of (node_of nodes j)) x ids)

-- where each number stands once, nodes have as many bytes in order
pub ordered_bytes : (nodes : List Node) (next : ℕ → ℕ) (at : ℕ) (ids : List ℕ) → Follows next (length nodes) at ids → ((j : ℕ) → j < length nodes → times_among j ids ≡ 1)
    → tree_bytes (map (node_of nodes) ids) ≡ tree_bytes nodes
ordered_bytes nodes next at ids follows once =
    let f : ℕ → ℕ = λ j. size_of (node_of nodes j) in
    bytes_summed (map (node_of nodes) ids) ∙ mapped nodes ids ∙ times_summed f next (length nodes) at ids follows
    ∙ same_sum (λ j. times_among j ids * f j) f (length nodes) (λ j low. ap (λ (t : ℕ). t * f j) (once j low) ∙ omega arith)
    ∙ sym (by_number nodes) ∙ sym (bytes_summed nodes)

-- ---- a certificate
pub spelled_bytes : (cert : Cert) → length (cert_spelling cert) ≡ HEAD_BYTES + length cert.choice + tree_bytes cert.nodes
unfolding cert_spelling
spelled_bytes cert =
    let rest : List ℕ = to_be_bytes w32 (length cert.nodes) ++ flat_map bytes_of_node cert.nodes in
    omega (arith, length-append cert.choice rest)

-- one that may have no room for a branch more has all bytes but few
pub full_cert : (table : Table) (versions : ℕ) (growth : Growth) (cert : Cert) → IsFull table growth versions → length cert.choice ≡ length (units_of table)
    → tree_bytes cert.nodes ≡ growth.bytes → CERT_BYTES_MOST < length (cert_spelling cert) + BRANCH_BYTES + versions * NODE_BYTES_MOST
full_cert table versions growth cert full choice bytes =
    omega (arith, spelled_bytes cert, choice, bytes, full.2, mul-le-mul_left versions full.1.limit)

-- ---- where the nodes have room for the whole tree
-- nodes that each have so many bytes at most, times a number, have as many together, times their own
shares_summed : (most share : ℕ) (nodes : List Node) → ((j : ℕ) → j < length nodes → most * length (bytes_of_node (node_of nodes j)) ≤ share)
    → most * tree_bytes nodes ≤ length nodes * share
shares_summed most share [] each = omega arith
shares_summed most share (node ∷ nodes) each =
    let bytes : tree_bytes (node ∷ nodes) ≡ length (bytes_of_node node) + tree_bytes nodes = length-append (bytes_of_node node) (flat_map bytes_of_node nodes) in
    omega (
      arith,
      ap (λ n. most * n) bytes,
      mul-add most (length (bytes_of_node node)) (tree_bytes nodes),
      each 0 (omega arith),
      shares_summed most share nodes (λ j low. each (suc j) (omega (arith, low))),
      suc-mul (length nodes) share,
    )

-- nodes that are no more than that number are within one share
pub within_share : (most share : ℕ) (nodes : List Node) → 1 ≤ most → length nodes ≤ most
    → ((j : ℕ) → j < length nodes → most * length (bytes_of_node (node_of nodes j)) ≤ share) → tree_bytes nodes ≤ share
within_share most share nodes some few each = elim (cases_lt share (tree_bytes nodes)) as (λ _. tree_bytes nodes ≤ share) [
  | inl more ↦ absurd (past (omega (arith, more)))
  | inr less ↦ less
]
  where
    past : share + 1 ≤ tree_bytes nodes → ⊥
    past more =
        omega (arith, some, mul-le-mul_left most more, mul-add most share 1, shares_summed most share nodes each, mul-le-mul_right share few)

pub never_full : (table : Table) (most versions : ℕ) (growth : Growth) → IsValidTable table → 1 ≤ most → growth.bytes ≡ tree_bytes growth.arena.nodes.items
    → ((j : ℕ) → j < length growth.arena.nodes.items → most * length (bytes_of_node (node_of growth.arena.nodes.items j)) ≤ SHARED_BYTES_MOST)
    → length growth.arena.nodes.items ≤ most → versions ≤ VERSIONS_MOST → IsFull table growth versions → ⊥
never_full table most versions growth valid some bytes each few small full =
    let within = within_share most SHARED_BYTES_MOST growth.arena.nodes.items some few each in
    omega (arith, bytes, within, valid.units, full.2, mul-le versions full.0 8 102403 small full.1.limit)

-- Where a certificate is refused, part by part, and that each part can be gone on with.
use Rattle.std.proofs.Common.{◌≡◌, ℕ, ◌^◌, ◌<◌, ◌≤◌, List, [], ◌∷◌, ◌++◌, length, replicate, slice_index, refl, sym, subst, ◌∙◌, arith, lit<, append_assoc}
use Rattle.std.specs.List.{AllByRecursion}
use Rattle.std.specs.Int.{w32, to_be_bytes, from_be_bytes}
use Rattle.std.proofs.lemmas.Nat.{from_be_bytes-to_be_bytes_4}
use Rattle.bit_lists.specs.Fields.{AreBytes}
use Rattle.bound_certificate.specs.declared.fault.Stop.{Stop}
use Rattle.version_table.specs.declared.limits.TheConstants.{NODES_MOST}
use Rattle.bound_certificate.specs.declared.cert.Cert.{Cert}
use Rattle.bound_certificate.specs.Cert.{IsCert, NodeMayStand}
use Rattle.bound_certificate.specs.Spelling.{mark}
use Rattle.bound_certificate.specs.Private.Texts.{IsBlock, IsByte, IsMark, IsChoice, IsNodeCount, IsNode, AreTexts, IsTree, IsText, IsStop}
use Rattle.bound_certificate.proofs.Refusals.{stop_first, stop_next, stop_next_bytes, are_bytes_behind, are_bytes_front}
use Rattle.bound_certificate.proofs.Parts.{ends_block, ends_mark, ends_choice, ends_node_count, some_block, some_byte, some_nodes}
use Rattle.bound_certificate.proofs.Heads.{stop_byte}
use Rattle.bound_certificate.proofs.Numbers.{node_count_text}
use Rattle.bound_certificate.proofs.Whole.{AfterMark, AfterVersion, AfterNumbers, mark_text, choice_text, one_to_three}

-- ---- that there are some

choice_goes_on : (count : List ℕ) → IsBlock 4 count → (x : List ℕ) × IsBlock (from_be_bytes w32 count) x
choice_goes_on count is = (replicate (from_be_bytes w32 count) 0, some_block (from_be_bytes w32 count))

some_choice : (x : List ℕ) × IsChoice x
some_choice =
    let count : List ℕ = replicate 4 0 in
    let rest = choice_goes_on count (some_block 4) in
    (count ++ rest.0, record { front = count; behind = rest.0; joined = refl; first_is = some_block 4; second_is = rest.1 })

tree_goes_on : (version : ℕ) (count : List ℕ) → IsNodeCount count → (x : List ℕ) × AreTexts (from_be_bytes w32 count) (IsNode version) x
tree_goes_on version count is = some_nodes (from_be_bytes w32 count) version

some_tree : (version : ℕ) → (x : List ℕ) × IsTree version x
some_tree version =
    let count : List ℕ = to_be_bytes w32 1 in
    let is = node_count_text 1 (omega arith) (omega arith) in
    let rest = tree_goes_on version count is in
    (count ++ rest.0, record { front = count; behind = rest.0; joined = refl; first_is = is; second_is = rest.1 })

some_after_numbers : (version : List ℕ) → (x : List ℕ) × AfterNumbers version x
some_after_numbers version =
    let choice = some_choice in
    let tree = some_tree (slice_index version 0) in
    (choice.0 ++ tree.0, record { front = choice.0; behind = tree.0; joined = refl; first_is = choice.1; second_is = tree.1 })

some_after_version : (version : List ℕ) → (x : List ℕ) × AfterVersion version x
some_after_version version =
    let rest = some_after_numbers version in
    (replicate 16 0 ++ rest.0, record { front = replicate 16 0; behind = rest.0; joined = refl; first_is = some_block 16; second_is = rest.1 })

some_after_mark : (x : List ℕ) × AfterMark x
some_after_mark =
    let version = some_byte 1 3 (omega arith) (lit< tt) in
    let rest = some_after_version version.0 in
    (version.0 ++ rest.0, record { front = version.0; behind = rest.0; joined = refl; first_is = version.1; second_is = rest.1 })

-- ---- the choice

pub stop_units : (bytes : List ℕ) (stop : Stop) → IsStop (IsBlock 4) bytes stop → IsStop IsChoice bytes stop
stop_units bytes stop refused = stop_first (IsBlock 4) (λ count. IsBlock (from_be_bytes w32 count)) bytes stop choice_goes_on refused

pub stop_versions : (bytes count rest : List ℕ) (stop : Stop) → length count ≡ 4 → bytes ≡ count ++ rest → IsStop (IsBlock (from_be_bytes w32 count)) rest stop → IsStop IsChoice bytes stop
stop_versions bytes count rest stop size same refused =
    stop_next_bytes (IsBlock 4) (λ c. IsBlock (from_be_bytes w32 c)) bytes count rest stop (ends_block 4) (λ are. record { size = size; are_bytes = are }) same refused

-- ---- the tree

pub stop_tree_count : (version : ℕ) (bytes : List ℕ) (stop : Stop) → IsStop IsNodeCount bytes stop → IsStop (IsTree version) bytes stop
stop_tree_count version bytes stop refused =
    stop_first IsNodeCount (λ count. AreTexts (from_be_bytes w32 count) (IsNode version)) bytes stop (tree_goes_on version) refused

pub stop_tree_nodes : (version count : ℕ) (bytes rest : List ℕ) (stop : Stop) → 1 ≤ count → count ≤ 1048576 → bytes ≡ to_be_bytes w32 count ++ rest
    → IsStop (AreTexts count (IsNode version)) rest stop → IsStop (IsTree version) bytes stop
stop_tree_nodes version count bytes rest stop some few same refused =
    let count_is : from_be_bytes w32 (to_be_bytes w32 count) ≡ count = from_be_bytes-to_be_bytes_4 count (omega (arith, few)) in
    stop_next IsNodeCount (λ c. AreTexts (from_be_bytes w32 c) (IsNode version)) bytes (to_be_bytes w32 count) rest stop ends_node_count (node_count_text count some few) same
    (subst (λ (n : ℕ). IsStop (AreTexts n (IsNode version)) rest stop) (sym count_is) refused)

-- ---- the whole

pub stop_mark : (bytes : List ℕ) (stop : Stop) → IsStop IsMark bytes stop → IsStop IsText bytes stop
stop_mark bytes stop refused = stop_first IsMark (λ _. AfterMark) bytes stop (λ _ _. some_after_mark) refused

behind_mark : (bytes rest : List ℕ) (stop : Stop) → bytes ≡ mark ++ rest → IsStop AfterMark rest stop → IsStop IsText bytes stop
behind_mark bytes rest stop same refused = stop_next IsMark (λ _. AfterMark) bytes mark rest stop ends_mark mark_text same refused

pub stop_version : (bytes rest : List ℕ) (stop : Stop) → bytes ≡ mark ++ rest → IsStop (IsByte 1 3) rest stop → IsStop IsText bytes stop
stop_version bytes rest stop same refused = behind_mark bytes rest stop same (stop_first (IsByte 1 3) AfterVersion rest stop (λ version _. some_after_version version) refused)

-- what was read of mark and version
pub record HasHead (bytes rest : List ℕ) (version : ℕ) : Type 0 where
  pub behind : List ℕ
  pub mark_is : bytes ≡ mark ++ behind
  pub version_is : behind ≡ version ∷ rest
  pub least : 1 ≤ version
  pub most : version ≤ 3

behind_version : (bytes rest : List ℕ) (version : ℕ) (stop : Stop) → HasHead bytes rest version → IsStop (AfterVersion (version ∷ [])) rest stop → IsStop IsText bytes stop
behind_version bytes rest version stop head refused =
    behind_mark bytes head.behind stop head.mark_is (stop_byte 1 3 version AfterVersion head.behind rest stop head.version_is head.least head.most (lit< tt) refused)

pub stop_numbers : (bytes rest : List ℕ) (version : ℕ) (stop : Stop) → HasHead bytes rest version → IsStop (IsBlock 16) rest stop → IsStop IsText bytes stop
stop_numbers bytes rest version stop head refused =
    behind_version bytes rest version stop head (stop_first (IsBlock 16) (λ _. AfterNumbers (version ∷ [])) rest stop (λ _ _. some_after_numbers (version ∷ [])) refused)

behind_numbers : (bytes rest numbers left : List ℕ) (version : ℕ) (stop : Stop) → HasHead bytes rest version → length numbers ≡ 16 → rest ≡ numbers ++ left
    → IsStop (AfterNumbers (version ∷ [])) left stop → IsStop IsText bytes stop
behind_numbers bytes rest numbers left version stop head size same refused =
    behind_version bytes rest version stop head
    (stop_next_bytes (IsBlock 16) (λ _. AfterNumbers (version ∷ [])) rest numbers left stop (ends_block 16) (λ are. record { size = size; are_bytes = are }) same refused)

pub stop_choice : (bytes rest numbers left : List ℕ) (version : ℕ) (stop : Stop) → HasHead bytes rest version → length numbers ≡ 16 → rest ≡ numbers ++ left → IsStop IsChoice left stop
    → IsStop IsText bytes stop
stop_choice bytes rest numbers left version stop head size same refused =
    behind_numbers bytes rest numbers left version stop head size same
    (stop_first IsChoice (λ _. IsTree version) left stop (λ _ _. some_tree version) refused)

pub stop_tree : (bytes rest numbers left choice last : List ℕ) (version : ℕ) (stop : Stop) → HasHead bytes rest version → length numbers ≡ 16 → rest ≡ numbers ++ left
    → length choice < 2 ^ 32 → left ≡ to_be_bytes w32 (length choice) ++ (choice ++ last)
    → IsStop (IsTree version) last stop → IsStop IsText bytes stop
stop_tree bytes rest numbers left choice last version stop head size same few left_is refused =
    let count : List ℕ = to_be_bytes w32 (length choice) in
    behind_numbers bytes rest numbers left version stop head size same
    (stop_next_bytes IsChoice (λ _. IsTree version) left (count ++ choice) last stop ends_choice
    (λ are. choice_text choice few (are_bytes_behind count choice are)) (left_is ∙ sym (append_assoc count choice last)) refused)

-- what is put together from the parts of a text is a certificate, where the text has bytes
pub cert_in : (bytes rest numbers left last : List ℕ) (cert : Cert) → HasHead bytes rest cert.version → cert.bound < 2 ^ 64 → cert.distortion < 2 ^ 64 → rest ≡ numbers ++ left
    → length cert.choice < 2 ^ 32 → left ≡ to_be_bytes w32 (length cert.choice) ++ (cert.choice ++ last) → 1 ≤ length cert.nodes → length cert.nodes ≤ NODES_MOST
    → AllByRecursion (NodeMayStand cert.version) cert.nodes → AreBytes bytes → IsCert cert
cert_in bytes rest numbers left last cert head bound distortion numbers_are few choice_is some most stand are =
    let behind : AreBytes head.behind = are_bytes_behind mark head.behind (subst AreBytes head.mark_is are) in
    let from_version : AreBytes (cert.version ∷ rest) = subst AreBytes head.version_is behind in
    let from_choice : AreBytes left = are_bytes_behind numbers left (subst AreBytes numbers_are from_version.1) in
    let count : List ℕ = to_be_bytes w32 (length cert.choice) in
    let choice : AreBytes (cert.choice ++ last) = are_bytes_behind count (cert.choice ++ last) (subst AreBytes choice_is from_choice) in
    record {
      version = one_to_three cert.version head.least head.most;
      bound = bound;
      distortion = distortion;
      few_units = few;
      choice = are_bytes_front cert.choice last choice;
      some_nodes = some;
      few_nodes = most;
      nodes = stand;
    }

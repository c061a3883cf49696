-- Texts of certificates, and the certificates of texts.
use Rattle.std.proofs.Common.{◌≡◌, ℕ, zero, suc, ◌+◌, ◌^◌, ◌<◌, ◌≤◌, ◌⊎◌, inl, inr, List, [], ◌∷◌, ◌++◌, length, get_or, take, drop, slice_index, refl, sym, ap, ap₂, subst, ◌∙◌, arith, lit<, length-append, append_assoc}
use Rattle.std.specs.List.{flat_map, AllByRecursion}
use Rattle.std.specs.Int.{w32, w64, to_be_bytes, from_be_bytes}
use Rattle.std.proofs.lemmas.List.{append-nil}
use Rattle.std.proofs.lemmas.Nat.{from_be_bytes-to_be_bytes_4}
use Rattle.bit_lists.specs.Fields.{AreBytes}
use Rattle.bit_lists.proofs.ByteLemmas.{AreBytes-append}
use Rattle.bound_certificate.specs.declared.cert.Node.{Node}
use Rattle.bound_certificate.specs.declared.cert.Cert.{Cert}
use Rattle.bound_certificate.specs.declared.fault.Stop.{Stop}
use Rattle.bound_certificate.specs.declared.fault.Stop.TheVariants.{At, OutOfMemory}
use Rattle.bound_certificate.specs.Cert.{IsCert, NodeMayStand}
use Rattle.bound_certificate.specs.Spelling.{mark, bytes_of_node, cert_spelling}
use Rattle.bound_certificate.specs.Reading.{IsCertSyntaxRefusal}
use Rattle.bound_certificate.specs.Private.Texts.{Then, IsBlock, IsByte, IsMark, IsChoice, IsNode, AreTexts, IsTree, IsText, IsRefused, IsStop, IsWholeStop}
use Rattle.bound_certificate.proofs.Refusals.{Ends, ends_then, same_parts}
use Rattle.bound_certificate.proofs.Parts.{ends_byte, ends_block, ends_mark, ends_choice, ends_tree}
use Rattle.bound_certificate.proofs.Heads.{is_byte}
use Rattle.bound_certificate.proofs.Numbers.{one_number_4, one_number_8, block_4, are_bytes_8, number_4, number_8, node_count_text, count_of_text}
use Rattle.bound_certificate.proofs.Records.{nodes_text, nodes_of_text, nodes_same, split_block}

-- ---- the text of a certificate

abbrev pub AfterNumbers : List ℕ → List ℕ → Type 0
AfterNumbers version = Then IsChoice (λ _. IsTree (slice_index version 0))

abbrev pub AfterVersion : List ℕ → List ℕ → Type 0
AfterVersion version = Then (IsBlock 16) (λ _. AfterNumbers version)

abbrev pub AfterMark : List ℕ → Type 0
AfterMark = Then (IsByte 1 3) AfterVersion

pub mark_text : IsMark mark
mark_text = record {
  front = 0x52 ∷ [];
  behind = 0x4D ∷ 0x58 ∷ 0x43 ∷ [];
  joined = refl;
  first_is = is_byte 0x52 0x52 0x52 (omega arith) (omega arith) (lit< tt);
  second_is = record {
    front = 0x4D ∷ [];
    behind = 0x58 ∷ 0x43 ∷ [];
    joined = refl;
    first_is = is_byte 0x4D 0x4D 0x4D (omega arith) (omega arith) (lit< tt);
    second_is = record {
      front = 0x58 ∷ [];
      behind = 0x43 ∷ [];
      joined = refl;
      first_is = is_byte 0x58 0x58 0x58 (omega arith) (omega arith) (lit< tt);
      second_is = is_byte 0x43 0x43 0x43 (omega arith) (omega arith) (lit< tt);
    };
  };
}

pub choice_text : (choice : List ℕ) → length choice < 2 ^ 32 → AreBytes choice → IsChoice (to_be_bytes w32 (length choice) ++ choice)
choice_text choice few are = record {
  front = to_be_bytes w32 (length choice);
  behind = choice;
  joined = refl;
  first_is = block_4 (length choice);
  second_is = record { size = sym (from_be_bytes-to_be_bytes_4 (length choice) few); are_bytes = are };
}

pub tree_text : (version : ℕ) (nodes : List Node) → 1 ≤ length nodes → length nodes ≤ 1048576 → AllByRecursion (NodeMayStand version) nodes
    → IsTree version (to_be_bytes w32 (length nodes) ++ flat_map bytes_of_node nodes)
tree_text version nodes some few stand =
    let count : from_be_bytes w32 (to_be_bytes w32 (length nodes)) ≡ length nodes = from_be_bytes-to_be_bytes_4 (length nodes) (omega (arith, few)) in
    record {
      front = to_be_bytes w32 (length nodes);
      behind = flat_map bytes_of_node nodes;
      joined = refl;
      first_is = node_count_text (length nodes) some few;
      second_is = subst (λ (n : ℕ). AreTexts n (IsNode version) (flat_map bytes_of_node nodes)) (sym count) (nodes_text version nodes stand);
    }

numbers_block : (a b : ℕ) → IsBlock 16 (to_be_bytes w64 a ++ to_be_bytes w64 b)
numbers_block a b = record { size = refl; are_bytes = AreBytes-append (to_be_bytes w64 a) (to_be_bytes w64 b) (are_bytes_8 a) (are_bytes_8 b) }

version_byte : (version : ℕ) → (version ≡ 1) ⊎ (version ≡ 2) ⊎ (version ≡ 3) → IsByte 1 3 (version ∷ [])
version_byte version (inl is) = is_byte 1 3 version (omega (arith, is)) (omega (arith, is)) (lit< tt)
version_byte version (inr (inl is)) = is_byte 1 3 version (omega (arith, is)) (omega (arith, is)) (lit< tt)
version_byte version (inr (inr is)) = is_byte 1 3 version (omega (arith, is)) (omega (arith, is)) (lit< tt)

pub cert_text : (cert : Cert) → IsCert cert → IsText (cert_spelling cert)
unfolding cert_spelling
cert_text cert is =
    let nodes : List ℕ = to_be_bytes w32 (length cert.nodes) ++ flat_map bytes_of_node cert.nodes in
    let choice : List ℕ = to_be_bytes w32 (length cert.choice) ++ cert.choice in
    let numbers : List ℕ = to_be_bytes w64 cert.bound ++ to_be_bytes w64 cert.distortion in
    let joined : to_be_bytes w32 (length cert.choice) ++ (cert.choice ++ nodes) ≡ choice ++ nodes = sym (append_assoc (to_be_bytes w32 (length cert.choice)) cert.choice nodes) in
    record {
      front = mark;
      behind = cert.version ∷ (numbers ++ (choice ++ nodes));
      joined = ap (λ (xs : List ℕ). mark ++ cert.version ∷ (to_be_bytes w64 cert.bound ++ (to_be_bytes w64 cert.distortion ++ xs))) joined;
      first_is = mark_text;
      second_is = record {
        front = cert.version ∷ [];
        behind = numbers ++ (choice ++ nodes);
        joined = refl;
        first_is = version_byte cert.version is.version;
        second_is = record {
          front = numbers;
          behind = choice ++ nodes;
          joined = refl;
          first_is = numbers_block cert.bound cert.distortion;
          second_is = record {
            front = choice;
            behind = nodes;
            joined = refl;
            first_is = choice_text cert.choice is.few_units is.choice;
            second_is = tree_text cert.version cert.nodes is.some_nodes is.few_nodes is.nodes;
          };
        };
      };
    }

-- ---- the certificate of a text

choice_of_text : (bytes : List ℕ) → IsChoice bytes → (choice : List ℕ) × (length choice < 2 ^ 32) × AreBytes choice × (bytes ≡ to_be_bytes w32 (length choice) ++ choice)
choice_of_text bytes text =
    let count = number_4 text.front text.first_is in
    let size : length text.behind ≡ count.0 = text.second_is.size ∙ ap (from_be_bytes w32) count.2 ∙ from_be_bytes-to_be_bytes_4 count.0 count.1 in (
      text.behind,
      omega (arith, size, count.1),
      text.second_is.are_bytes,
      text.joined ∙ ap (λ (xs : List ℕ). xs ++ text.behind) (count.2 ∙ ap (λ (n : ℕ). to_be_bytes w32 n) (sym size)),
    )

tree_of_text : (version : ℕ) (bytes : List ℕ) → IsTree version bytes
    → (nodes : List Node) × (1 ≤ length nodes) × (length nodes ≤ 1048576) × AllByRecursion (NodeMayStand version) nodes × (bytes ≡ to_be_bytes w32 (length nodes) ++ flat_map bytes_of_node nodes)
tree_of_text version bytes text =
    let count = count_of_text text.front text.first_is in
    let count_is : from_be_bytes w32 text.front ≡ count.0 = ap (from_be_bytes w32) count.3 ∙ from_be_bytes-to_be_bytes_4 count.0 (omega (arith, count.2)) in
    let texts : AreTexts count.0 (IsNode version) text.behind = subst (λ (n : ℕ). AreTexts n (IsNode version) text.behind) count_is text.second_is in
    let nodes = nodes_of_text version count.0 text.behind texts in (
      nodes.0,
      omega (arith, nodes.1, count.1),
      omega (arith, nodes.1, count.2),
      nodes.2,
      text.joined ∙ ap₂ (λ (a b : List ℕ). a ++ b) (count.3 ∙ ap (λ (n : ℕ). to_be_bytes w32 n) (sym nodes.1)) nodes.3,
    )

mark_is : (bytes : List ℕ) → IsMark bytes → bytes ≡ mark
mark_is bytes text =
    let one = text.first_is in
    let two = text.second_is.first_is in
    let three = text.second_is.second_is.first_is in
    let last = text.second_is.second_is.second_is in
    let first : one.byte ≡ 0x52 = omega (arith, one.allows.0, one.allows.1) in
    let second : two.byte ≡ 0x4D = omega (arith, two.allows.0, two.allows.1) in
    let third : three.byte ≡ 0x58 = omega (arith, three.allows.0, three.allows.1) in
    let fourth : last.byte ≡ 0x43 = omega (arith, last.allows.0, last.allows.1) in
    text.joined ∙ ap₂ (λ (a b : List ℕ). a ++ b) (one.is ∙ ap (λ (b : ℕ). b ∷ []) first)
    (text.second_is.joined ∙ ap₂ (λ (a b : List ℕ). a ++ b) (two.is ∙ ap (λ (b : ℕ). b ∷ []) second)
    (text.second_is.second_is.joined ∙ ap₂ (λ (a b : List ℕ). a ++ b) (three.is ∙ ap (λ (b : ℕ). b ∷ []) third) (last.is ∙ ap (λ (b : ℕ). b ∷ []) fourth)))

pub one_to_three : (n : ℕ) → 1 ≤ n → n ≤ 3 → (n ≡ 1) ⊎ (n ≡ 2) ⊎ (n ≡ 3)
one_to_three zero some few = absurd (omega (arith, some))
one_to_three (suc zero) some few = inl refl
one_to_three (suc (suc zero)) some few = inr (inl refl)
one_to_three (suc (suc (suc zero))) some few = inr (inr refl)
one_to_three (suc (suc (suc (suc n)))) some few = absurd (omega (arith, few))

pub cert_of_text : (bytes : List ℕ) → IsText bytes → (cert : Cert) × IsCert cert × (cert_spelling cert ≡ bytes)
unfolding cert_spelling
cert_of_text bytes text =
    let version_text = text.second_is.first_is in
    let version : ℕ = version_text.byte in
    let numbers = text.second_is.second_is in
    let parts = split_block 8 8 16 numbers.front refl numbers.first_is in
    let bound = number_8 (take 8 numbers.front) parts.0 in
    let distortion = number_8 (drop 8 numbers.front) parts.1 in
    let choice = choice_of_text numbers.second_is.front numbers.second_is.first_is in
    let tree_is : IsTree version numbers.second_is.behind = subst (λ (xs : List ℕ). IsTree (slice_index xs 0) numbers.second_is.behind) version_text.is numbers.second_is.second_is in
    let nodes = tree_of_text version numbers.second_is.behind tree_is in
    let cert : Cert = record { version = version; bound = bound.0; distortion = distortion.0; choice = choice.0; nodes = nodes.0 } in
    let numbers_are : numbers.front ≡ to_be_bytes w64 bound.0 ++ to_be_bytes w64 distortion.0 = parts.2 ∙ ap₂ (λ (a b : List ℕ). a ++ b) bound.2 distortion.2 in
    let nodes_are : List ℕ = to_be_bytes w32 (length nodes.0) ++ flat_map bytes_of_node nodes.0 in
    let rest : numbers.second_is.front ++ numbers.second_is.behind ≡ to_be_bytes w32 (length choice.0) ++ (choice.0 ++ nodes_are) =
    ap₂ (λ (a b : List ℕ). a ++ b) choice.3 nodes.4 ∙ append_assoc (to_be_bytes w32 (length choice.0)) choice.0 nodes_are in
    let behind : text.second_is.behind ≡ to_be_bytes w64 bound.0 ++ (to_be_bytes w64 distortion.0 ++ (to_be_bytes w32 (length choice.0) ++ (choice.0 ++ nodes_are))) =
    numbers.joined ∙ ap₂ (λ (a b : List ℕ). a ++ b) numbers_are (numbers.second_is.joined ∙ rest) in (
      cert,
      record {
        version = one_to_three version version_text.allows.0 version_text.allows.1;
        bound = bound.1;
        distortion = distortion.1;
        few_units = choice.1;
        choice = choice.2;
        some_nodes = nodes.1;
        few_nodes = nodes.2;
        nodes = nodes.3;
      },
      sym (text.joined ∙ ap₂ (λ (a b : List ℕ). a ++ b) (mark_is text.front text.first_is) (text.second_is.joined ∙ ap₂ (λ (a b : List ℕ). a ++ b) version_text.is behind)),
    )

-- ---- one certificate

pub ends_text : Ends IsText
ends_text = ends_then IsMark (λ _. AfterMark) ends_mark
    (λ _ _. ends_then (IsByte 1 3) AfterVersion (ends_byte 1 3)
    (λ version _. ends_then (IsBlock 16) (λ _. AfterNumbers version) (ends_block 16)
    (λ _ _. ends_then IsChoice (λ _. IsTree (slice_index version 0)) ends_choice (λ _ _. ends_tree (slice_index version 0)))))

pub one_cert : (a b : Cert) → IsCert a → IsCert b → cert_spelling a ≡ cert_spelling b → a ≡ b
unfolding cert_spelling
one_cert a b first second same =
    let nodes_a : List ℕ = to_be_bytes w32 (length a.nodes) ++ flat_map bytes_of_node a.nodes in
    let nodes_b : List ℕ = to_be_bytes w32 (length b.nodes) ++ flat_map bytes_of_node b.nodes in
    let choice_a : List ℕ = to_be_bytes w32 (length a.choice) ++ (a.choice ++ nodes_a) in
    let choice_b : List ℕ = to_be_bytes w32 (length b.choice) ++ (b.choice ++ nodes_b) in
    let version : a.version ≡ b.version = ap (λ (xs : List ℕ). get_or xs 4 0) same in
    let numbers : to_be_bytes w64 a.bound ++ (to_be_bytes w64 a.distortion ++ choice_a) ≡ to_be_bytes w64 b.bound ++ (to_be_bytes w64 b.distortion ++ choice_b) = ap
    (λ (xs : List ℕ). drop 5 xs) same in
    let bounds = same_parts (to_be_bytes w64 a.bound) (to_be_bytes w64 a.distortion ++ choice_a) (to_be_bytes w64 b.bound) (to_be_bytes w64 b.distortion ++ choice_b) numbers refl in
    let distortions = same_parts (to_be_bytes w64 a.distortion) choice_a (to_be_bytes w64 b.distortion) choice_b bounds.1 refl in
    let counts = same_parts (to_be_bytes w32 (length a.choice)) (a.choice ++ nodes_a) (to_be_bytes w32 (length b.choice)) (b.choice ++ nodes_b) distortions.1 refl in
    let units : length a.choice ≡ length b.choice = one_number_4 (length a.choice) (length b.choice) first.few_units second.few_units counts.0 in
    let choices = same_parts a.choice nodes_a b.choice nodes_b counts.1 units in
    let sizes = same_parts (to_be_bytes w32 (length a.nodes)) (flat_map bytes_of_node a.nodes) (to_be_bytes w32 (length b.nodes)) (flat_map bytes_of_node b.nodes) choices.1 refl in
    let size : length a.nodes ≡ length b.nodes = one_number_4 (length a.nodes) (length b.nodes) (omega (arith, first.few_nodes)) (omega (arith, second.few_nodes)) sizes.0 in
    let stand : AllByRecursion (NodeMayStand a.version) b.nodes = subst (λ (v : ℕ). AllByRecursion (NodeMayStand v) b.nodes) (sym version) second.nodes in
    let nodes : a.nodes ≡ b.nodes = nodes_same a.version a.nodes b.nodes size first.nodes stand sizes.1 in
    let bound : a.bound ≡ b.bound = one_number_8 a.bound b.bound first.bound second.bound bounds.0 in
    let distortion : a.distortion ≡ b.distortion = one_number_8 a.distortion b.distortion first.distortion second.distortion distortions.0 in
    ap₂ (λ (v n : ℕ). record { version = v; bound = n; distortion = a.distortion; choice = a.choice; nodes = a.nodes }) version bound
    ∙ ap₂ (λ (n : ℕ) (xs : List ℕ). record { version = b.version; bound = b.bound; distortion = n; choice = xs; nodes = a.nodes }) distortion choices.0
    ∙ ap (λ (xs : List Node). record { version = b.version; bound = b.bound; distortion = b.distortion; choice = b.choice; nodes = xs }) nodes

-- ---- refused

pub stop_whole : (bytes : List ℕ) (stop : Stop) → IsStop IsText bytes stop → IsWholeStop bytes stop
stop_whole bytes OutOfMemory refused = tt
stop_whole bytes (At left) refused = λ are. whole_of (refused are)
  where
    whole_of : IsRefused IsText bytes left → (n : ℕ) × (n + left ≡ length bytes) × IsCertSyntaxRefusal bytes n
    whole_of r =
        let cert = cert_of_text (r.before ++ r.more) r.begun in (
          length r.before,
          omega (arith, r.left_is, ap length r.parts, length-append r.before r.rest),
          record {
            before = r.before;
            rest = r.rest;
            parts = r.parts;
            place = refl;
            begun = (cert.0, r.more, cert.1, cert.2);
            byte = λ next behind more other at is same. r.byte next behind more at (subst IsText same (cert_text other is));
            ended = λ other is same. r.whole bytes [] (sym (append-nil bytes)) (subst IsText same (cert_text other is));
          },
        )

-- what stands behind a certificate
pub stop_behind : (bytes rest : List ℕ) (cert : Cert) → (AreBytes bytes → IsCert cert) → bytes ≡ cert_spelling cert ++ rest → 0 < length rest → IsWholeStop bytes (At (length rest))
stop_behind bytes rest cert is same some = λ are. (
  length (cert_spelling cert),
  omega (arith, ap length same, length-append (cert_spelling cert) rest),
  record {
    before = cert_spelling cert;
    rest = rest;
    parts = same;
    place = refl;
    begun = (cert, [], is are, sym (append-nil (cert_spelling cert)));
    byte = λ next behind more other at other_is spelled. longer_than (is are) other (next ∷ more) other_is spelled (omega arith);
    ended = λ other other_is spelled. longer_than (is are) other rest other_is (spelled ∙ same) some;
  },
)
  where
    longer_than : IsCert cert → (other : Cert) (more : List ℕ) → IsCert other → cert_spelling other ≡ cert_spelling cert ++ more → 0 < length more → ⊥
    longer_than cert_is other more other_is spelled some_more =
        let size : length (cert_spelling other) ≡ length (cert_spelling cert) = ends_text (cert_spelling other) (cert_spelling cert) [] more (append-nil (cert_spelling other) ∙ spelled) (cert_text other other_is)
        (cert_text cert cert_is) in
        omega (arith, size, ap length spelled, length-append (cert_spelling cert) more, some_more)

-- a certificate that isn't too long has few units
pub units_fit : (cert : Cert) → length (cert_spelling cert) ≤ 67108864 → length cert.choice < 2 ^ 32
unfolding cert_spelling
units_fit cert few =
    let nodes : List ℕ = to_be_bytes w32 (length cert.nodes) ++ flat_map bytes_of_node cert.nodes in
    omega (arith, few, length-append cert.choice nodes)

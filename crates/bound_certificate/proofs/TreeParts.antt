-- Nodes one behind the other: what was read of them, and where they are refused.
use Rattle.std.proofs.Common.{◌≡◌, ℕ, suc, ◌+◌, ◌-◌, ◌<◌, List, [], ◌∷◌, ◌++◌, length, refl, sym, ap, ◌∙◌, arith, append_assoc}
use Rattle.std.specs.List.{flat_map, AllByRecursion}
use Rattle.std.proofs.lemmas.Grind.{flat_map-append}
use Rattle.std.proofs.lemmas.List.{append-nil, length_push}
use Rattle.bound_certificate.specs.declared.cert.Node.{Node}
use Rattle.bound_certificate.specs.declared.fault.Stop.{Stop}
use Rattle.bound_certificate.specs.Cert.{NodeMayStand}
use Rattle.bound_certificate.specs.Spelling.{bytes_of_node}
use Rattle.bound_certificate.specs.Private.Texts.{AreTexts, IsNode, IsStop}
use Rattle.bound_certificate.proofs.Refusals.{stop_first, stop_texts}
use Rattle.bound_certificate.proofs.Parts.{ends_node, some_nodes}
use Rattle.bound_certificate.proofs.NodeParts.{AllByRecursion-push}
use Rattle.bound_certificate.proofs.Records.{nodes_text}

-- these nodes were read, and this is left
pub record HasRead (version : ℕ) (start rest : List ℕ) (nodes : List Node) (i : ℕ) : Type 0 where
  pub count : length nodes ≡ i
  pub stand : AllByRecursion (NodeMayStand version) nodes
  pub bytes : start ≡ flat_map bytes_of_node nodes ++ rest

pub read_none : (version : ℕ) (start : List ℕ) → HasRead version start start [] 0
read_none version start = record { count = refl; stand = tt; bytes = refl }

pub read_more : (version : ℕ) (start rest left : List ℕ) (nodes : List Node) (i : ℕ) (node : Node) → HasRead version start rest nodes i → NodeMayStand version node
    → rest ≡ bytes_of_node node ++ left → HasRead version start left (nodes ++ node ∷ []) (i + 1)
read_more version start rest left nodes i node read stands next = record {
  count = length_push nodes node ∙ ap (λ (n : ℕ). n + 1) read.count;
  stand = AllByRecursion-push (NodeMayStand version) nodes node read.stand stands;
  bytes =
      read.bytes
      ∙ ap (λ (xs : List ℕ). flat_map bytes_of_node nodes ++ xs) next
      ∙ sym (append_assoc (flat_map bytes_of_node nodes) (bytes_of_node node) left)
      ∙ ap (λ (xs : List ℕ). flat_map bytes_of_node nodes ++ xs ++ left) (sym (append-nil (bytes_of_node node)))
      ∙ ap (λ (xs : List ℕ). xs ++ left) (sym (flat_map-append bytes_of_node nodes (node ∷ [])));
}

pub stop_nodes : (version count i : ℕ) (start rest : List ℕ) (nodes : List Node) (stop : Stop) → HasRead version start rest nodes i → i < count → IsStop (IsNode version) rest stop
    → IsStop (AreTexts count (IsNode version)) start stop
stop_nodes version count i start rest nodes stop read more refused =
    let left : ℕ = count - i - 1 in
    let first : IsStop (AreTexts (suc left) (IsNode version)) rest stop = stop_first (IsNode version) (λ _ xs. AreTexts left (IsNode version) xs) rest stop (λ _ _. some_nodes left version) refused in
    stop_texts (length nodes) (suc left) count (IsNode version) start (flat_map bytes_of_node nodes) rest stop (omega (arith, more, read.count)) (ends_node version)
    (nodes_text version nodes read.stand) read.bytes first

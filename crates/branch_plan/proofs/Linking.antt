-- Links of children behind those of the other nodes.
use Rattle.std.proofs.Common.{◌≡◌, ◌≢◌, ℕ, ◌+◌, ◌-◌, ◌<◌, inl, inr, List, [], ◌∷◌, ◌++◌, length, set, refl, sym, ap, subst, ◌∙◌, arith}
use Rattle.std.proofs.lemmas.Bool.{cases_eq, cases_lt}
use Rattle.std.proofs.lemmas.List.{get_or_append_left, get_or_at, get_or-set_same, get_or-set_other, length-append, length-set}
use Rattle.branch_plan.specs.declared.arena.Link.{Link}
use Rattle.branch_plan.specs.Private.Branching.{AreLinkedBehind}
use Rattle.branch_plan.specs.Private.Growth.{link_of, next_of}

abbrev no_link : Link
no_link = record { parent = 0; unit = 0; version = 0; next = 0 }

-- so many of the children's links stand
pub record AreLinkedSo (i unit count k : ℕ) (links more : List Link) : Type 0 where
  pub long : length more ≡ length links + k
  pub parent : (j : ℕ) → j < length links → (link_of more j).parent ≡ (link_of links j).parent
  pub unit_kept : (j : ℕ) → j < length links → (link_of more j).unit ≡ (link_of links j).unit
  pub version_kept : (j : ℕ) → j < length links → (link_of more j).version ≡ (link_of links j).version
  pub next_kept : (j : ℕ) → j < length links → j ≢ i → next_of more j ≡ next_of links j
  pub next_at : next_of more i ≡ length links
  pub new_parent : (j m : ℕ) → j ≡ length links + m → m < k → (link_of more j).parent ≡ i
  pub new_unit : (j m : ℕ) → j ≡ length links + m → m < k → (link_of more j).unit ≡ unit
  pub new_version : (j m : ℕ) → j ≡ length links + m → m < k → (link_of more j).version ≡ m
  pub rise : (j m : ℕ) → j ≡ length links + m → m < k → m + 1 < count → next_of more j ≡ j + 1
  pub last : (j m : ℕ) → j ≡ length links + m → m < k → m + 1 ≡ count → next_of more j ≡ next_of links i

at_set : (P : Link → Type 0) (links : List Link) (i j : ℕ) (link : Link) → j < length links → (j ≡ i → P link) → (j ≢ i → P (link_of links j)) → P (link_of (set links i link) j)
at_set P links i j link low here_is other = elim (cases_eq j i) as (λ _. P (link_of (set links i link) j)) [
  | inl same ↦
      subst (λ (l : Link). P l) (sym (ap (λ (p : ℕ). link_of (set links i link) p) same ∙ get_or-set_same links i link no_link (omega (arith, low, same)))) (here_is same)
  | inr differs ↦ subst (λ (l : Link). P l) (sym (get_or-set_other links i j link no_link differs)) (other differs)
]

pub linked_none : (i unit count : ℕ) (links more : List Link) (link : Link) → i < length links → more ≡ set links i link → link.parent ≡ (link_of links i).parent → link.unit ≡ (link_of links i).unit
    → link.version ≡ (link_of links i).version → link.next ≡ length links → AreLinkedSo i unit count 0 links more
linked_none i unit count links more link within is parent_is unit_is version_is next_is =
    subst (λ (ls : List Link). AreLinkedSo i unit count 0 links ls) (sym is) (record {
      long = omega (arith, length-set links i link);
      parent = λ j low. at_set (λ (l : Link). l.parent ≡ (link_of links j).parent) links i j link low
          (λ same. parent_is ∙ sym (ap (λ (p : ℕ). (link_of links p).parent) same)) (λ differs. refl);
      unit_kept = λ j low. at_set (λ (l : Link). l.unit ≡ (link_of links j).unit) links i j link low
          (λ same. unit_is ∙ sym (ap (λ (p : ℕ). (link_of links p).unit) same)) (λ differs. refl);
      version_kept = λ j low. at_set (λ (l : Link). l.version ≡ (link_of links j).version) links i j link low
          (λ same. version_is ∙ sym (ap (λ (p : ℕ). (link_of links p).version) same)) (λ differs. refl);
      next_kept = λ j low differs. ap (λ (l : Link). l.next) (get_or-set_other links i j link no_link differs);
      next_at = ap (λ (l : Link). l.next) (get_or-set_same links i link no_link within) ∙ next_is;
      new_parent = λ j m place low. absurd (omega (arith, low));
      new_unit = λ j m place low. absurd (omega (arith, low));
      new_version = λ j m place low. absurd (omega (arith, low));
      rise = λ j m place low high. absurd (omega (arith, low));
      last = λ j m place low high. absurd (omega (arith, low));
    })

kept_at : (more : List Link) (link : Link) (j : ℕ) → j < length more → link_of (more ++ link ∷ []) j ≡ link_of more j
kept_at more link j low = get_or_append_left more (link ∷ []) no_link j low

new_at : (more : List Link) (link : Link) (j : ℕ) → j ≡ length more → link_of (more ++ link ∷ []) j ≡ link
new_at more link j same = get_or_at more link [] no_link j (sym same)

-- a fact of each child's link holds of one more
each_link : (P : ℕ → ℕ → Link → Type 0) (first k : ℕ) (more : List Link) (link : Link) → length more ≡ first + k → ((j m : ℕ) → j ≡ first + m → m < k → P j m (link_of more j))
    → P (first + k) k link → (j m : ℕ) → j ≡ first + m → m < k + 1 → P j m (link_of (more ++ link ∷ []) j)
each_link P first k more link long old own j m place low = elim (cases_lt m k) as (λ _. P j m (link_of (more ++ link ∷ []) j)) [
  | inl less ↦ subst (λ (l : Link). P j m l) (sym (kept_at more link j (omega (arith, place, less, long)))) (old j m place less)
  | inr high ↦
      let m_is : k ≡ m = omega (arith, low, high) in
      let j_is : first + k ≡ j = omega (arith, place, m_is) in
      subst (λ (l : Link). P j m l) (sym (new_at more link j (omega (arith, j_is, long))))
      (subst (λ (p : ℕ). P j p link) m_is (subst (λ (p : ℕ). P p k link) j_is own))
]

pub linked_more : (i unit count k : ℕ) (links more new : List Link) (link : Link) → i < length links → AreLinkedSo i unit count k links more → new ≡ more ++ link ∷ [] → link.parent ≡ i
    → link.unit ≡ unit → link.version ≡ k → (k + 1 < count → link.next ≡ length links + k + 1) → (k + 1 ≡ count → link.next ≡ next_of links i) → AreLinkedSo i unit count (k + 1) links new
linked_more i unit count k links more new link within are is parent_is unit_is version_is rise_is last_is =
    let n = length links in
    let low : (j : ℕ) → j < n → j < length more = (λ j below. omega (arith, below, are.long)) in
    subst (λ (ls : List Link). AreLinkedSo i unit count (k + 1) links ls) (sym is) (record {
      long = omega (arith, length-append more (link ∷ []), are.long);
      parent = λ j below. ap (λ (l : Link). l.parent) (kept_at more link j (low j below)) ∙ are.parent j below;
      unit_kept = λ j below. ap (λ (l : Link). l.unit) (kept_at more link j (low j below)) ∙ are.unit_kept j below;
      version_kept = λ j below. ap (λ (l : Link). l.version) (kept_at more link j (low j below)) ∙ are.version_kept j below;
      next_kept = λ j below differs. ap (λ (l : Link). l.next) (kept_at more link j (low j below)) ∙ are.next_kept j below differs;
      next_at = ap (λ (l : Link). l.next) (kept_at more link i (low i within)) ∙ are.next_at;
      new_parent = each_link (λ j m l. l.parent ≡ i) n k more link are.long are.new_parent parent_is;
      new_unit = each_link (λ j m l. l.unit ≡ unit) n k more link are.long are.new_unit unit_is;
      new_version = each_link (λ j m l. l.version ≡ m) n k more link are.long are.new_version version_is;
      rise = each_link (λ j m l. m + 1 < count → l.next ≡ j + 1) n k more link are.long are.rise rise_is;
      last = each_link (λ j m l. m + 1 ≡ count → l.next ≡ next_of links i) n k more link are.long are.last last_is;
    })

pub linked_all : (i unit count k : ℕ) (links more : List Link) → k ≡ count → 0 < count → AreLinkedSo i unit count k links more → AreLinkedBehind i unit count links more
linked_all i unit count k links more all some are = record {
  long = omega (arith, are.long, all);
  parent = are.parent;
  unit_kept = are.unit_kept;
  version_kept = are.version_kept;
  next_kept = are.next_kept;
  next_at = are.next_at;
  new_parent = λ j m place low. are.new_parent j m place (omega (arith, low, all));
  new_unit = λ j m place low. are.new_unit j m place (omega (arith, low, all));
  new_version = λ j m place low. are.new_version j m place (omega (arith, low, all));
  rise = λ j high low. are.rise j (j - length links) (omega (arith, high)) (omega (arith, high, low, all)) (omega (arith, high, low));
  last = λ j is. are.last j (j - length links) (omega (arith, is, some)) (omega (arith, is, some, all)) (omega (arith, is, some));
}

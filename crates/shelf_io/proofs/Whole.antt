-- Files that are read or written in several calls.
use Rattle.std.proofs.Common.{
  ◌≡◌,
  ℕ,
  ◌+◌,
  ◌-◌,
  ◌<◌,
  ◌≤◌,
  List,
  [],
  ◌++◌,
  Option,
  None,
  Some,
  Bool,
  true,
  false,
  cond,
  IsSomeAnd,
  unwrap_or,
  length,
  take,
  drop,
  refl,
  ap,
  sym,
  ◌∙◌,
  arith,
  length-drop,
  length-take-le,
}
use Rattle.std.proofs.Math.Seq.{take-add}
use Rattle.std.proofs.lemmas.List.{take_at}
use Rattle.std.specs.Ordering.{nat_cmp, eq_by_cmp}
use Rattle.std.specs.Cmp.{eq_by_cmp_equiv}
use Rattle.std.specs.Cmp.Lexicographic.{slice_cmp, nat_list_cmp_total}
use Rattle.std.specs.FinMap.{get, insert, get-insert, same_map, slice_cmp-IsAntisymmetric, nat_cmp-IsAntisymmetric}
use Rattle.shelf_io.specs.Asked.{AsksUpTo}
use Rattle.shelf_io.specs.Causes.{ReadCauses}
use Rattle.shelf_io.specs.Counts.{ShelfCounts}
use Rattle.shelf_io.specs.Files.{Files, IfTold, content_of}
use Rattle.shelf_io.specs.Buffer.{CopiesFront}
use Rattle.shelf_io.specs.Private.WholeFile.{AddsNext}
use Rattle.shelf_io.proofs.Counted.{rose_later, rises_later}

-- a choice made twice by one test is made once
pub chosen_twice : {A : Type 0} (b : Bool) (x y z : A) → cond b x (cond b y z) ≡ cond b x z
chosen_twice true x y z = refl
chosen_twice false x y z = refl

-- of two contents given to one file the second stays
pub insert_twice : (files : Files) (name first second : List ℕ) → insert (insert files name first) name second ≡ insert files name second
insert_twice files name first second = same_map nat_list_cmp_total (slice_cmp-IsAntisymmetric nat_cmp-IsAntisymmetric) _ _ (λ q.
    get-insert nat_list_cmp_total (insert files name first) name second q
    ∙ ap (cond (eq_by_cmp (slice_cmp nat_cmp) q name) (Some second)) (get-insert nat_list_cmp_total files name first q)
    ∙ chosen_twice (eq_by_cmp (slice_cmp nat_cmp) q name) (Some second) (Some first) (get files q)
    ∙ sym (get-insert nat_list_cmp_total files name second q))

-- a file that got a content has it
pub content_of-insert : (files : Files) (name content : List ℕ) → content_of (insert files name content) name ≡ content
content_of-insert files name content =
    ap (λ o. unwrap_or o []) (get-insert nat_list_cmp_total files name content name
    ∙ ap (λ b. cond b (Some content) (get files name)) ((eq_by_cmp_equiv nat_list_cmp_total).refl name))

-- n bytes that a read gave, at the end of what stands before them
pub adds_next : (content old new before after : List ℕ) (at n : ℕ) → at ≡ length old → 0 < length before → new ≡ old ++ take n after
    → CopiesFront (drop at content) before after n → AddsNext old new n content
adds_next content old new before after at n place room added fills front =
    let bytes : take n after ≡ take n (drop (length old) content) =
    ap (take n) fills.front ∙ take_at _ (drop n before) n (length-take-le n (drop at content) fills.within) ∙ ap (λ place. take n (drop place content)) place in (
      added ∙ ap (λ more. old ++ more) bytes ∙ ap (λ front. front ++ take n (drop (length old) content)) front
          ∙ sym (take-add (length old) n content),
      at_end (length-drop at content) fills.progress place room,
    )
  where
    at_end : length (drop at content) ≡ length content - at → (0 < length before → 0 < length (drop at content) → 0 < n) → at ≡ length old → 0 < length before → n ≡ 0 → length content ≤ length old
    at_end rest progress place room none = grind arith

IsSomeAnd_then : {A : Type 0} (o : Option A) {P Q : A → Type 0} → IsSomeAnd o P → ((x : A) → P x → Q x) → IsSomeAnd o Q
IsSomeAnd_then None h f = h
IsSomeAnd_then (Some x) h f = f x h

-- what follows of the content of a told file
pub IfTold_then : (told : Option Files) (name : List ℕ) {P Q : List ℕ → Type 0} → IfTold told name P → ((content : List ℕ) → P content → Q content) → IfTold told name Q
IfTold_then None name h f = tt
IfTold_then (Some files) name h f = IsSomeAnd_then (get files name) h f

-- what two calls in a row asked a file for
pub asks_twice : {name : List ℕ} {place : ℕ} {first second third : List ℕ → ℕ} → AsksUpTo name place first second → AsksUpTo name place second third
    → AsksUpTo name place first third
asks_twice before after = record {
  here = omega (arith, before.here, after.here);
  others = λ other differs. omega (arith, before.others other differs, after.others other differs);
}

-- a read that answered no fault leaves the counts
pub causes_none : {failed missing : Type 0} {first second : ShelfCounts} → (failed → ⊥) → (missing → ⊥) → ReadCauses failed missing first second → ReadCauses ⊥ ⊥ first second
causes_none unfailed found causes = record {
  failed_rose = λ is. absurd is;
  missing_rose = λ is. absurd is;
  only_failed = λ rise. unfailed (causes.only_failed rise);
  only_missing = λ rise. found (causes.only_missing rise);
  faults_grow = causes.faults_grow;
  same_write_faults = causes.same_write_faults;
  absences_grow = causes.absences_grow;
}

-- after such a read another one, which answered a fault or not
pub causes_twice : {failed missing : Type 0} {first second third : ShelfCounts} → ReadCauses ⊥ ⊥ first second → ReadCauses failed missing second third
    → ReadCauses failed missing first third
causes_twice {first = first} {second = second} {third = third} before after = record {
  failed_rose = λ is. rose_later first.faults second.faults third.faults before.faults_grow after.faults_grow (after.failed_rose is);
  missing_rose = λ is. rose_later first.absences second.absences third.absences before.absences_grow after.absences_grow (after.missing_rose is);
  only_failed = λ rise. after.only_failed (rises_later first.faults second.faults third.faults before.only_failed rise);
  only_missing = λ rise. after.only_missing (rises_later first.absences second.absences third.absences before.only_missing rise);
  faults_grow = omega (arith, before.faults_grow, after.faults_grow);
  same_write_faults = after.same_write_faults ∙ before.same_write_faults;
  absences_grow = omega (arith, before.absences_grow, after.absences_grow);
}

-- n more bytes that were read of a content
pub adds_on : (content old new : List ℕ) (n : ℕ) → length new ≡ length old + n → old ≡ take (length old) content → AddsNext old new n content
    → (new ≡ take (length new) content) × (n ≡ 0 → length content ≤ length new)
adds_on content old new n grew before adds =
    ((adds before).0 ∙ ap (λ k. take k content) (sym grew), λ none. omega (arith, (adds before).1 none, grew))

-- and the first ones
pub adds_first : (content old new : List ℕ) (n : ℕ) → old ≡ [] → length new ≡ length old + n → AddsNext old new n content
    → (new ≡ take (length new) content) × (n ≡ 0 → length content ≤ length new)
adds_first content old new n none grew adds = adds_on content old new n grew (none ∙ ap (λ bytes. take (length bytes) content) (sym none)) adds

IsSomeAnd_both : {A : Type 0} (o : Option A) {P Q R : A → Type 0} → IsSomeAnd o P → IsSomeAnd o Q → ((x : A) → P x → Q x → R x) → IsSomeAnd o R
IsSomeAnd_both None p q f = p
IsSomeAnd_both (Some x) p q f = f x p q

-- what follows from two facts of the content of a told file
pub IfTold_both : (told : Option Files) (name : List ℕ) {P Q R : List ℕ → Type 0} → IfTold told name P → IfTold told name Q
    → ((content : List ℕ) → P content → Q content → R content) → IfTold told name R
IfTold_both None name p q f = tt
IfTold_both (Some files) name p q f = IsSomeAnd_both (get files name) p q f

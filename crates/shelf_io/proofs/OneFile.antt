-- One file of a shelf, as a source and as a sink.
use Rattle.std.proofs.Common.{
  ◌≡◌,
  ℕ,
  ◌+◌,
  ◌-◌,
  ◌<◌,
  ◌≤◌,
  List,
  [],
  ◌++◌,
  Option,
  None,
  Some,
  Result,
  Ok,
  Err,
  Bool,
  true,
  false,
  true≢false,
  cond,
  IfOk,
  OnErr,
  IfSome,
  IsSome,
  IsSomeAnd,
  unwrap_or,
  length,
  take,
  drop,
  min,
  refl,
  ap,
  sym,
  subst,
  ◌∙◌,
  arith,
  append_assoc,
}
use Rattle.std.proofs.lemmas.List.{take-take, take-append-drop, drop-take, drop-drop, length-take}
use Rattle.std.proofs.lemmas.Option.{none-some, same_Some}
use Rattle.std.specs.Ordering.{nat_cmp, eq_by_cmp}
use Rattle.std.specs.Cmp.{Equal-is, eq_by_cmp_equiv}
use Rattle.std.specs.Cmp.Lexicographic.{slice_cmp, nat_list_cmp_total}
use Rattle.std.specs.FinMap.{get, insert, remove, get-insert, get-remove, same_map, slice_cmp-IsAntisymmetric, nat_cmp-IsAntisymmetric}
use Rattle.shelf_io.specs.declared.fault.Fault.{Fault}
use Rattle.shelf_io.specs.Buffer.{CopiesFront}
use Rattle.shelf_io.specs.Files.{Files, IfTold, content_of, with_more}
use Rattle.shelf_io.specs.Reading.{most_from, left_from}
use Rattle.shelf_io.specs.Counts.{ShelfCounts}
use Rattle.shelf_io.specs.Sink.{Bytes, with_bytes}
use Rattle.shelf_io.specs.Source.{without_front}
use Rattle.shelf_io.specs.declared.writing.Writing.{Writing}
use Rattle.shelf_io.specs.Writing.{written_to, others, FileIsHeld, KeepsOthers}
use Rattle.shelf_io.proofs.Whole.{chosen_twice, content_of-insert}

-- bytes that are added to a file are added to what the sink tells
pub written_to-with_more : (told : Option Files) (name bytes : List ℕ) → written_to (with_more told name bytes) name ≡ with_bytes (written_to told name) bytes
written_to-with_more None name bytes = refl
written_to-with_more (Some files) name bytes = ap Bytes (content_of-insert files name (content_of files name ++ bytes))

remove-insert : (files : Files) (name content : List ℕ) → remove (insert files name content) name ≡ remove files name
remove-insert files name content = same_map nat_list_cmp_total (slice_cmp-IsAntisymmetric nat_cmp-IsAntisymmetric) _ _ (λ q.
    get-remove nat_list_cmp_total (insert files name content) name q
    ∙ ap (cond (eq_by_cmp (slice_cmp nat_cmp) q name) None) (get-insert nat_list_cmp_total files name content q)
    ∙ chosen_twice (eq_by_cmp (slice_cmp nat_cmp) q name) None (Some content) (get files q)
    ∙ sym (get-remove nat_list_cmp_total files name q))

-- the other files stay
pub others-with_more : (told : Option Files) (name bytes : List ℕ) → others (with_more told name bytes) name ≡ others told name
others-with_more None name bytes = refl
others-with_more (Some files) name bytes = ap Some (remove-insert files name (content_of files name ++ bytes))

pub found : (o other : Option (List ℕ)) (b : Bool) (x : List ℕ) → o ≡ cond b (Some x) other → b ≡ true → IsSome o
found o other b x is same = rw (is ∙ ap (λ t. cond t (Some x) other) same) refl

-- a file to which bytes were added is held
pub FileIsHeld-with_more : (told : Option Files) (name bytes : List ℕ) → FileIsHeld (with_more told name bytes) name
FileIsHeld-with_more None name bytes = tt
FileIsHeld-with_more (Some files) name bytes = found _ _ _ _ (get-insert nat_list_cmp_total files name (content_of files name ++ bytes) name) ((eq_by_cmp_equiv nat_list_cmp_total).refl name)

one_content : (files new : Files) (name content : List ℕ) → IsSome (get new name) → remove new name ≡ remove files name → content_of new name ≡ content → new ≡ insert files name content
one_content files new name content held same is = same_map nat_list_cmp_total (slice_cmp-IsAntisymmetric nat_cmp-IsAntisymmetric) _ _ (λ q.
    at_each q (eq_by_cmp (slice_cmp nat_cmp) q name) refl ∙ sym (get-insert nat_list_cmp_total files name content q))
  where
    there : (o : Option (List ℕ)) → IsSome o → o ≡ Some (unwrap_or o [])
    there None h = absurd (true≢false (sym h))
    there (Some x) h = refl

    at_each : (q : List ℕ) (b : Bool) → eq_by_cmp (slice_cmp nat_cmp) q name ≡ b → get new q ≡ cond b (Some content) (get files q)
    at_each q true e = ap (get new) (slice_cmp-IsAntisymmetric nat_cmp-IsAntisymmetric q name ((Equal-is _).0 e)) ∙ there (get new name) held ∙ ap Some is
    at_each q false e = ap (λ b. cond b None (get new q)) (sym e) ∙ sym (get-remove nat_list_cmp_total new name q) ∙ ap (λ m. get m q) same
        ∙ get-remove nat_list_cmp_total files name q ∙ ap (λ b. cond b None (get files q)) e

content_written : (told new : Option Files) (name bytes : List ℕ) → FileIsHeld new name → others new name ≡ others told name
    → written_to new name ≡ with_bytes (written_to told name) bytes → new ≡ with_more told name bytes
content_written None None name bytes held same is = refl
content_written None (Some files) name bytes held same is = absurd (none-some _ (sym same))
content_written (Some files) None name bytes held same is = absurd (none-some _ same)
content_written (Some files) (Some new) name bytes held same is =
    let content : content_of new name ≡ content_of files name ++ bytes = cc in
    ap Some (one_content files new name (content_of files name ++ bytes) held (same_Some _ _ same) content)

-- what went through a Writing to a held file was added to its end, and every other file stays
pub writing_adds : {K : Type 0} (files : K → Option Files) (counts : K → ShelfCounts) (asked : K → List ℕ → ℕ) (old new : Writing K)
    (name bytes : List ℕ) → old.name.now ≡ name → KeepsOthers files counts asked old new → FileIsHeld (files old.shelf.now) name
    → written_to (files new.shelf.now) new.name.now ≡ with_bytes (written_to (files old.shelf.now) old.name.now) bytes
    → files new.shelf.now ≡ with_more (files old.shelf.now) name bytes
writing_adds files counts asked old new name bytes named keeps held written =
    let renamed : new.name.now ≡ name = keeps.same_name ∙ named in
    content_written (files old.shelf.now) (files new.shelf.now) name bytes
    (subst (FileIsHeld (files new.shelf.now)) renamed (keeps.still_held (subst (FileIsHeld (files old.shelf.now)) (sym named) held)))
    (ap (others (files new.shelf.now)) (sym renamed) ∙ keeps.same_others ∙ ap (others (files old.shelf.now)) named)
    (ap (written_to (files new.shelf.now)) (sym renamed) ∙ written ∙ ap (λ n. with_bytes (written_to (files old.shelf.now) n) bytes) named)

pub put_told : (r : Result ℕ Fault) (told new : Option Files) (name piece : List ℕ) → IfOk r (λ n. new ≡ with_more told name (take n piece))
    → IfOk r (λ n. written_to new name ≡ with_bytes (written_to told name) (take n piece))
put_told (Ok n) told new name piece ok = ap (λ t. written_to t name) ok ∙ written_to-with_more told name (take n piece)
put_told (Err e) told new name piece ok = tt

pub put_others : (r : Result ℕ Fault) (told new : Option Files) (name piece : List ℕ) → IfOk r (λ n. new ≡ with_more told name (take n piece))
    → OnErr r (new ≡ told) → others new name ≡ others told name
put_others (Ok n) told new name piece ok err = ap (λ t. others t name) ok ∙ others-with_more told name (take n piece)
put_others (Err e) told new name piece ok err = ap (λ t. others t name) err

pub put_held : (r : Result ℕ Fault) (told new : Option Files) (name piece : List ℕ) → IfOk r (λ n. new ≡ with_more told name (take n piece))
    → OnErr r (new ≡ told) → FileIsHeld told name → FileIsHeld new name
put_held (Ok n) told new name piece ok err held = rw ok (FileIsHeld-with_more told name (take n piece))
put_held (Err e) told new name piece ok err held = rw err held

-- a list is the rest of its front, and what is behind the front
seam : (xs : List ℕ) (n size : ℕ) → n ≤ size → drop n (take size xs) ++ drop size xs ≡ drop n xs
seam xs n size h =
    let parts : size ≡ n + (size - n) = omega arith in
    ap (λ s. drop n (take s xs) ++ drop s xs) parts
    ∙ ap (λ front. front ++ drop (n + (size - n)) xs) (drop-take n (size - n) xs)
    ∙ ap (λ back. take (size - n) (drop n xs) ++ back) (sym (drop-drop (size - n) n xs))
    ∙ take-append-drop (size - n) (drop n xs)

-- what went to the front of a part of a buffer went to the front of the buffer
pub fills_part : (rest buf room after : List ℕ) (m size n : ℕ) → size ≡ min (length buf) m → n ≤ size → after ≡ room ++ drop size buf
    → CopiesFront rest (take size buf) room n → CopiesFront (take m rest) buf after n
fills_part rest buf room after m size n is few joined fills =
    let front : take n (take m rest) ≡ take n rest = take-take n m rest (omega arith) in
    record {
      front = joined ∙ ap (λ r. r ++ drop size buf) fills.front ∙ append_assoc (take n rest) _ _ ∙ ap (λ back. take n rest ++ back) (seam buf n size few) ∙ ap (λ f. f ++ drop n buf) (sym front);
      within = simp length-take (within fills.within);
      progress = λ holds left. fills.progress (simp length-take (holding is holds (simp length-take at left))) (some_left (simp length-take at left));
    }
  where
    within : n ≤ length rest → n ≤ min m (length rest)
    within h = omega arith

    holding : size ≡ min (length buf) m → 0 < length buf → 0 < min m (length rest) → 0 < min size (length buf)
    holding is holds left = omega arith

    some_left : 0 < min m (length rest) → 0 < length rest
    some_left h = omega arith

pub content_holds : (P : List ℕ → Type 0) (o : Option (List ℕ)) → IsSomeAnd o P → P (unwrap_or o [])
content_holds P None h = absurd h
content_holds P (Some content) h = h

-- a read of a part of the buffer takes from what is left of the file
pub reading_fills : (told : Option Files) (name buf room after : List ℕ) (place size n : ℕ) → size ≡ min (length buf) (most_from place) → n ≤ size
    → after ≡ room ++ drop size buf → IfTold told name (λ content. CopiesFront (drop place content) (take size buf) room n)
    → IfSome (left_from told name place) (λ bytes. CopiesFront bytes buf after n)
reading_fills None name buf room after place size n is few joined held = tt
reading_fills (Some files) name buf room after place size n is few joined held =
    fills_part (drop place (content_of files name)) buf room after (most_from place) size n is few joined
    (content_holds (λ content. CopiesFront (drop place content) (take size buf) room n) (get files name) held)

later : (content : List ℕ) (place n : ℕ) → n ≤ most_from place → take (most_from (place + n)) (drop (place + n) content) ≡ drop n (take (most_from place) (drop place content))
later content place n h =
    let parts : most_from place ≡ n + most_from (place + n) = omega arith in
    ap (take (most_from (place + n))) (sym (drop-drop n place content))
    ∙ sym (drop-take n (most_from (place + n)) (drop place content))
    ∙ ap (λ m. drop n (take m (drop place content))) (sym parts)

-- after n bytes were taken, those behind them are left
pub left_later : (told : Option Files) (name : List ℕ) (place n : ℕ) → n ≤ most_from place → left_from told name (place + n) ≡ without_front (left_from told name place) n
left_later None name place n h = refl
left_later (Some files) name place n h = ap Some (later (content_of files name) place n h)

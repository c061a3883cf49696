-- Bytes that pass from a source through a buffer.
use Rattle.std.proofs.Common.{
  ◌≡◌,
  ℕ,
  ◌+◌,
  ◌-◌,
  ◌<◌,
  ◌≤◌,
  List,
  [],
  ◌∷◌,
  ◌++◌,
  Option,
  None,
  Some,
  IfSome,
  length,
  take,
  drop,
  refl,
  sym,
  ap,
  ◌∙◌,
  subst,
  arith,
  append_assoc,
  length-append,
  length-drop,
  length-take-le,
  append-nil,
}
use borrow.Rule.Slice.PartMut.{put_mid, post_of}
use lib.Seq.{paste}
use Rattle.std.proofs.Math.Seq.{take-add, take-append-add}
use Rattle.std.proofs.lemmas.List.{take_at, drop-append-le, drop-drop, drop-take, take-append-le, length-take}
use Rattle.std.proofs.lemmas.List.Edits.{take-paste}
use Rattle.shelf_io.specs.Buffer.{CopiesFront}
use Rattle.shelf_io.specs.Source.{Takes, without_front}
use Rattle.shelf_io.proofs.Taken.{takes_twice}
use Rattle.ts_demux.specs.PacketBuffer.{IsTakenFrom, Passes, IsAtEnd}

-- some bytes and then more
pub taken_twice : (left mid after : Option (List ℕ)) (most most_mid most_after : ℕ) (xs ys : List ℕ) → IsTakenFrom left mid most most_mid xs
    → IsTakenFrom mid after most_mid most_after ys → IsTakenFrom left after most most_after (xs ++ ys)
taken_twice left mid after most most_mid most_after xs ys first then = record {
  takes = rw (length-append xs ys) (takes_twice left mid after most most_mid most_after (length xs) (length ys) first.takes then.takes);
  told = by_left left first.takes.rest first.told;
}
  where
    by_left : (told : Option (List ℕ)) → mid ≡ without_front told (length xs) → IfSome told (λ whole. take (length xs) whole ≡ xs)
        → IfSome told (λ whole. take (length (xs ++ ys)) whole ≡ xs ++ ys)
    by_left None is front = tt
    by_left (Some whole) is front =
        let behind : take (length ys) (drop (length xs) whole) ≡ ys = subst (λ (told : Option (List ℕ)). IfSome told (λ w. take (length ys) w ≡ ys)) is then.told in
        ap (λ (n : ℕ). take n whole) (length-append xs ys) ∙ take-add (length xs) (length ys) whole
        ∙ ap (λ (zs : List ℕ). zs ++ take (length ys) (drop (length xs) whole)) front ∙ ap (λ (zs : List ℕ). xs ++ zs) behind

-- nothing passes
pub passes_none : (left : Option (List ℕ)) (most : ℕ) (held : List ℕ) → Passes left left most most held [] held
passes_none left most held = record {
  bytes = [];
  taken = record { takes = record { rest = same left; fewer = omega arith }; told = none left };
  in_order = append-nil held;
}
  where
    same : (told : Option (List ℕ)) → told ≡ without_front told 0
    same None = refl
    same (Some whole) = refl

    none : (told : Option (List ℕ)) → IfSome told (λ whole. take 0 whole ≡ [])
    none None = tt
    none (Some whole) = refl

-- what passes in two parts
pub passes_twice : (left mid after : Option (List ℕ)) (most most_mid most_after : ℕ) (held given between more held_after : List ℕ)
    → Passes left mid most most_mid held given between → Passes mid after most_mid most_after between more held_after →
    Passes left after most most_after held (given ++ more) held_after
passes_twice left mid after most most_mid most_after held given between more held_after first then = record {
  bytes = first.bytes ++ then.bytes;
  taken = taken_twice left mid after most most_mid most_after first.bytes then.bytes first.taken then.taken;
  in_order = sym (append_assoc held first.bytes then.bytes) ∙ ap (λ (zs : List ℕ). zs ++ then.bytes) first.in_order
      ∙ append_assoc given between then.bytes ∙ ap (λ (zs : List ℕ). given ++ zs) then.in_order ∙ sym (append_assoc given more held_after);
}

-- what was held is given, without the source
pub passes_held : (left after : Option (List ℕ)) (most most_after : ℕ) (held between given held_after : List ℕ)
    → Passes left after most most_after held [] between → between ≡ given ++ held_after → Passes left after most most_after held given held_after
passes_held left after most most_after held between given held_after passes is = record {
  bytes = passes.bytes;
  taken = passes.taken;
  in_order = passes.in_order ∙ is;
}

-- ---- a call of the source

-- bytes that were taken into a room, of which `count` are new
pub taken_once : (left after : Option (List ℕ)) (most most_after : ℕ) (old new : List ℕ) (count : ℕ) → count ≤ length new
    → Takes left after most most_after count → IfSome left (λ whole. CopiesFront whole old new count) → IsTakenFrom left after most most_after (take count new)
taken_once left after most most_after old new count few takes told =
    let size : length (take count new) ≡ count = length-take-le count new few in
    record {
      takes = rw size takes;
      told = by_left left told;
    }
  where
    by_left : (told : Option (List ℕ)) → IfSome told (λ whole. CopiesFront whole old new count) → IfSome told (λ whole. take (length (take count new)) whole ≡ take count new)
    by_left None is = tt
    by_left (Some whole) is =
        let here : length (take count whole) ≡ count = length-take-le count whole is.within in
        rw (length-take-le count new few) (sym (ap (take count) is.front ∙ take_at (take count whole) (drop count old) count here))

-- where a call gave nothing into a room that has some, nothing is left
pub at_end : (left after : Option (List ℕ)) (most most_after : ℕ) (old new : List ℕ) → 0 < length old
    → Takes left after most most_after 0 → IfSome left (λ whole. CopiesFront whole old new 0) → IsAtEnd after
at_end left after most most_after old new room takes told = by_left left takes.rest told
  where
    by_whole : (whole : List ℕ) → (0 < length old → 0 < length whole → 0 < 0) → whole ≡ []
    by_whole [] progress = refl
    by_whole (x ∷ xs) progress = let none : 0 < 0 = progress room (omega arith) in absurd (omega arith)

    by_left : (told : Option (List ℕ)) → after ≡ without_front told 0 → IfSome told (λ whole. CopiesFront whole old new 0) → IsAtEnd after
    by_left None is fills = subst (λ (t : Option (List ℕ)). IsAtEnd t) (sym is) tt
    by_left (Some whole) is fills = subst (λ (t : Option (List ℕ)). IsAtEnd t) (sym is) (by_whole whole fills.progress)

-- ---- a room

-- a room after the first bytes of what it holds were passed over
pub passed_over : (items : List ℕ) (from to n : ℕ) → n ≤ to - from → take (to - (from + n)) (drop (from + n) items) ≡ drop n (take (to - from) (drop from items))
passed_over items from to n some =
    let count : to - from ≡ n + (to - (from + n)) = omega arith in
    sym (ap (λ (k : ℕ). drop n (take k (drop from items))) count ∙ drop-take n (to - (from + n)) (drop from items)
    ∙ ap (take (to - (from + n))) (drop-drop n from items))

-- how many bytes it holds at least
pub held_size : (items held : List ℕ) (from to n : ℕ) → take (to - from) (drop from items) ≡ held → n ≤ length held → n ≤ to - from
held_size items held from to n is some = omega (arith, some, ap length is, length-take (to - from) (drop from items))

-- a room whose part that is held was moved to its front
pub moved : (room all : List ℕ) (from to : ℕ) → from ≤ to → to ≤ length room → all ≡ paste room 0 (drop from room) (to - from)
    → take (to - from) (drop 0 all) ≡ take (to - from) (drop from room)
moved room all from to order within is =
    let left = to - from in
    let long : left ≤ length (drop from room) = omega (arith, length-drop from room) in
    let zero : left ≡ 0 + left = omega arith in
    ap (take left) is ∙ ap (λ (k : ℕ). take k (paste room 0 (drop from room) left)) zero ∙ take-paste room 0 (drop from room) left (omega arith) long

-- a room that holds bytes from a place up to another, and `count` bytes came behind them
pub held_more : (items room part : List ℕ) (from at free count : ℕ) → items ≡ put_mid at free room part → from ≤ at → at ≤ length room → count ≤ length part →
    take (at + count - from) (drop from items) ≡ take (at - from) (drop from room) ++ take count part
held_more items room part from at free count is order within few =
    let left = at - from in
    let behind : List ℕ = part ++ post_of at free room in
    let held = take left (drop from room) in
    let front : drop from (take at room ++ behind) ≡ held ++ behind =
    drop-append-le from (take at room) behind (omega (arith, length-take-le at room within, order))
    ∙ ap (λ (xs : List ℕ). xs ++ behind) (ap (λ (k : ℕ). drop from (take k room)) (omega arith) ∙ drop-take from left room) in
    let size : length held ≡ left = length-take-le left (drop from room) (omega (arith, length-drop from room)) in
    let all : at + count - from ≡ length held + count = omega (arith, size, order) in
    ap (λ (xs : List ℕ). take (at + count - from) (drop from xs)) is ∙ ap (take (at + count - from)) front ∙ ap (λ (k : ℕ). take k (held ++ behind)) all
    ∙ take-append-add held behind count ∙ ap (λ (xs : List ℕ). held ++ xs) (take-append-le count part (post_of at free room) few)

-- the same where the bytes were held in a room as it was before they moved
pub held_there : (items room now all part held : List ℕ) (from to place free count : ℕ) → items ≡ put_mid (place + (to - from)) free all part → all ≡ now → length now ≡ length room
    → take (to - from) (drop place now) ≡ take (to - from) (drop from room) → place ≤ from → from ≤ to → to ≤ length room → count ≤ length part → take (to - from) (drop from room) ≡ held →
    take (place + (to - from) + count - place) (drop place items) ≡ held ++ take count part
held_there items room now all part held from to place free count is same size moved before order within few was =
    let at = place + (to - from) in
    held_more items all part place at free count is (omega arith) (omega (arith, ap length same, size, before, order, within)) few
    ∙ ap (λ (xs : List ℕ). xs ++ take count part)
    (ap (λ (k : ℕ). take k (drop place all)) (omega arith) ∙ ap (λ (xs : List ℕ). take (to - from) (drop place xs)) same ∙ moved ∙ was)

-- and where none came
pub held_still : (items room now all part held : List ℕ) (from to place free : ℕ) → items ≡ put_mid (place + (to - from)) free all part → all ≡ now → length now ≡ length room
    → take (to - from) (drop place now) ≡ take (to - from) (drop from room) → place ≤ from → from ≤ to → to ≤ length room → take (to - from) (drop from room) ≡ held →
    take (place + (to - from) - place) (drop place items) ≡ held
held_still items room now all part held from to place free is same size moved before order within was =
    ap (λ (k : ℕ). take k (drop place items)) (omega arith) ∙ held_there items room now all part held from to place free 0 is same size moved before order within (omega arith) was ∙ append-nil held

-- a call of the source that takes into the room behind what is held
pub passes_more : (left after : Option (List ℕ)) (most most_after : ℕ) (held old new held_after : List ℕ) (count : ℕ) → count ≤ length new
    → Takes left after most most_after count → IfSome left (λ whole. CopiesFront whole old new count) → held_after ≡ held ++ take count new
    → Passes left after most most_after held [] held_after
passes_more left after most most_after held old new held_after count few takes told is = record {
  bytes = take count new;
  taken = taken_once left after most most_after old new count few takes told;
  in_order = sym is;
}

-- a call of the source that takes nothing
pub passes_still : (left after : Option (List ℕ)) (most most_after : ℕ) (held held_after : List ℕ) → (after ≡ left) × (most_after ≡ most) → held_after ≡ held
    → Passes left after most most_after held [] held_after
unfolding passes_none
passes_still left after most most_after held held_after same is =
    let none = passes_none left most held in
    record {
      bytes = [];
      taken = subst (λ (a : Option (List ℕ)). IsTakenFrom left a most most_after []) (sym same.0) (subst (λ (m : ℕ). IsTakenFrom left left most m []) (sym same.1) none.taken);
      in_order = none.in_order ∙ sym is;
    }

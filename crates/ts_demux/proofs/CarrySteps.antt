-- The streams that are carried, one stream further.
use Rattle.std.proofs.Common.{
  ◌≡◌,
  ℕ,
  zero,
  suc,
  ◌+◌,
  ◌<◌,
  ◌≤◌,
  ◌==◌,
  Bool,
  true,
  false,
  cond,
  ◌||◌,
  List,
  [],
  ◌∷◌,
  ◌++◌,
  length,
  take,
  drop,
  get_or,
  Some,
  None,
  refl,
  sym,
  ap,
  ◌∙◌,
  append_assoc,
  arith,
}
use Rattle.std.proofs.lemmas.Bool.Decides.{nat_tests}
use Rattle.std.proofs.lemmas.List.{map-append, append-nil}
use Rattle.std.specs.List.{remove}
use Rattle.psi_tables.specs.declared.stream.Stream.{Stream}
use Rattle.ts_demux.specs.Streams.{is_among, is_video, is_carried, video_of, without_video, audios_of, others_of}
use Rattle.ts_demux.specs.Private.CarriedStreams.{pids_in, IsVideoAt}

-- ---- the first video stream

drop_next : (xs : List Stream) (i : ℕ) (d : Stream) → i < length xs → drop i xs ≡ get_or xs i d ∷ drop (i + 1) xs
drop_next [] i d within = absurd (omega arith)
drop_next (x ∷ xs) zero d within = refl
drop_next (x ∷ xs) (suc i) d within = drop_next xs i d (omega arith) ∙ ap (λ (n : ℕ). get_or xs i d ∷ drop n (x ∷ xs)) (more i)
  where
    more : (n : ℕ) → suc (n + 1) ≡ suc n + 1
    more n = omega arith

take_next : (xs : List Stream) (i : ℕ) (d : Stream) → i < length xs → take (i + 1) xs ≡ take i xs ++ get_or xs i d ∷ []
take_next [] i d within = absurd (omega arith)
take_next (x ∷ xs) zero d within = refl
take_next (x ∷ xs) (suc i) d within = ap (λ (n : ℕ). take n (x ∷ xs)) (more i) ∙ ap (λ (ys : List Stream). x ∷ ys) (take_next xs i d (omega arith))
  where
    more : (n : ℕ) → suc n + 1 ≡ suc (n + 1)
    more n = omega arith

drop_end : (xs : List Stream) (i : ℕ) → length xs ≤ i → drop i xs ≡ []
drop_end [] zero end = refl
drop_end [] (suc i) end = refl
drop_end (x ∷ xs) zero end = absurd (omega arith)
drop_end (x ∷ xs) (suc i) end = drop_end xs i (omega arith)

-- the first streams aren't video
pub record NoVideoBefore (xs : List Stream) (i : ℕ) : Type 0 where
  pub video : video_of xs ≡ video_of (drop i xs)
  pub others : without_video xs ≡ take i xs ++ without_video (drop i xs)

pub no_video_more : (xs : List Stream) (i : ℕ) (d : Stream) → i < length xs → is_video (get_or xs i d) ≡ false → NoVideoBefore xs i → NoVideoBefore xs (i + 1)
no_video_more xs i d within test before =
    let next = drop_next xs i d within in
    record {
      video = before.video ∙ ap video_of next ∙ ap (λ (b : Bool). cond b (Some (get_or xs i d)) (video_of (drop (i + 1) xs))) test;
      others = before.others ∙ ap (λ (ys : List Stream). take i xs ++ without_video ys) next
          ∙ ap (λ (b : Bool). take i xs ++ cond b (drop (i + 1) xs) (get_or xs i d ∷ without_video (drop (i + 1) xs))) test
          ∙ sym (append_assoc (take i xs) (get_or xs i d ∷ []) (without_video (drop (i + 1) xs)))
          ∙ ap (λ (ys : List Stream). ys ++ without_video (drop (i + 1) xs)) (sym (take_next xs i d within));
    }

same_there : (xs : List Stream) (i : ℕ) (d e : Stream) → i < length xs → get_or xs i e ≡ get_or xs i d
same_there [] i d e within = absurd (omega arith)
same_there (x ∷ xs) zero d e within = refl
same_there (x ∷ xs) (suc i) d e within = same_there xs i d e (omega arith)

pub video_here : (xs : List Stream) (i : ℕ) (d : Stream) → i < length xs → is_video (get_or xs i d) ≡ true → NoVideoBefore xs i → IsVideoAt xs i
video_here xs i d within test before =
    let next = drop_next xs i d within in
    record {
      within = within;
      video = λ e. before.video ∙ ap video_of (drop_next xs i e within)
          ∙ ap (λ (b : Bool). cond b (Some (get_or xs i e)) (video_of (drop (i + 1) xs))) (ap is_video (same_there xs i d e within) ∙ test);
      others = before.others ∙ ap (λ (ys : List Stream). take i xs ++ without_video ys) next
          ∙ ap (λ (b : Bool). take i xs ++ cond b (drop (i + 1) xs) (get_or xs i d ∷ without_video (drop (i + 1) xs))) test
          ∙ ap (λ (n : ℕ). take i xs ++ drop n xs) (next_is i);
    }
  where
    next_is : (n : ℕ) → n + 1 ≡ suc n
    next_is n = omega arith

pub no_video : (xs : List Stream) (i : ℕ) → length xs ≤ i → NoVideoBefore xs i → video_of xs ≡ None
no_video xs i end before = before.video ∙ ap video_of (drop_end xs i end)

-- ---- a PID among those of streams

pub among_more : (xs : List Stream) (pid i : ℕ) (d : Stream) → i < length xs → ((get_or xs i d).pid == pid) ≡ false → is_among (pids_in xs) pid ≡ is_among (pids_in (drop i xs)) pid →
    is_among (pids_in xs) pid ≡ is_among (pids_in (drop (i + 1) xs)) pid
among_more xs pid i d within test same = same ∙ ap (λ (ys : List Stream). is_among (pids_in ys) pid) (drop_next xs i d within) ∙ ap (λ (b : Bool). b || is_among (pids_in (drop (i + 1) xs)) pid) test

pub among_here : (xs : List Stream) (pid i : ℕ) (d : Stream) → i < length xs → ((get_or xs i d).pid == pid) ≡ true → is_among (pids_in xs) pid ≡ is_among (pids_in (drop i xs)) pid →
    is_among (pids_in xs) pid ≡ true
among_here xs pid i d within test same = same ∙ ap (λ (ys : List Stream). is_among (pids_in ys) pid) (drop_next xs i d within) ∙ ap (λ (b : Bool). b || is_among (pids_in (drop (i + 1) xs)) pid) test

pub among_none : (xs : List Stream) (pid i : ℕ) → length xs ≤ i → is_among (pids_in xs) pid ≡ is_among (pids_in (drop i xs)) pid → is_among (pids_in xs) pid ≡ false
among_none xs pid i end same = same ∙ ap (λ (ys : List Stream). is_among (pids_in ys) pid) (drop_end xs i end)

-- ---- the audio streams

pub first_removed : (xs : List Stream) (s : Stream) → 0 < length xs → s ≡ get_or xs 0 s → xs ≡ s ∷ remove xs 0
first_removed [] s some is = absurd (omega arith)
first_removed (x ∷ xs) s some is = ap (λ (y : Stream). y ∷ xs) (sym is)

pids_more : (carried : List Stream) (s : Stream) → pids_in (carried ++ s ∷ []) ≡ pids_in carried ++ s.pid ∷ []
pids_more carried s = map-append (λ (stream : Stream). stream.pid) carried (s ∷ [])

pub carries : (drop_pids : List ℕ) (carried streams rest all : List Stream) (s : Stream) → streams ≡ s ∷ rest → is_carried drop_pids (pids_in carried) s ≡ true →
    carried ++ audios_of drop_pids (pids_in carried) streams ≡ all → (carried ++ s ∷ []) ++ audios_of drop_pids (pids_in (carried ++ s ∷ [])) rest ≡ all
carries drop_pids carried streams rest all s is test same =
    let one : audios_of drop_pids (pids_in carried) streams ≡ s ∷ audios_of drop_pids (pids_in carried ++ s.pid ∷ []) rest =
    ap (audios_of drop_pids (pids_in carried)) is ∙ ap (λ (b : Bool). cond b (s ∷ audios_of drop_pids (pids_in carried ++ s.pid ∷ []) rest) (audios_of drop_pids (pids_in carried) rest)) test in
    append_assoc carried (s ∷ []) (audios_of drop_pids (pids_in (carried ++ s ∷ [])) rest)
    ∙ ap (λ (pids : List ℕ). carried ++ s ∷ audios_of drop_pids pids rest) (pids_more carried s)
    ∙ ap (λ (xs : List Stream). carried ++ xs) (sym one) ∙ same

pub carries_others : (drop_pids : List ℕ) (carried streams rest : List Stream) (others all : List ℕ) (s : Stream) → streams ≡ s ∷ rest → is_carried drop_pids (pids_in carried) s ≡ true →
    others ++ others_of drop_pids (pids_in carried) streams ≡ all → others ++ others_of drop_pids (pids_in (carried ++ s ∷ [])) rest ≡ all
carries_others drop_pids carried streams rest others all s is test same =
    let one : others_of drop_pids (pids_in carried) streams ≡ others_of drop_pids (pids_in carried ++ s.pid ∷ []) rest =
    ap (others_of drop_pids (pids_in carried)) is ∙ ap (λ (b : Bool). cond b (others_of drop_pids (pids_in carried ++ s.pid ∷ []) rest) (s.pid ∷ others_of drop_pids (pids_in carried) rest)) test in
    ap (λ (pids : List ℕ). others ++ others_of drop_pids pids rest) (pids_more carried s) ∙ ap (λ (xs : List ℕ). others ++ xs) (sym one) ∙ same

pub passes : (drop_pids : List ℕ) (carried streams rest all : List Stream) (s : Stream) → streams ≡ s ∷ rest → is_carried drop_pids (pids_in carried) s ≡ false →
    carried ++ audios_of drop_pids (pids_in carried) streams ≡ all → carried ++ audios_of drop_pids (pids_in carried) rest ≡ all
passes drop_pids carried streams rest all s is test same =
    let one : audios_of drop_pids (pids_in carried) streams ≡ audios_of drop_pids (pids_in carried) rest =
    ap (audios_of drop_pids (pids_in carried)) is ∙ ap (λ (b : Bool). cond b (s ∷ audios_of drop_pids (pids_in carried ++ s.pid ∷ []) rest) (audios_of drop_pids (pids_in carried) rest)) test in
    ap (λ (xs : List Stream). carried ++ xs) (sym one) ∙ same

pub passes_others : (drop_pids : List ℕ) (carried streams rest : List Stream) (others all : List ℕ) (s : Stream) → streams ≡ s ∷ rest → is_carried drop_pids (pids_in carried) s ≡ false →
    others ++ others_of drop_pids (pids_in carried) streams ≡ all → (others ++ s.pid ∷ []) ++ others_of drop_pids (pids_in carried) rest ≡ all
passes_others drop_pids carried streams rest others all s is test same =
    let one : others_of drop_pids (pids_in carried) streams ≡ s.pid ∷ others_of drop_pids (pids_in carried) rest =
    ap (others_of drop_pids (pids_in carried)) is ∙ ap (λ (b : Bool). cond b (others_of drop_pids (pids_in carried ++ s.pid ∷ []) rest) (s.pid ∷ others_of drop_pids (pids_in carried) rest)) test in
    append_assoc others (s.pid ∷ []) (others_of drop_pids (pids_in carried) rest) ∙ ap (λ (xs : List ℕ). others ++ xs) (sym one) ∙ same

pub all_carried : (drop_pids : List ℕ) (carried streams all : List Stream) → length streams ≡ 0 → carried ++ audios_of drop_pids (pids_in carried) streams ≡ all → carried ≡ all
all_carried drop_pids carried [] all none same = sym (append-nil carried) ∙ same
all_carried drop_pids carried (s ∷ streams) all none same = absurd (omega arith)

pub all_others : (drop_pids : List ℕ) (carried streams : List Stream) (others all : List ℕ) → length streams ≡ 0 → others ++ others_of drop_pids (pids_in carried) streams ≡ all → others ≡ all
all_others drop_pids carried [] others all none same = sym (append-nil others) ∙ same
all_others drop_pids carried (s ∷ streams) others all none same = absurd (omega arith)

-- one of some streams is taken off
pub fewer : (xs : List Stream) (n : ℕ) → 0 < length xs → length xs ≡ n → length (remove xs 0) + 1 ≡ n
fewer [] n some is = absurd (omega arith)
fewer (x ∷ xs) n some is = omega arith

pub some_there : (n : ℕ) → (n == 0) ≡ false → 0 < n
some_there n is = grind (arith, nat_tests)

pub none_left : (n : ℕ) → (n == 0) ≡ true → n ≡ 0
none_left n is = grind (arith, nat_tests)

-- behind the video alone
pub carried_behind : (drop_pids : List ℕ) (carried : List Stream) (video : Stream) (rest others : List Stream) → carried ≡ video ∷ [] → rest ≡ others →
    carried ++ audios_of drop_pids (pids_in carried) rest ≡ video ∷ audios_of drop_pids (video.pid ∷ []) others
carried_behind drop_pids carried video rest others is same =
    ap (λ (xs : List Stream). xs ++ audios_of drop_pids (pids_in xs) rest) is ∙ ap (λ (xs : List Stream). video ∷ audios_of drop_pids (video.pid ∷ []) xs) same

pub others_behind : (drop_pids : List ℕ) (carried : List Stream) (video : Stream) (rest others : List Stream) → carried ≡ video ∷ [] → rest ≡ others →
    others_of drop_pids (pids_in carried) rest ≡ others_of drop_pids (video.pid ∷ []) others
others_behind drop_pids carried video rest others is same = ap (λ (xs : List Stream). others_of drop_pids (pids_in xs) rest) is ∙ ap (others_of drop_pids (video.pid ∷ [])) same

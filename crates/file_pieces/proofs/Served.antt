-- What calls for pieces do to a shelf.
use Rattle.std.proofs.Common.{◌≡◌, ◌⊎◌, inl, inr, ℕ, ◌<◌, ◌≤◌, max, Bool, true, false, List, [], length, map, get_or, Contains, Option, Some, None, refl, ap, subst, sym, ◌∙◌, arith}
use Rattle.std.specs.Bool.{Decides}
use Rattle.std.specs.Option.{option_map, option_map_or}
use Rattle.std.specs.Str.{bytes_eq}
use Rattle.std.proofs.lemmas.Bool.Decides.{nat_tests}
use Rattle.std.proofs.lemmas.List.{get_or-map, length-map}
use Rattle.std.proofs.lemmas.Slice.Eq.{bytes_eq-Decides}
use Rattle.shelf_io.specs.declared.fault.Fault.TheVariants as faults
use Rattle.shelf_io.specs.Asked.{AsksUpTo}
use Rattle.shelf_io.specs.Counts.{Rose, ShelfCounts, one_more}
use Rattle.shelf_io.specs.Files.{Files, Lacks}
use Rattle.file_pass.specs.FilePass.{Raises, SameReads, StopsAs}
use Rattle.file_pieces.specs.declared.again_fault.AgainFault.{AgainFault}
use Rattle.file_pieces.specs.declared.again_fault.AgainFault.TheVariants.{Failed, Missing, Changed, OutOfMemory}
use Rattle.file_pieces.specs.declared.kept_pieces.PiecesStop.{PiecesStop}
use Rattle.file_pieces.specs.declared.lane.Lane.{Lane}
use Rattle.file_pieces.specs.declared.limits.TheConstants.{READ_MOST}
use Rattle.file_pieces.specs.FilePieces.{HasServed, lane_name, name_at}
use Rattle.file_pieces.specs.Private.Calls.{counts_behind, stop_for}
use Rattle.file_pieces.specs.Reads.{ReadsFile}
use Rattle.file_pieces.proofs.Lanes.{name_is}
use Rattle.file_pieces.proofs.ReadsLemmas.{rose_from}
use Rattle.shelf_io.proofs.Counted.{rose_by_one}

-- ---- what is asked

-- no file but some was asked for bytes, and these for none behind the limit
abbrev pub AsksOf : (names : List (List ℕ)) → (old new : List ℕ → ℕ) → (name : List ℕ) → Type 0
AsksOf names old new name = (new name ≤ old name) ⊎ (Contains names name × (new name ≤ max (old name) READ_MOST))

asks_as : (names : List (List ℕ)) (file name : List ℕ) (is : Bool) → Decides is (name ≡ file) → (old new : List ℕ → ℕ) → Contains names file → AsksUpTo file READ_MOST old new → AsksOf names old new name
asks_as names file name true same old new stands asks =
    let e : name ≡ file = same.0 refl in
    inr (subst (λ (n : List ℕ). Contains names n) (sym e) stands, subst (λ (n : List ℕ). new n ≤ max (old n) READ_MOST) (sym e) asks.here)
asks_as names file name false same old new stands asks = inl (asks.others name (λ e. let wrong : false ≡ true = same.1 e in cc))

lane_stands : (lanes : List Lane) (stream : ℕ) (lane : Lane) → lane ≡ get_or lanes stream lane → stream < length lanes → Contains (map lane_name lanes) (lane_name lane)
lane_stands lanes stream lane is within =
    let count : length (map lane_name lanes) ≡ length lanes = length-map lanes lane_name in
    (stream, omega (arith, count, within), get_or-map lane_name lanes stream lane (lane_name lane) within ∙ ap lane_name (sym is))

-- ---- a call

grows_by_one : (n : ℕ) → n ≤ one_more n
grows_by_one n = grind (arith, nat_tests)

-- how the pieces are stopped
stopped : (stream : ℕ) (fault : AgainFault) (name : List ℕ) (told : Option Files) (first old new : ShelfCounts) (since_mid since : ℕ)
    → (fault ≡ Failed → Raises first.faults old.faults first.absences old.absences since_mid)
    → (fault ≡ Missing → Lacks told name × Raises first.absences old.absences first.faults old.faults since_mid)
    → ((fault ≡ Failed → ⊥) → (fault ≡ Missing → ⊥) → SameReads first old)
    → new ≡ counts_behind fault old → (fault ≡ Changed → since ≡ 0) → ((fault ≡ Changed → ⊥) → since ≡ since_mid)
    → StopsAs (option_map (λ s. s.fault) (stop_for stream fault None)) told name first new since
stopped stream Failed name told first old new since_mid since failed missing other counts changed stays =
    let e = failed refl in
    let rest : since ≡ since_mid = stays (λ bad. let no_change : Failed ≡ Changed = bad in cc) in
    subst (λ (c : ShelfCounts). StopsAs (Some faults.Failed) told name first c since) (sym counts) (record { rose = e.rose; grows = e.grows; same_other = e.same_other; last = rest ∙ e.last })
stopped stream Missing name told first old new since_mid since failed missing other counts changed stays =
    let e = missing refl in
    let rest : since ≡ since_mid = stays (λ bad. let no_change : Missing ≡ Changed = bad in cc) in
    subst (λ (c : ShelfCounts). StopsAs (Some faults.Missing) told name first c since) (sym counts) (e.0, record { rose = e.1.rose; grows = e.1.grows; same_other = e.1.same_other; last = rest ∙ e.1.last })
stopped stream Changed name told first old new since_mid since failed missing other counts changed stays =
    let same = other (λ bad. let a : Changed ≡ Failed = bad in cc) (λ bad. let a : Changed ≡ Missing = bad in cc) in
    subst (λ (c : ShelfCounts). StopsAs (Some faults.Failed) told name first c since) (sym counts)
    (record {
      rose = rose_from first.faults old.faults (one_more old.faults) same.same_faults (rose_by_one old.faults);
      grows = let more = grows_by_one old.faults in omega (arith, same.same_faults, more);
      same_other = same.same_absences;
      last = changed refl;
    })
stopped stream OutOfMemory name told first old new since_mid since failed missing other counts changed stays =
    let same = other (λ bad. let a : OutOfMemory ≡ Failed = bad in cc) (λ bad. let a : OutOfMemory ≡ Missing = bad in cc) in
    subst (λ (c : ShelfCounts). SameReads first c) (sym counts) same

stop_name : (lanes : List Lane) (stream : ℕ) (fault : AgainFault) (lane : Lane) (told : Option Files) (first new : ShelfCounts) (since : ℕ) → lane ≡ get_or lanes stream lane
    → stream < length lanes → StopsAs (option_map (λ s. s.fault) (stop_for stream fault None)) told (lane_name lane) first new since
    → StopsAs (option_map (λ s. s.fault) (stop_for stream fault None)) told (option_map_or (λ s. name_at lanes s.stream) (stop_for stream fault None) []) first new since
stop_name lanes stream Failed lane told first new since is within stops = stops
stop_name lanes stream Missing lane told first new since is within stops =
    let named : name_at lanes stream ≡ lane_name lane = name_is lanes stream lane within ∙ ap lane_name (sym is) in
    subst (λ (n : List ℕ). StopsAs (Some faults.Missing) told n first new since) (sym named) stops
stop_name lanes stream Changed lane told first new since is within stops = stops
stop_name lanes stream OutOfMemory lane told first new since is within stops = stops

counts_writes : (fault : AgainFault) (counts : ShelfCounts) → (counts_behind fault counts).write_faults ≡ counts.write_faults
counts_writes Failed counts = refl
counts_writes Missing counts = refl
counts_writes Changed counts = refl
counts_writes OutOfMemory counts = refl

-- a call that a fault ended
pub ends_served : (lanes : List Lane) (stream : ℕ) (fault : AgainFault) (stop : Option PiecesStop) (lane : Lane) (told mid last : Option Files) (first old new : ShelfCounts) (since_mid since : ℕ)
    (asked asked_mid asked_after : List ℕ → ℕ) → stop ≡ stop_for stream fault None → lane ≡ get_or lanes stream lane → stream < length lanes
    → ReadsFile (lane_name lane) (fault ≡ Failed) (fault ≡ Missing) told mid first old since_mid asked asked_mid
    → last ≡ mid → new ≡ counts_behind fault old → asked_after ≡ asked_mid → (fault ≡ Changed → since ≡ 0) → ((fault ≡ Changed → ⊥) → since ≡ since_mid)
    → HasServed lanes stop told last first new since asked asked_after
ends_served lanes stream fault stop lane told mid last first old new since_mid since asked asked_mid asked_after stop_is is within reads files counts asks changed stays =
    subst (λ (s : Option PiecesStop). HasServed lanes s told last first new since asked asked_after) (sym stop_is) (record {
      same_files = files ∙ reads.same_files;
      same_write_faults = ap (λ (c : ShelfCounts). c.write_faults) counts ∙ counts_writes fault old ∙ reads.same_write_faults;
      asks = λ name. subst (λ (a : List ℕ → ℕ). AsksOf (map lane_name lanes) asked a name) (sym asks)
          (asks_as (map lane_name lanes) (lane_name lane) name (bytes_eq name (lane_name lane)) (bytes_eq-Decides name (lane_name lane))
          asked asked_mid (lane_stands lanes stream lane is within) reads.asks);
      stops = stop_name lanes stream fault lane told first new since is within
          (stopped stream fault (lane_name lane) told first old new since_mid since reads.failed_as reads.missing_as reads.else_same counts changed stays);
    })

-- a call that gave a piece
pub gives_served : (lanes : List Lane) (stream : ℕ) (stop : Option PiecesStop) (lane : Lane) (told last : Option Files) (first new : ShelfCounts) (since : ℕ) (asked asked_after : List ℕ → ℕ)
    → stop ≡ None → lane ≡ get_or lanes stream lane → stream < length lanes
    → ReadsFile (lane_name lane) ⊥ ⊥ told last first new since asked asked_after → HasServed lanes stop told last first new since asked asked_after
gives_served lanes stream stop lane told last first new since asked asked_after going is within reads =
    subst (λ (s : Option PiecesStop). HasServed lanes s told last first new since asked asked_after) (sym going) (record {
      same_files = reads.same_files;
      same_write_faults = reads.same_write_faults;
      asks = λ name. asks_as (map lane_name lanes) (lane_name lane) name (bytes_eq name (lane_name lane)) (bytes_eq-Decides name (lane_name lane))
          asked asked_after (lane_stands lanes stream lane is within) reads.asks;
      stops = reads.else_same (λ f. f) (λ m. m);
    })

-- Worked examples: one unit, of which three packets without distortion or two with a distortion of 10 are due at 27,200, in slots of
-- 4,000 ticks; two slots end in time.
use Rattle.std.proofs.Common.{◌≡◌, ℕ, zero, suc, ◌^◌, ◌<◌, ◌≤◌, ◌⊎◌, List, All, [], ◌∷◌, get_or, Option, Some, None, true, false, inl, inr, refl, arith, lit<}
use Rattle.version_table.specs.declared.table.Version.{Version}
use Rattle.version_table.specs.declared.table.Table.{Table}
use Rattle.dual_bounds.specs.declared.windows.Window.{Window as PricedWindow}
use Rattle.dual_bounds.specs.Room.{serves, free_slots, audio_due, room}
use Rattle.dual_bounds.specs.Values.{price, least_cost, least_costs, worth, value_of_windows}
use Rattle.buffer_windows.specs.declared.windows.BufferWindow.{BufferWindow as SeeingWindow}
use Rattle.buffer_windows.specs.Windows.{IsBufferWindow}
use Rattle.buffer_windows.specs.Room.{audio_slots, buffer_bytes, buffer_room, free_window_slots}
use Rattle.buffer_windows.specs.Values.{buffer_worth, least_owned_cost, least_owned_costs, value_of_buffer_windows, version_price}
use Rattle.buffer_windows.specs.Bounds.{bound_of_buffer_windows}
use Rattle.bound_certificate.specs.declared.cert.Node.{Node}
use Rattle.bound_certificate.specs.declared.cert.Node.TheVariants.{Branch, Dual, Run, Open, Window, BufferWindow}
use Rattle.certificate_checker.specs.declared.why.Why.TheVariants as whys
use Rattle.certificate_checker.specs.Shown.{bound_of_leaf, fix, lesser, unfixed, versions_of}
use Rattle.certificate_checker.specs.Faults.{BufferWindowGoesBefore, BufferWindowsRise, IsFirstOfNode, IsRight}
use Rattle.certificate_checker.specs.Walk.{Shows, Stops, Walks, missing, wrong, leaf, branch, stop, next}
use Rattle.dual_bounds.proofs.Examples.{version}

abbrev one_unit : Table
one_unit = record {
  slot = 4000;
  nodes = 1;
  evaluations = 0;
  programs =
      record { vbv = 112; units = record { due = 27200; versions = record { items = version 552 0 ∷ version 368 10 ∷ [] } } ∷ []; audios = [] } ∷ [];
}

abbrev one_multiplier : (lambda : ℕ) → Node
one_multiplier lambda = Dual (record { items = record { due = 27200; lambda = lambda } ∷ [] })

-- ---- bounds of nodes: with a lambda of ten distortions; next to the edge of nine, on both sides; open
bound_at_ten : bound_of_leaf one_unit (unfixed one_unit) (one_multiplier 2560) ≡ Some 10
unfolding serves free_slots audio_due room price least_cost least_costs worth value_of_windows
bound_at_ten = refl

bound_above_nine : bound_of_leaf one_unit (unfixed one_unit) (one_multiplier 2305) ≡ Some 10
unfolding serves free_slots audio_due room price least_cost least_costs worth value_of_windows
bound_above_nine = refl

bound_at_nine : bound_of_leaf one_unit (unfixed one_unit) (one_multiplier 2304) ≡ Some 9
unfolding serves free_slots audio_due room price least_cost least_costs worth value_of_windows
bound_at_nine = refl

bound_of_open : bound_of_leaf one_unit (unfixed one_unit) Open ≡ Some 0
unfolding serves free_slots audio_due room price least_cost least_costs worth value_of_windows
bound_of_open = refl

-- in a child only the version counts that is fixed there
bound_of_open_child : bound_of_leaf one_unit (fix 0 1 (unfixed one_unit)) Open ≡ Some 10
unfolding serves free_slots audio_due room price least_cost least_costs worth value_of_windows
bound_of_open_child = refl

bound_of_run : bound_of_leaf one_unit (fix 0 1 (unfixed one_unit)) (Run true) ≡ Some 10
bound_of_run = refl

bound_of_missed_run : bound_of_leaf one_unit (fix 0 0 (unfixed one_unit)) (Run false) ≡ None
bound_of_missed_run = refl

-- none is left out of a least
least_beside_none : lesser None (Some 10) ≡ Some 10
least_beside_none = refl

least_of_two : lesser (Some 10) (Some 3) ≡ Some 3
least_of_two = refl

two_versions : versions_of one_unit 0 ≡ 2
two_versions = refl

-- ---- trees: one open node; a second node behind it; a branch that needs one more node; a branch on a unit that there isn't
right_open : (fixed : List (Option ℕ)) → IsRight one_unit fixed Open
right_open fixed = ((λ k d within. absurd (omega (arith, within))), (λ k d within. absurd (omega (arith, within))), (λ k d within. absurd (omega (arith, within))))

one_open : Walks one_unit (unfixed one_unit) (Open ∷ []) (Shows (bound_of_leaf one_unit (unfixed one_unit) Open) [])
one_open = leaf (unfixed one_unit) Open [] tt (right_open (unfixed one_unit))

one_behind : Walks one_unit (unfixed one_unit) (Open ∷ Open ∷ []) (Shows (bound_of_leaf one_unit (unfixed one_unit) Open) (Open ∷ []))
one_behind = leaf (unfixed one_unit) Open (Open ∷ []) tt (right_open (unfixed one_unit))

free_branch : IsRight one_unit (unfixed one_unit) (Branch 0)
free_branch = (lit< tt, refl)

one_node_owed : Walks one_unit (unfixed one_unit) (Branch 0 ∷ Open ∷ []) (Stops whys.NoNode 0)
one_node_owed =
    branch (unfixed one_unit) 0 (Open ∷ []) (Stops whys.NoNode 0) free_branch
    (next (unfixed one_unit) 0 0 1 (Open ∷ []) [] (bound_of_leaf one_unit (fix 0 0 (unfixed one_unit)) Open) (Stops whys.NoNode 0)
    (leaf (fix 0 0 (unfixed one_unit)) Open [] tt (right_open (fix 0 0 (unfixed one_unit))))
    (stop (unfixed one_unit) 0 1 0 [] whys.NoNode 0 (missing (fix 0 1 (unfixed one_unit)))))

no_such_unit : Walks one_unit (unfixed one_unit) (Branch 1 ∷ []) (Stops whys.UnitRange 1)
no_such_unit = wrong (unfixed one_unit) (Branch 1) [] whys.UnitRange (omega arith)

fixed_twice : IsFirstOfNode one_unit (fix 0 0 (unfixed one_unit)) (Branch 0) whys.UnitFixed
fixed_twice = (lit< tt, λ e. grind (arith, e))

-- ---- windows that don't rise, one that begins behind its due time, and a lambda next to its limit
abbrev two_windows : (from due from' due' : ℕ) → Node
two_windows from due from' due' = Window (record { items = record { from = from; due = due; lambda = 1 } ∷ record { from = from'; due = due'; lambda = 1 } ∷ [] })

same_window_twice : IsFirstOfNode one_unit [] (two_windows 5 9 5 9) whys.DueOrder
same_window_twice rise = not_before (rise 0 (record { from = 0; due = 0; lambda = 0 }) (omega arith))
  where
    not_before : ((9 < 9) ⊎ ((◌≡◌ {A = ℕ} 9 9) × (5 < 5))) → ⊥
    not_before (inl due) = omega (arith, due)
    not_before (inr from) = omega (arith, from.1)

from_above_due : IsFirstOfNode one_unit [] (Window (record { items = record { from = 10; due = 9; lambda = 1 } ∷ [] })) whys.WindowEmpty
from_above_due = ((λ k d within. absurd (omega (arith, within))), (λ none. omega (arith, none 0 (record { from = 0; due = 0; lambda = 0 }) (omega arith))))

lambda_above : IsFirstOfNode one_unit [] (one_multiplier 1099511627777) whys.LambdaLimit
lambda_above = (
  (λ k d within. absurd (omega (arith, within))),
  (λ k d within. at_start k d within),
  (λ keeps. omega (arith, keeps 0 (record { from = 0; due = 0; lambda = 0 }) (omega arith))),
)
  where
    at_start : (k : ℕ) (d : PricedWindow) → k < 1
        → (get_or (record { from = 0; due = 27200; lambda = 1099511627777 } ∷ []) k d).from ≤ (get_or (record { from = 0; due = 27200; lambda = 1099511627777 } ∷ []) k d).due
    at_start zero d within = omega arith
    at_start (suc k) d within = absurd (omega (arith, within))

-- ---- windows that see the buffers: two units of a program whose buffer has 2,048 bytes, in slots of 40,000 ticks, of which 30 and 31 are
-- free behind slot 26; of the first a version doesn't fit the buffer, and of the second one byte has no room
abbrev full : Table
full = record {
  slot = 40000;
  nodes = 1;
  evaluations = 0;
  programs =
      record {
        vbv = 1;
        units =
            record { due = 1200000; versions = record { items = version 2049 0 ∷ version 2048 2 ∷ [] } }
            ∷ record { due = 1287200; versions = record { items = version 369 0 ∷ version 368 5 ∷ [] } } ∷ [];
        audios = [];
      } ∷ [];
}

abbrev seeing : (first due programs tail lambda : ℕ) → SeeingWindow
seeing first due programs tail lambda = record { first = first; due = due; programs = programs; tail = tail; lambda = lambda }

-- five distortions a byte; a part less; next to the edge of six
bound_of_full : bound_of_leaf full (unfixed full) (BufferWindow (seeing 27 1287200 1 32 235520 ∷ [])) ≡ Some 7
unfolding bound_of_buffer_windows free_window_slots audio_slots buffer_bytes buffer_room version_price least_owned_cost least_owned_costs buffer_worth value_of_buffer_windows
bound_of_full = refl

bound_above_six : bound_of_leaf full (unfixed full) (BufferWindow (seeing 27 1287200 1 32 188417 ∷ [])) ≡ Some 7
unfolding bound_of_buffer_windows free_window_slots audio_slots buffer_bytes buffer_room version_price least_owned_cost least_owned_costs buffer_worth value_of_buffer_windows
bound_above_six = refl

bound_at_six : bound_of_leaf full (unfixed full) (BufferWindow (seeing 27 1287200 1 32 188416 ∷ [])) ≡ Some 6
unfolding bound_of_buffer_windows free_window_slots audio_slots buffer_bytes buffer_room version_price least_owned_cost least_owned_costs buffer_worth value_of_buffer_windows
bound_at_six = refl

-- with no window the version that doesn't fit is left out all the same, where an open node has it; a window of time has room for all packets
bound_of_none : bound_of_leaf full (unfixed full) (BufferWindow []) ≡ Some 2
unfolding bound_of_buffer_windows free_window_slots audio_slots buffer_bytes buffer_room version_price least_owned_cost least_owned_costs buffer_worth value_of_buffer_windows
bound_of_none = refl

bound_of_full_open : bound_of_leaf full (unfixed full) Open ≡ Some 0
unfolding serves free_slots audio_due room price least_cost least_costs worth value_of_windows
bound_of_full_open = refl

bound_by_time : bound_of_leaf full (unfixed full) (Window (record { items = record { from = 0; due = 1287200; lambda = 184 } ∷ [] })) ≡ Some 0
unfolding serves free_slots audio_due room price least_cost least_costs worth value_of_windows
bound_by_time = refl

-- a version that is fixed counts, also where it doesn't fit; a unit that isn't fixed and has no version that fits leaves no bound
bound_of_fixed : bound_of_leaf full (fix 0 0 (unfixed full)) (BufferWindow []) ≡ Some 0
unfolding bound_of_buffer_windows free_window_slots audio_slots buffer_bytes buffer_room version_price least_owned_cost least_owned_costs buffer_worth value_of_buffer_windows
bound_of_fixed = refl

abbrev too_long : Table
too_long = record {
  slot = 40000;
  nodes = 1;
  evaluations = 0;
  programs = record { vbv = 1; units = record { due = 1200000; versions = record { items = version 2049 0 ∷ [] } } ∷ []; audios = [] } ∷ [];
}

no_bound : bound_of_leaf too_long (unfixed too_long) (BufferWindow []) ≡ None
unfolding bound_of_buffer_windows free_window_slots audio_slots buffer_bytes buffer_room version_price least_owned_cost least_owned_costs buffer_worth value_of_buffer_windows
no_bound = refl

-- ---- their faults: the same twice, one that rises by its programs; a tail one slot further; program 1 of one; a lambda above its limit
abbrev no_seeing : SeeingWindow
no_seeing = seeing 0 0 0 0 0

alone_rises : (window : SeeingWindow) → BufferWindowsRise (window ∷ [])
alone_rises window k d within = absurd (omega (arith, within))

alone_is : (P : SeeingWindow → Type 0) (window : SeeingWindow) → P window → All P (window ∷ [])
alone_is P window is zero d within = is
alone_is P window is (suc k) d within = absurd (omega (arith, within))

same_twice : IsFirstOfNode full [] (BufferWindow (seeing 27 1287200 1 32 1 ∷ seeing 27 1287200 1 32 1 ∷ [])) whys.DueOrder
same_twice rise = not_before (rise 0 no_seeing (omega arith))
  where
    not_before : BufferWindowGoesBefore (seeing 27 1287200 1 32 1) (seeing 27 1287200 1 32 1) → ⊥
    not_before (inl due) = omega (arith, due)
    not_before (inr (same, inl first)) = omega (arith, first)
    not_before (inr (same, inr (also, inl tail))) = omega (arith, tail)
    not_before (inr (same, inr (also, inr (too, programs)))) = omega (arith, programs)

by_programs : BufferWindowGoesBefore (seeing 27 1287200 0 32 1) (seeing 27 1287200 1 32 1)
by_programs = inr (refl, inr (refl, inr (refl, omega arith)))

tail_further : IsFirstOfNode full [] (BufferWindow (seeing 27 1287200 1 33 1 ∷ [])) whys.WindowEmpty
tail_further = (alone_rises (seeing 27 1287200 1 33 1), λ all. not_a_window (all 0 no_seeing (omega arith)))
  where
    not_a_window : IsBufferWindow 40000 (seeing 27 1287200 1 33 1) → ⊥
    not_a_window is = let upto : 33 ≤ 32 = is.upto in omega (arith, upto)

the_window : IsBufferWindow 40000 (seeing 27 1287200 2 32 1099511627777)
the_window = record { from = omega arith; upto = omega arith; begins = λ some. omega arith }

no_such_program : IsFirstOfNode full [] (BufferWindow (seeing 27 1287200 2 32 1099511627777 ∷ [])) whys.ProgramRange
no_such_program = (
  alone_rises (seeing 27 1287200 2 32 1099511627777),
  alone_is (IsBufferWindow 40000) (seeing 27 1287200 2 32 1099511627777) the_window,
  λ count. (let low : 2 < 2 = count 0 no_seeing (omega arith) in omega (arith, low)),
)

lambda_above_limit : IsFirstOfNode full [] (BufferWindow (seeing 27 1287200 1 32 1099511627777 ∷ [])) whys.LambdaLimit
lambda_above_limit = (
  alone_rises (seeing 27 1287200 1 32 1099511627777),
  alone_is (IsBufferWindow 40000) (seeing 27 1287200 1 32 1099511627777) (record { from = omega arith; upto = omega arith; begins = λ some. omega arith }),
  alone_is (λ window. window.programs < 2 ^ 1) (seeing 27 1287200 1 32 1099511627777) (omega arith),
  λ keeps. omega (arith, keeps 0 no_seeing (omega arith)),
)

right_window : IsRight full [] (BufferWindow (seeing 27 1287200 1 32 1099511627776 ∷ []))
right_window = record {
  rise = alone_rises (seeing 27 1287200 1 32 1099511627776);
  some = alone_is (IsBufferWindow 40000) (seeing 27 1287200 1 32 1099511627776) (record { from = omega arith; upto = omega arith; begins = λ some. omega arith });
  programs = alone_is (λ window. window.programs < 2 ^ 1) (seeing 27 1287200 1 32 1099511627776) (omega arith);
  limit = alone_is (λ window. window.lambda ≤ 1099511627776) (seeing 27 1287200 1 32 1099511627776) (omega arith);
}

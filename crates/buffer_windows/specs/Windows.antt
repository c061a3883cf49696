-- Windows that see the buffers: which packets can go before a window's first slot, and which windows are allowed.
-- Times are ticks of 1/27,000,000 s.
use Rattle.std.specs.Prelude.{ℕ, ◌-◌, ◌+◌, ◌*◌, ◌/◌, ◌%◌, ◌^◌, ◌<◌, ◌≤◌, ◌==◌, max, List, length, All, Bool, ◌&&◌, ◌||◌, nat_le, nat_lt}
use Rattle.std.specs.Int.{div_ceil}
use Rattle.stream_constants.specs.declared.decoder.TheConstants.{HOLD_TICKS}
use Rattle.dual_bounds.specs.declared.constants.TheConstants.{LAMBDA_MOST, MARGIN_TICKS}
use Rattle.dual_bounds.specs.declared.windows.Window.{Window}
use Rattle.buffer_windows.specs.declared.constants.TheConstants.{BUFFER_WINDOWS_MOST}
use Rattle.buffer_windows.specs.declared.windows.BufferWindow.{BufferWindow}

-- how many slots end in time for what is due then: a margin before it, or earlier
abbrev pub stop : (slot due : ℕ) → ℕ
stop slot due = (due - MARGIN_TICKS) / slot

-- where the window doesn't begin with the first slot: the latest time at which what goes before its first slot is gone,
-- since a packet is held no longer than a second (13818-1, 2.4.2.6)
abbrev pub latest : (slot : ℕ) → BufferWindow → ℕ
latest slot window = (window.first - 1) * slot + HOLD_TICKS

-- the window counts the elementary buffer of the program
abbrev pub counts_buffer : BufferWindow → (program : ℕ) → Bool
counts_buffer window program = (window.programs / 2 ^ program) % 2 == 1

-- no packet of a unit that is due then can go before the window's first slot
abbrev pub is_fresh : (slot : ℕ) → BufferWindow → (due : ℕ) → Bool
is_fresh slot window due = (window.first == 0) || nat_lt (latest slot window) due

-- packets of a unit of the program that is due then can go before the window's first slot, and are held by a buffer that the
-- window counts when that slot begins
abbrev pub is_held : (slot : ℕ) → BufferWindow → (program due : ℕ) → Bool
is_held slot window program due =
    nat_lt 0 window.first && counts_buffer window program && nat_lt (window.first * slot) due && nat_le due (latest slot window)

-- the window's tail stands between its first slot and the last that ends in time, and some due time is left behind its beginning
pub record IsBufferWindow (slot : ℕ) (window : BufferWindow) : Type 0 where
  pub from : window.first ≤ window.tail
  pub upto : window.tail ≤ max window.first (stop slot window.due)
  pub begins : 0 < window.first → window.first * slot < window.due

-- windows that a value may be asked for: few enough, with lambdas within their limit
pub record ArePriced (windows : List BufferWindow) : Type 0 where
  pub few : length windows ≤ BUFFER_WINDOWS_MOST
  pub lambdas : All (λ window. window.lambda ≤ LAMBDA_MOST) windows

-- a window of time as one that counts no buffer: from the first slot that begins no earlier than a second before it up to the last that
-- ends in time for its last due time
abbrev pub without_buffers : (slot : ℕ) → Window → BufferWindow
without_buffers slot window =
    let first = div_ceil (window.from - HOLD_TICKS) slot in
    record { first = first; due = window.due; programs = 0; tail = max first (stop slot window.due); lambda = window.lambda }

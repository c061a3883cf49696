-- What is read of a list of windows where it has none.
use Rattle.buffer_windows.specs.declared.windows.BufferWindow.{BufferWindow}

abbrev pub no_window : BufferWindow
no_window = record { first = 0; due = 0; programs = 0; tail = 0; lambda = 0 }

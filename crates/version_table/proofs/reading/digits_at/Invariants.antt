use Rattle.std.proofs.Common.{◌≡◌, ◌-◌, ◌^◌, ◌<◌, ◌≤◌, length, take}
use Rattle.std.specs.Str.Parse.{AllDigits, digits_value}
use Rattle.version_table.proofs.reading.digits_at.Given as goal

-- the bytes so far are digits, and this is their value
abbrev pub invariant-loop-len : goal.invariant-loop-len
invariant-loop-len l = record {
  within : l.len ≤ length l.text;
  digits : AllDigits 10 (take l.len l.text);
  value : l.value ≡ digits_value 10 (take l.len l.text);
  fits : l.value < 2 ^ 64;
}

abbrev pub decreases-loop-len : goal.decreases-loop-len
decreases-loop-len l = length l.text - l.len

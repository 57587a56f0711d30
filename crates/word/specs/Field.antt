-- Bit fields (01, "Groups and registers"), by division and remainder.
use Rattle.std.specs.Prelude.{ℕ, ◌+◌, ◌-◌, ◌/◌, ◌%◌, ◌^◌}

-- bits hi to lo of a word, both counted in, as a number of their own
abbrev pub field : ℕ → ℕ → ℕ → ℕ
field hi lo word = word / 2 ^ lo % 2 ^ (hi + 1 - lo)

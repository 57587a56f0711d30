use mathlib.Core.Path.{◌≡◌}
use Prim.Native.Nat.{◌-◌, ◌^◌, ◌<◌}
use lib.ListN.{length, drop}
use Rattle.surface.specs.Memory.{little_endian}
use Rattle.surface.proofs.number_of.Given as goal

-- the bytes from k on are taken, and there is room for the others
abbrev pub invariant-loop-k : goal.invariant-loop-k
invariant-loop-k l = (l.sum ≡ little_endian (drop l.k l.bytes)) × (l.sum < 256 ^ (length l.bytes - l.k))

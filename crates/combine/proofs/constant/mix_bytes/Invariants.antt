use Rattle.pixel.specs.Blending.{blended_channel}
use Rattle.lanes.specs.Lanes.{Done}
use Prim.Native.Nat.{ℕ}
use mathlib.Core.List.{List}
use mathlib.Core.Path.{◌≡◌}
use lib.ListN.{length, get_or}
use Rattle.combine.proofs.constant.mix_bytes.Given as goal

abbrev pub mixed : (fs fd : ℕ) → (s d : List ℕ) → ℕ → ℕ
mixed fs fd s d j = blended_channel (get_or s j 0) fs (get_or d j 0) fd

abbrev pub invariant-loop-j : goal.invariant-loop-j
invariant-loop-j l = record { same_length : length l.d ≡ length l.initial.d; mixed_so_far : Done (mixed l.fs l.fd l.s l.initial.d) l.initial.d l.d 0 l.j }

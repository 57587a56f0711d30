use Rattle.pixel.specs.Blending.{blended_channel}
use Rattle.lanes.proofs.Passes.{Ahead, none_done, one-done, more-done, to_end}
use Prim.Native.Nat.{ℕ}
use mathlib.Core.List.{List}
use mathlib.Core.Path.{ap}
use native.Mathlib.Omega.{arith}
use borrow.Author.Rules.{rules}
use lib.ListN.{get_or}
use Rattle.combine.proofs.constant.mix_bytes.Invariants.{mixed}
use Rattle.combine.proofs.constant.mix_bytes.Goals as goal

mixed-ahead : (fs fd : ℕ) (s : List ℕ) → Ahead (mixed fs fd s)
mixed-ahead fs fd s d e j same = ap (λ (x : ℕ). blended_channel (get_or s j 0) fs x fd) (same j (omega arith))

pub loop-j-init : goal.loop-j-init
loop-j-init c = record { same_length = search rules; mixed_so_far = none_done _ _ _ }

pub loop-j-preserved : goal.loop-j-preserved
loop-j-preserved c =
    let a = c.args in record {
      same_length = search rules;
      mixed_so_far = more-done (mixed a.fs a.fd a.s.now) (mixed-ahead a.fs a.fd a.s.now) _ c.loop-j.d _ 0 c.loop-j.j _ (omega arith) (omega arith)
          c.loop-j.invariant.mixed_so_far (one-done _ c.loop-j.d c.loop-j.j _ (omega arith) c.mix_one.ensures);
    }

pub returns : goal.returns
returns c = to_end _ _ _ _ c.loop-j.j _ (omega arith) c.loop-j.invariant.mixed_so_far

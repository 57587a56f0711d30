use native.Mathlib.Omega.{arith}
use Prim.Native.Nat.{ℕ, ◌+◌, ◌*◌}
use borrow.Author.Rules.{rules}
use mathlib.Core.Path.{◌≡◌, refl, ap}
use lib.ListN.{get_or}
use Rattle.lanes.proofs.Passes.{none_done, more-done, to_end}
use Rattle.lanes.proofs.bytes.copy_chunks.Goals as goal

-- a block more
next : (a k n : ℕ) → a + k * n + n ≡ a + (k + 1) * n
next a k n = grind arith

pub loop-k-init : goal.loop-k-init
loop-k-init g c = record { same_length = search rules; copied = to_end _ _ _ c.args.a _ _ (omega arith) (none_done _ _ _) }

pub loop-k-preserved : goal.loop-k-preserved
loop-k-preserved g c =
    let n = next c.args.a c.loop-k.k g.row.N in record {
      same_length = search rules;
      copied = more-done (λ l k. get_or c.args.s.now k 0) (λ l m k same. refl) _ c.loop-k.d _ c.args.a (c.args.a + c.loop-k.k * g.row.N) _ (omega arith) (omega (arith, n)) c.loop-k.invariant.copied (to_end _ _ _ _ _ _ n c.copy_chunk.ensures);
    }

pub returns : goal.returns
returns g c =
    to_end _ _ _ _ (c.args.a + c.loop-k.k * g.row.N) _ (ap (λ (k : ℕ). c.args.a + k * g.row.N) (omega arith)) c.loop-k.invariant.copied

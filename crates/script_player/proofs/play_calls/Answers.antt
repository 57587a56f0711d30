use mathlib.Core.Path.{◌≡◌, refl, sym, ◌∙◌}
use Prim.Native.Nat.{ℕ, ◌+◌, ◌*◌, ◌-◌, ◌/◌}
use native.Mathlib.Omega.{arith}
use lib.ListN.{length}
use Rattle.script_player.proofs.Going.{going_start, going_next, going_end, decode-end, decode-none}
use Rattle.script_player.proofs.play_calls.Goals as goal

pub loop-k-init : goal.loop-k-init
loop-k-init c = (refl, refl, refl, going_start _ _ _ _ _ _ (omega arith) (omega arith))

pub returns-in-None : goal.returns-in-None
returns-in-None c =
    let l = c.loop-k in
    going_end _ _ _ _ _ _ _ _ _ l.invariant.3 (omega (arith, l.invariant.0)) (decode-end _ _ (sym c.in-None.ensures.means))

pub loop-k-preserved : goal.loop-k-preserved
loop-k-preserved c =
    let l = c.loop-k in
    let n : ℕ = length c.args.answers.now / 24 in
    let p = c.play_call-step in
    let w = c.write_le_words in (
      w.auto.bytes ∙ l.invariant.0,
      p.auto.ring ∙ l.invariant.1,
      p.auto.memory ∙ l.invariant.2,
      rw w.ensures (going_next _ _ _ _ _ _ (24 * l.k) (n - l.k) (24 * (l.k + 1)) (n - (l.k + 1)) _ _ _ _ _ l.invariant.3 (omega arith) (omega arith) (omega (arith, l.invariant.0)) (sym c.in-Some.ensures.means) p.ensures),
    )

pub returns : goal.returns
returns c =
    let l = c.loop-k in
    let n : ℕ = length c.args.answers.now / 24 in
    let all : l.k ≡ n = omega (arith, l.auto.k-end) in
    rw all at (going_end _ _ _ _ _ _ _ _ _ l.invariant.3 (omega (arith, l.invariant.0)) (decode-none _ _ (omega arith)))

-- Laws of offsets that wrap at the ring's end.
use mathlib.Core.Path.{◌≡◌}
use mathlib.Core.Logic.{⊎_elim}
use Prim.Native.Nat.{ℕ, ◌+◌, ◌-◌, ◌≤◌, ◌<◌}
use native.Mathlib.Omega.{arith}
use borrow.Author.Tests.{lt-ltb, le-ltb}
use Rattle.word.proofs.Tests.{split}
use Rattle.ring.specs.Segment.{wrap_offset}

pub wrapped_in : (n x : ℕ) → x < n → wrap_offset n x ≡ x
unfolding wrap_offset
wrapped_in n x h = rw (lt-ltb x n h)

pub wrapped_over : (n x : ℕ) → n ≤ x → wrap_offset n x ≡ x - n
unfolding wrap_offset
wrapped_over n x h = rw (le-ltb x n h)

-- a wrapped offset is one of the ring's
pub wrapped_below : (n x : ℕ) → x < n + n → wrap_offset n x < n
wrapped_below n x h =
    ⊎_elim (λ (p : x < n). rw (wrapped_in n x p) p) (λ (p : n ≤ x). rw (wrapped_over n x p) (omega arith)) (split x n)

-- two steps on, each of which may wrap, are one
pub wrapped_add : (n x a b : ℕ) → x < n → a + b ≤ n → wrap_offset n (wrap_offset n (x + a) + b) ≡ wrap_offset n (x + (a + b))
wrapped_add n x a b h k = ⊎_elim inside over (split (x + a) n)
  where
    near : x + a + b ≡ x + (a + b)
    near = omega arith

    inside : x + a < n → wrap_offset n (wrap_offset n (x + a) + b) ≡ wrap_offset n (x + (a + b))
    inside p = rw (wrapped_in n (x + a) p, near)

    over : n ≤ x + a → wrap_offset n (wrap_offset n (x + a) + b) ≡ wrap_offset n (x + (a + b))
    over p =
        rw (wrapped_over n (x + a) p, wrapped_in n (x + a - n + b) (omega arith), wrapped_over n (x + (a + b)) (omega arith)) (omega arith)

-- on to the end of a round and i further is i on from where the round began
pub wrapped_round : (n x a i : ℕ) → x < n → a ≤ n → i < a → wrap_offset n (wrap_offset n (x + a) + (n - a + i)) ≡ wrap_offset n (x + i)
wrapped_round n x a i h k l = ⊎_elim inside over (split (x + a) n)
  where
    inside : x + a < n → wrap_offset n (wrap_offset n (x + a) + (n - a + i)) ≡ wrap_offset n (x + i)
    inside p =
        rw (wrapped_in n (x + a) p, wrapped_over n (x + a + (n - a + i)) (omega arith), wrapped_in n (x + i) (omega arith)) (omega arith)

    over : n ≤ x + a → wrap_offset n (wrap_offset n (x + a) + (n - a + i)) ≡ wrap_offset n (x + i)
    over p =
        let e : x + a - n + (n - a + i) ≡ x + i = omega arith in
        rw (wrapped_over n (x + a) p, e)

-- A part of memory copied over another, which does not meet it: part by part.
use mathlib.Core.Path.{◌≡◌, ap, ◌∙◌}
use mathlib.Core.List.{List}
use mathlib.Core.Logic.{inl, inr, ⊎_elim}
use Prim.Native.Nat.{ℕ, ◌+◌, ◌-◌, ◌≤◌, ◌<◌}
use native.Mathlib.Omega.{arith}
use lib.ListN.{length, get_or, set}
use Rattle.lanes.specs.Lanes.{Done}
use Rattle.lanes.proofs.Laws.{under_or}
use Rattle.lanes.proofs.Passes.{one-done, same-done}
use Rattle.lanes.specs.Apart.{Apart, moved_byte}

-- moved from the j-th byte on, counted from where both parts begin
pub rebased : (m m' : List ℕ) (to from j k : ℕ) → Done (moved_byte m (to + j) (from + j)) m m' (to + j) k → Done (moved_byte m to from) m m' (to + j) k
rebased m m' to from j k =
    same-done (moved_byte m (to + j) (from + j)) (moved_byte m to from) m m' (to + j) k
    (λ i l u. let e : from + j + (i - (to + j)) ≡ from + (i - to) = omega arith in ap (λ (x : ℕ). get_or m x 0) e)

-- what was moved so far, from address a to the j-th byte, and then up to the k-th
pub more_moved : (memory m m' : List ℕ) (to from n a j k : ℕ) → Apart (length memory) to from n → to ≤ a → a ≤ to + j → j ≤ k → k ≤ n →
    Done (moved_byte memory to from) memory m a (to + j) → Done (moved_byte m to from) m m' (to + j) (to + k) → Done (moved_byte memory to from) memory m' a (to + k)
more_moved memory m m' to from n a j k p s h l u was did = record {
  done = λ i b e. under_or i (to + j)
      (λ q. did.under i q ∙ was.done i b q)
      (λ q. did.done i q e ∙ stays i q e);
  under = λ i b. did.under i (omega arith) ∙ was.under i b;
  past = λ i b. did.past i b ∙ was.past i (omega arith);
}
  where
    -- the bytes that are moved lie apart from those written
    stays : (i : ℕ) → to + j ≤ i → i < to + k → get_or m (from + (i - to)) 0 ≡ get_or memory (from + (i - to)) 0
    stays i q e =
        ⊎_elim
        (λ (r : from + n ≤ to). was.under (from + (i - to)) (omega arith))
        (λ (r : to + n ≤ from). was.past (from + (i - to)) (omega arith))
        p.apart

-- fewer bytes lie apart too
pub shorter : (size to from n k : ℕ) → k ≤ n → Apart size to from n → Apart size to from k
shorter size to from n k h p = record {
  target = omega (arith, p.target);
  origin = omega (arith, p.origin);
  apart = ⊎_elim (λ (l : from + n ≤ to). inl (omega arith)) (λ (l : to + n ≤ from). inr (omega arith)) p.apart;
}

-- one byte is moved
pub one_moved : (m : List ℕ) (to from : ℕ) → to < length m → Done (moved_byte m to from) m (set m to (get_or m from 0)) to (to + 1)
one_moved m to from h =
    let e : from ≡ from + (to - to) = omega arith in
    one-done (moved_byte m to from) m to (get_or m from 0) h (ap (λ (i : ℕ). get_or m i 0) e)

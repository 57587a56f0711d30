-- Rows blended inside one slice of bytes. Seen from where a row begins (`drop`), its bytes are those of a row of its own; what is left to show is that the
-- source's row, and what is still to come of the other, are as they were.
use mathlib.Core.Path.{◌≡◌, refl, sym, ap, ◌∙◌}
use mathlib.Core.List.{List}
use mathlib.Core.Logic.{inl, inr, ⊎_elim}
use Prim.Native.Nat.{ℕ, ◌+◌, ◌-◌, ◌*◌, ◌/◌, ◌%◌, ◌≤◌, ◌<◌}
use native.Mathlib.Omega.{arith}
use lib.ListN.{length, get_or, set, drop}
use lib.Seq.{get_or-drop}
use Rattle.pixel.specs.Blending.{factor_value, blended_channel}
use Rattle.pixel.specs.declared.blend.BlendFactors.{BlendFactors}
use Rattle.lanes.specs.Lanes.{Done}
use Rattle.lanes.proofs.Laws.{under_or}
use Rattle.lanes.proofs.Passes.{one-done, same-done, to_end}
use Rattle.plan.specs.Blend.{blend_at}
use Rattle.lanes.specs.Apart.{Apart}
use Rattle.within_rows.specs.Within.{blend_within}

-- ---- a row, seen from where it begins

pub at_drop : (m : List ℕ) (a i : ℕ) → a ≤ i → get_or m i 0 ≡ get_or (drop a m) (i - a) 0
at_drop m a i l =
    let e : i ≡ a + (i - a) = omega arith in
    ap (λ (q : ℕ). get_or m q 0) e ∙ sym (get_or-drop a m (i - a) 0)

-- what was done to the row was done to the whole, and the other way round
module _ (m m' : List ℕ) (to n : ℕ) where
  whole : (P : ℕ → ℕ) → ((j : ℕ) → j < to → get_or m' j 0 ≡ get_or m j 0) → Done P (drop to m) (drop to m') 0 n → Done (λ (i : ℕ). P (i - to)) m m' to (to + n)
  whole P under did = record {
    done = λ i l u. at_drop m' to i l ∙ did.done (i - to) (omega arith) (omega arith);
    under = under;
    past = λ i l. at_drop m' to i (omega arith) ∙ (did.past (i - to) (omega arith) ∙ sym (at_drop m to i (omega arith)));
  }

  pub row : (P : ℕ → ℕ) → Done P m m' to (to + n) → Done (λ (j : ℕ). P (to + j)) (drop to m) (drop to m') 0 n
  row P did = record {
    done = λ j l u. get_or-drop to m' j 0 ∙ did.done (to + j) (omega arith) (omega arith);
    under = λ j l. absurd (omega arith);
    past = λ j l. get_or-drop to m' j 0 ∙ (did.past (to + j) (omega arith) ∙ sym (get_or-drop to m j 0));
  }

pub within-whole : (rule : BlendFactors) (m m' : List ℕ) (to from n : ℕ) → ((j : ℕ) → j < to → get_or m' j 0 ≡ get_or m j 0) →
    Done (blend_at rule (drop from m) (drop to m)) (drop to m) (drop to m') 0 n → Done (blend_within rule m to from) m m' to (to + n)
unfolding blend_within
within-whole rule m m' to from n under did = whole m m' to n (blend_at rule (drop from m) (drop to m)) under did

pub within-row : (rule : BlendFactors) (m m' : List ℕ) (to from n : ℕ) → Done (blend_within rule m to from) m m' to (to + n) →
    Done (blend_at rule (drop from m) (drop to m)) (drop to m) (drop to m') 0 n
unfolding blend_within
within-row rule m m' to from n did =
    same-done (λ (j : ℕ). blend_at rule (drop from m) (drop to m) (to + j - to)) (blend_at rule (drop from m) (drop to m)) (drop to m) (drop to m') 0 n
    (λ j l u. let e : to + j - to ≡ j = omega arith in ap (blend_at rule (drop from m) (drop to m)) e)
    (row m m' to n (λ (i : ℕ). blend_at rule (drop from m) (drop to m) (i - to)) did)

-- ---- one part more

-- a byte, by the bytes that it reads
abbrev byte_by : BlendFactors → ℕ → ℕ → ℕ → ℕ → ℕ
byte_by rule s a d b = blended_channel s (factor_value rule.source a b) d (factor_value rule.destination a b)

pub within-reads : (rule : BlendFactors) (m : List ℕ) (to from j : ℕ) →
    blend_within rule m to from (to + j)
    ≡ byte_by rule (get_or m (from + j) 0) (get_or m (from + (j / 4 * 4 + 3)) 0) (get_or m (to + j) 0) (get_or m (to + (j / 4 * 4 + 3)) 0)
unfolding blend_within blend_at
within-reads rule m to from j =
    let e : to + j - to ≡ j = omega arith in
    rw (e, get_or-drop from m j 0, get_or-drop from m (j / 4 * 4 + 3) 0, get_or-drop to m j 0, get_or-drop to m (j / 4 * 4 + 3) 0)

-- the rows from some of their pixels on
shifted : (rule : BlendFactors) (m : List ℕ) (to from o j : ℕ) → o % 4 ≡ 0 →
    blend_within rule m (to + o) (from + o) (to + o + j) ≡ blend_within rule m to from (to + (o + j))
shifted rule m to from o j four =
    let e₁ : from + o + j ≡ from + (o + j) = omega arith in
    let e₂ : from + o + (j / 4 * 4 + 3) ≡ from + ((o + j) / 4 * 4 + 3) = omega arith in
    let e₃ : to + o + j ≡ to + (o + j) = omega arith in
    let e₄ : to + o + (j / 4 * 4 + 3) ≡ to + ((o + j) / 4 * 4 + 3) = omega arith in
    within-reads rule m (to + o) (from + o) j ∙ ((rw (e₁, e₂, e₃, e₄)) ∙ sym (within-reads rule m to from (o + j)))

module _ (rule : BlendFactors) (m₀ m : List ℕ) (to from n o start : ℕ) (a : Apart (length m₀) to from n) (whole-pixels : n % 4 ≡ 0) (in_row : o ≤ n) (first : to ≤ start) (so_far : start ≤ to + o)
    (was : Done (blend_within rule m₀ to from) m₀ m start (to + o)) where
  source-kept : (j : ℕ) → j < n → get_or m (from + j) 0 ≡ get_or m₀ (from + j) 0
  source-kept j l = ⊎_elim (λ (h : from + n ≤ to). was.under (from + j) (omega arith)) (λ (h : to + n ≤ from). was.past (from + j) (omega arith)) a.apart

  -- what byte j of the row becomes, from now or from the start
  pub reads_kept : (j : ℕ) → o ≤ j → j < n → blend_within rule m to from (to + j) ≡ blend_within rule m₀ to from (to + j)
  reads_kept j h l =
      within-reads rule m to from j
      ∙ ((rw (source-kept j l, source-kept (j / 4 * 4 + 3) (omega arith), was.past (to + j) (omega arith), was.past (to + (j / 4 * 4 + 3)) (omega arith)))
      ∙ sym (within-reads rule m₀ to from j))

  more : (P : ℕ → ℕ) (m' : List ℕ) (e : ℕ) → o ≤ e → ((j : ℕ) → o ≤ j → j < e → P (to + j) ≡ blend_within rule m₀ to from (to + j)) →
      Done P m m' (to + o) (to + e) → Done (blend_within rule m₀ to from) m₀ m' start (to + e)
  more P m' e h same did = record {
    done = λ i l u. under_or i (to + o)
        (λ q. did.under i q ∙ was.done i l q)
        (λ q. let w : i ≡ to + (i - to) = omega arith in did.done i q u ∙ (ap P w ∙ (same (i - to) (omega arith) (omega arith) ∙ sym (ap (blend_within rule m₀ to from) w))));
    under = λ i l. did.under i (omega arith) ∙ was.under i l;
    past = λ i l. did.past i l ∙ was.past i (omega arith);
  }

  -- all the rest
  pub rest-within : (m' : List ℕ) → Done (blend_within rule m to from) m m' (to + o) (to + n) → Done (blend_within rule m₀ to from) m₀ m' start (to + n)
  rest-within m' did = more (blend_within rule m to from) m' n in_row reads_kept did

  -- one byte
  pub byte-within : (v : ℕ) → o < n → to + o < length m → v ≡ blend_within rule m to from (to + o) → Done (blend_within rule m₀ to from) m₀ (set m (to + o) v) start (to + (o + 1))
  byte-within v l h e =
      let u : to + o + 1 ≡ to + (o + 1) = omega arith in
      more (blend_within rule m₀ to from) (set m (to + o) v) (o + 1) (omega arith) (λ j p q. refl)
      (to_end (blend_within rule m₀ to from) m (set m (to + o) v) (to + o) (to + o + 1) (to + (o + 1)) u
      (one-done (blend_within rule m₀ to from) m (to + o) v h (e ∙ reads_kept o (omega arith) l)))

  -- four pixels
  pub four-within : (m' : List ℕ) → o % 4 ≡ 0 → o + 16 ≤ n → Done (blend_within rule m (to + o) (from + o)) m m' (to + o) (to + o + 16) →
      Done (blend_within rule m₀ to from) m₀ m' start (to + (o + 16))
  four-within m' four l did =
      let u : to + o + 16 ≡ to + (o + 16) = omega arith in
      more (blend_within rule m (to + o) (from + o)) m' (o + 16) (omega arith)
      (λ j h q.
      let w : to + j ≡ to + o + (j - o) = omega arith in
      let v : to + (o + (j - o)) ≡ to + j = omega arith in
      ap (blend_within rule m (to + o) (from + o)) w
      ∙ (shifted rule m to from o (j - o) four ∙ (ap (blend_within rule m to from) v ∙ reads_kept j h (omega arith))))
      (to_end (blend_within rule m (to + o) (from + o)) m m' (to + o) (to + o + 16) (to + (o + 16)) u did)

-- nothing yet
pub none_within : (P : ℕ → ℕ) (m : List ℕ) (to : ℕ) → Done P m m to (to + 0)
none_within P m to = record { done = λ j h l. absurd (omega arith); under = λ j l. refl; past = λ j l. refl }

pub by_rule : (q r : BlendFactors) (m m' : List ℕ) (to from n : ℕ) → q ≡ r → Done (blend_within r m to from) m m' to (to + n) → Done (blend_within q m to from) m m' to (to + n)
by_rule q r m m' to from n h did = rw h did

-- parts of rows that do not meet do not meet
pub apart_part : (long long' to from n to' from' o k : ℕ) → Apart long to from n → long' ≡ long → to' ≡ to + o → from' ≡ from + o → o + k ≤ n → Apart long' to' from' k
apart_part long long' to from n to' from' o k a l t f h = record {
  target = omega (arith, a.target);
  origin = omega (arith, a.origin);
  apart = ⊎_elim (λ (p : from + n ≤ to). inl (omega arith)) (λ (p : to + n ≤ from). inr (omega arith)) a.apart;
}

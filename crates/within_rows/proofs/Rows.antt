-- Two rows in one slice of bytes. Seen from where a row begins (`drop`), its bytes are those of a row of its own.
use mathlib.Core.Path.{◌≡◌, sym, ap, ◌∙◌}
use mathlib.Core.List.{List, ◌++◌}
use Prim.Native.Nat.{ℕ, ◌+◌, ◌-◌, ◌*◌, ◌/◌, ◌%◌, ◌≤◌, ◌<◌}
use native.Mathlib.Omega.{arith}
use lib.ListN.{length, get_or, drop}
use borrow.Rule.Slice.PartMut.{put_mid}
use Rattle.std.proofs.lemmas.Grind.{common_steps}
use lib.Seq.{get_or-drop}
use Rattle.pixel.specs.declared.blend.BlendFactors.{BlendFactors}
use Rattle.surface.proofs.Parts.{length_put, put_past}
use Rattle.lanes.specs.Lanes.{Done}
use Rattle.plan.specs.Blend.{blend_at}
use Rattle.plan.proofs.Blends.{Bytes}
use Rattle.within_rows.specs.Within.{blend_within}

pub in_drop : (m : List ℕ) (a : ℕ) → Bytes m → Bytes (drop a m)
in_drop m a h j = rw (get_or-drop a m j 0) (h (a + j))

-- a row d blended with a row s, both of them parts of m, and put back
pub within_parts : (rule : BlendFactors) (m e s d r : List ℕ) (to from n : ℕ) → n % 4 ≡ 0 →
    ((j : ℕ) → j < n → get_or s j 0 ≡ get_or m (from + j) 0) → ((j : ℕ) → j < n → get_or d j 0 ≡ get_or m (to + j) 0) →
    ((j : ℕ) → j < n → get_or e (to + j) 0 ≡ get_or r j 0) →
    ((j : ℕ) → j < to → get_or e j 0 ≡ get_or m j 0) → ((j : ℕ) → to + n ≤ j → get_or e j 0 ≡ get_or m j 0) →
    Done (blend_at rule s d) d r 0 n → Done (blend_within rule m to from) m e to (to + n)
unfolding blend_within blend_at
within_parts rule m e s d r to from n four is-s is-d is-e under past did = record {
  done = λ i l u.
      let j : ℕ = i - to in
      let k : ℕ = j / 4 * 4 + 3 in
      let at : to + j ≡ i = omega arith in
      let here : j < n = omega arith in
      let top : k < n = omega arith in
      ap (λ (q : ℕ). get_or e q 0) (sym at)
      ∙ (is-e j here
      ∙ (did.done j (omega arith) here
      ∙ rw (is-s j here, is-s k top, is-d j here, is-d k top, get_or-drop from m j 0, get_or-drop from m k 0, get_or-drop to m j 0, get_or-drop to m k 0)));
  under = under;
  past = past;
}

-- a byte of the middle of three parts, and one past it, where the middle is a part of the first of two
pub middle_at : (low r rest : List ℕ) (to n j : ℕ) → length low ≡ to → length r ≡ n → j < n → get_or (low ++ (r ++ rest)) (to + j) 0 ≡ get_or r j 0
middle_at low r rest to n j long size l = grind (arith, common_steps)

pub past_middle : (m low high r : List ℕ) (to n j : ℕ) → m ≡ low ++ high → length low ≡ to → length r ≡ n → n ≤ length high → to + n ≤ j → get_or (low ++ (r ++ drop n high)) j 0 ≡ get_or m j 0
past_middle m low high r to n j e long size fits l = grind (arith, common_steps)

same_front : (a b high : List ℕ) (j : ℕ) → length a ≡ length b → get_or a j 0 ≡ get_or b j 0 → get_or (a ++ high) j 0 ≡ get_or (b ++ high) j 0
same_front a b high j long same = grind (arith, common_steps)

pub past_at : (m front r high : List ℕ) (to k n j : ℕ) → k ≡ n → m ≡ front ++ high → to + n ≤ length front → length r ≡ n → to + n ≤ j →
    get_or (put_mid to k front r ++ high) j 0 ≡ get_or m j 0
past_at m front r high to k n j q e fits size l =
    rw (q, e) (same_front (put_mid to n front r) front high j (length_put to n front r fits size) (put_past to n front r fits size j l))

-- A part of memory: `overwrite_range` at each byte, and a part that was lent (`mid_of`) and came back (`put_mid`).
use mathlib.Core.Path.{◌≡◌, refl, sym, ap, ◌∙◌}
use mathlib.Core.List.{List, ◌++◌}
use mathlib.Core.Logic.{⊎_elim, ◌≢◌}
use Prim.Native.Nat.{ℕ, ◌+◌, ◌-◌, ◌≤◌, ◌<◌}
use native.Mathlib.Nat.{sub-zero}
use native.Mathlib.Omega.{arith}
use borrow.Rule.Slice.PartMut.{mid_of, put_mid, same_len_mid}
use borrow.Author.Tests.{le-ltb, le-leb, lt-leb}
use lib.ListN.{length, get_or, set, take, drop, length-drop, get_or-append}
use lib.Seq.{ext_get_or, get_or-take, get_or-drop, length-take-le}
use Rattle.word.proofs.Tests.{split}
use Rattle.word.proofs.Splice.{get_or_right}
use Rattle.surface.specs.Memory.{mapi, overwrite_range}
use Rattle.surface.proofs.Mapi.{length-mapi, get_or-mapi, is-mapi, mapi_ext, set-mapi}

-- where i lies to the n places from r on
pub data Side (r n i : ℕ) : Type 0 where
  before : i < r → Side r n i
  inside : r ≤ i → i < r + n → Side r n i
  past : r + n ≤ i → Side r n i

pub side : (r n i : ℕ) → Side r n i
side r n i = ⊎_elim (λ u. before u) (λ u. ⊎_elim (λ v. inside u v) (λ v. past v) (split i (r + n))) (split i r)

-- ---- a byte of `overwrite_range`

module _ (r n : ℕ) (g : ℕ → ℕ → ℕ) (i old : ℕ) where
  pub within-before : i < r → overwrite_range r n g i old ≡ old
  unfolding overwrite_range
  within-before h = simp lt-leb

  pub within_in : r ≤ i → i < r + n → overwrite_range r n g i old ≡ g (i - r) old
  unfolding overwrite_range
  within_in h₁ h =
      let h₂ : i - r < n = omega arith in
      simp le-leb

  pub within-past : r + n ≤ i → overwrite_range r n g i old ≡ old
  unfolding overwrite_range
  within-past h =
      let h₁ : r ≤ i = omega arith in
      let h₂ : n ≤ i - r = omega arith in
      simp (le-leb, le-ltb)

-- a part's bytes go by what is asked for inside it alone
pub within_ext : (r n : ℕ) (f g : ℕ → ℕ → ℕ) (xs : List ℕ) → ((j : ℕ) → j < n → (o : ℕ) → f j o ≡ g j o) →
    mapi (overwrite_range r n f) xs ≡ mapi (overwrite_range r n g) xs
within_ext r n f g xs h = mapi_ext _ _ xs (λ i l. at i (get_or xs i 0) (side r n i))
  where
    at : (i old : ℕ) → Side r n i → overwrite_range r n f i old ≡ overwrite_range r n g i old
    at i old (before v) = within-before r n f i old v ∙ sym (within-before r n g i old v)
    at i old (inside v t) = within_in r n f i old v t ∙ h (i - r) (omega arith) old ∙ sym (within_in r n g i old v t)
    at i old (past t) = within-past r n f i old t ∙ sym (within-past r n g i old t)

-- a part of a part
pub within-within : (d m r n : ℕ) (g : ℕ → ℕ → ℕ) (xs : List ℕ) → r + n ≤ m → mapi (overwrite_range d m (overwrite_range r n g)) xs ≡ mapi (overwrite_range (d + r) n g) xs
within-within d m r n g xs h = mapi_ext _ _ xs (λ i l. at i (get_or xs i 0) (side d m i) (side (d + r) n i))
  where
    at : (i old : ℕ) → Side d m i → Side (d + r) n i → overwrite_range d m (overwrite_range r n g) i old ≡ overwrite_range (d + r) n g i old
    at i old (before v) s = within-before d m _ i old v ∙ sym (within-before (d + r) n g i old (omega arith))
    at i old (past t) s = within-past d m _ i old t ∙ sym (within-past (d + r) n g i old (omega arith))
    at i old (inside v t) (before u) = within_in d m _ i old v t ∙ within-before r n g (i - d) old (omega arith) ∙ sym (within-before (d + r) n g i old u)
    at i old (inside v t) (inside u w) =
        let e : i - d - r ≡ i - (d + r) = omega arith in
        within_in d m _ i old v t ∙ within_in r n g (i - d) old (omega arith) (omega arith) ∙ ap (λ (k : ℕ). g k old) e ∙ sym (within_in (d + r) n g i old u w)
    at i old (inside v t) (past w) = within_in d m _ i old v t ∙ within-past r n g (i - d) old (omega arith) ∙ sym (within-past (d + r) n g i old w)

-- ---- stores in a row: after n of them from r on it is `mapi (within r n g) xs`

pub none_within : (r : ℕ) (g : ℕ → ℕ → ℕ) (xs : List ℕ) → xs ≡ mapi (overwrite_range r 0 g) xs
none_within r g xs =
    is-mapi (overwrite_range r 0 g) xs xs refl
    (λ i l. sym (⊎_elim (λ b. within-before r 0 g i (get_or xs i 0) b) (λ a. within-past r 0 g i (get_or xs i 0) (omega arith)) (split i r)))

-- one store more; `xs` is what the stores before it left
pub set-within : (r n : ℕ) (g : ℕ → ℕ → ℕ) (xs₀ xs : List ℕ) (k v : ℕ) → xs ≡ mapi (overwrite_range r n g) xs₀ → k ≡ r + n → v ≡ g n (get_or xs₀ k 0) →
    set xs k v ≡ mapi (overwrite_range r (n + 1) g) xs₀
set-within r n g xs₀ xs k v m q e =
    let d : k - r ≡ n = omega arith in
    ap (λ (l : List ℕ). set l k v) m
    ∙ set-mapi (overwrite_range r n g) (overwrite_range r (n + 1) g) xs₀ k v
    (e ∙ sym (within_in r (n + 1) g k (get_or xs₀ k 0) (omega arith) (omega arith) ∙ ap (λ (j : ℕ). g j (get_or xs₀ k 0)) d))
    (λ i ne old. at i ne old (side r n i))
  where
    at : (i : ℕ) → i ≢ k → (old : ℕ) → Side r n i → overwrite_range r n g i old ≡ overwrite_range r (n + 1) g i old
    at i ne old (before u) = within-before r n g i old u ∙ sym (within-before r (n + 1) g i old u)
    at i ne old (inside u w) = within_in r n g i old u w ∙ sym (within_in r (n + 1) g i old u (omega arith))
    at i ne old (past w) = within-past r n g i old w ∙ sym (within-past r (n + 1) g i old (omega arith))

-- a part that is the whole
pub all-within : (g : ℕ → ℕ → ℕ) (xs : List ℕ) (k : ℕ) → length xs ≤ k → mapi (overwrite_range 0 k g) xs ≡ mapi g xs
all-within g xs k h =
    mapi_ext (overwrite_range 0 k g) g xs
    (λ i l. within_in 0 k g i (get_or xs i 0) (omega arith) (omega arith) ∙ ap (λ (j : ℕ). g j (get_or xs i 0)) (sub-zero i))

-- ---- a part that was lent and came back

-- each byte of a whole whose part has come back as ys
module _ (r n : ℕ) (xs ys : List ℕ) (fits : r + n ≤ length xs) (long : length ys ≡ n) where
  pub length_put : length (put_mid r n xs ys) ≡ length xs
  length_put = same_len_mid r n xs ys (long ∙ sym (length-take-le n (drop r xs) (rw length-drop (omega arith))))

  pub put_before : (i : ℕ) → i < r → get_or (put_mid r n xs ys) i 0 ≡ get_or xs i 0
  put_before i l = get_or-append (take r xs) (ys ++ drop n (drop r xs)) 0 i (omega (arith, length-take-le r xs (omega arith))) ∙ get_or-take r xs i 0 l

  pub put_in : (i : ℕ) → r ≤ i → i < r + n → get_or (put_mid r n xs ys) i 0 ≡ get_or ys (i - r) 0
  put_in i l m =
      get_or_right (take r xs) (ys ++ drop n (drop r xs)) r i (length-take-le r xs (omega arith)) l ∙ get_or-append ys (drop n (drop r xs)) 0 (i - r) (omega arith)

  pub put_past : (i : ℕ) → r + n ≤ i → get_or (put_mid r n xs ys) i 0 ≡ get_or xs i 0
  put_past i l =
      let w : r + (n + (i - r - n)) ≡ i = omega arith in
      get_or_right (take r xs) (ys ++ drop n (drop r xs)) r i (length-take-le r xs (omega arith)) (omega arith)
      ∙ get_or_right ys (drop n (drop r xs)) n (i - r) long (omega arith)
      ∙ get_or-drop n (drop r xs) (i - r - n) 0
      ∙ get_or-drop r xs (n + (i - r - n)) 0
      ∙ ap (λ (k : ℕ). get_or xs k 0) w

-- each byte of a part, and how many there are
pub get_or_mid : (r n : ℕ) (xs : List ℕ) (j : ℕ) → j < n → get_or (mid_of r n xs) j 0 ≡ get_or xs (r + j) 0
get_or_mid r n xs j l = get_or-take n (drop r xs) j 0 l ∙ get_or-drop r xs j 0

pub length_mid : (r n : ℕ) (xs : List ℕ) → r + n ≤ length xs → length (mid_of r n xs) ≡ n
length_mid r n xs h = length-take-le n (drop r xs) (rw length-drop (omega arith))

-- the part that changed is what it was changed to
pub mid_put : (r n : ℕ) (xs ys : List ℕ) → r + n ≤ length xs → length ys ≡ n → mid_of r n (put_mid r n xs ys) ≡ ys
mid_put r n xs ys f l =
    ext_get_or 0 (mid_of r n (put_mid r n xs ys)) ys (length_mid r n _ (omega (arith, length_put r n xs ys f l)) ∙ sym l)
    (λ j v.
    let z : j < n = omega (arith, length_mid r n (put_mid r n xs ys) (omega (arith, length_put r n xs ys f l))) in
    let e : r + j - r ≡ j = omega arith in
    get_or_mid r n (put_mid r n xs ys) j z ∙ put_in r n xs ys f l (r + j) (omega arith) (omega arith) ∙ ap (λ (k : ℕ). get_or ys k 0) e)

put_mapi : (g : ℕ → ℕ → ℕ) (xs : List ℕ) (r n : ℕ) → r + n ≤ length xs → put_mid r n xs (mapi g (mid_of r n xs)) ≡ mapi (overwrite_range r n g) xs
put_mapi g xs r n h = is-mapi (overwrite_range r n g) xs (put_mid r n xs M) (length_put r n xs M h lm) (λ i l. at i l (side r n i))
  where
    M : List ℕ
    M = mapi g (mid_of r n xs)

    lm : length M ≡ n
    lm = length-mapi g (mid_of r n xs) ∙ length_mid r n xs h

    at : (i : ℕ) → i < length xs → Side r n i → get_or (put_mid r n xs M) i 0 ≡ overwrite_range r n g i (get_or xs i 0)
    at i l (before u) = put_before r n xs M h lm i u ∙ sym (within-before r n g i (get_or xs i 0) u)
    at i l (inside u v) =
        let w : r + (i - r) ≡ i = omega arith in
        put_in r n xs M h lm i u v
        ∙ get_or-mapi g (mid_of r n xs) (i - r) (omega (arith, length_mid r n xs h))
        ∙ ap (g (i - r)) (get_or_mid r n xs (i - r) (omega arith) ∙ ap (λ (k : ℕ). get_or xs k 0) w)
        ∙ sym (within_in r n g i (get_or xs i 0) u v)
    at i l (past v) = put_past r n xs M h lm i v ∙ sym (within-past r n g i (get_or xs i 0) v)

-- the whole, after a part of n bytes from r on came back as `mapi g` of what it was. k is the part's length as the borrow
-- checker says it
pub part_mapi : (g : ℕ → ℕ → ℕ) (xs ys : List ℕ) (r k n : ℕ) → k ≡ n → r + n ≤ length xs → ys ≡ mapi g (mid_of r k xs) →
    put_mid r k xs ys ≡ mapi (overwrite_range r n g) xs
part_mapi g xs ys r k n e h m = rw m (rw e (put_mapi g xs r n h))

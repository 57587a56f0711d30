-- Laws of `mapi`: a list changed element by element, and one store more.
use mathlib.Core.Path.{◌≡◌, refl, sym, ap, ◌∙◌}
use mathlib.Core.List.{List, [], ◌∷◌}
use mathlib.Core.Logic.{◌≢◌}
use Prim.Native.Nat.{ℕ, zero, suc, ◌<◌}
use native.Mathlib.Nat.{not-suc-le-zero, le_of_suc-le-suc}
use native.Mathlib.Omega.{arith}
use native.Mathlib.Decide.{ℕ_discrete}
use lib.ListN.{length, get_or, set, length-set}
use lib.Seq.{ext_get_or, get_or-set_same, get_or-set_other}
use Rattle.surface.specs.Memory.{mapi}

pub length-mapi : (f : ℕ → ℕ → ℕ) (xs : List ℕ) → length (mapi f xs) ≡ length xs
unfolding mapi
length-mapi f [] = refl
length-mapi f (x ∷ xs) = ap suc (length-mapi (λ (i : ℕ). f (suc i)) xs)

pub get_or-mapi : (f : ℕ → ℕ → ℕ) (xs : List ℕ) (i : ℕ) → i < length xs → get_or (mapi f xs) i 0 ≡ f i (get_or xs i 0)
unfolding mapi
get_or-mapi f [] i h = absurd (not-suc-le-zero h)
get_or-mapi f (x ∷ xs) zero h = refl
get_or-mapi f (x ∷ xs) (suc i) h = get_or-mapi (λ (i : ℕ). f (suc i)) xs i (le_of_suc-le-suc h)

-- an element that stays, also past the end
pub mapi-stays : (f : ℕ → ℕ → ℕ) (xs : List ℕ) (i : ℕ) → ((old : ℕ) → f i old ≡ old) → get_or (mapi f xs) i 0 ≡ get_or xs i 0
unfolding mapi
mapi-stays f [] i h = refl
mapi-stays f (x ∷ xs) zero h = h x
mapi-stays f (x ∷ xs) (suc i) h = mapi-stays (λ (i : ℕ). f (suc i)) xs i h

-- lists that agree at an element agree there after the same change
pub mapi_agree : (f : ℕ → ℕ → ℕ) (xs ys : List ℕ) (i : ℕ) → length xs ≡ length ys → i < length xs → get_or xs i 0 ≡ get_or ys i 0 →
    get_or (mapi f xs) i 0 ≡ get_or (mapi f ys) i 0
mapi_agree f xs ys i e l h = get_or-mapi f xs i l ∙ ap (f i) h ∙ sym (get_or-mapi f ys i (omega arith))

-- a list is `mapi f xs` if it is as long and each element is right
pub is-mapi : (f : ℕ → ℕ → ℕ) (xs ys : List ℕ) → length ys ≡ length xs → ((i : ℕ) → i < length xs → get_or ys i 0 ≡ f i (get_or xs i 0)) → ys ≡ mapi f xs
is-mapi f xs ys e h =
    ext_get_or 0 ys (mapi f xs) (e ∙ sym (length-mapi f xs))
    (λ i l. let l' : i < length xs = omega arith in h i l' ∙ sym (get_or-mapi f xs i l'))

-- functions that agree at each element of a list make the same of it
pub mapi_ext : (f g : ℕ → ℕ → ℕ) (xs : List ℕ) → ((i : ℕ) → i < length xs → f i (get_or xs i 0) ≡ g i (get_or xs i 0)) → mapi f xs ≡ mapi g xs
mapi_ext f g xs h = is-mapi g xs (mapi f xs) (length-mapi f xs) (λ i l. get_or-mapi f xs i l ∙ h i l)

-- one change after another
pub mapi-mapi : (f g : ℕ → ℕ → ℕ) (xs : List ℕ) → mapi f (mapi g xs) ≡ mapi (λ (i old : ℕ). f i (g i old)) xs
unfolding mapi
mapi-mapi f g [] = refl
mapi-mapi f g (x ∷ xs) = ap (λ (l : List ℕ). f 0 (g 0 x) ∷ l) (mapi-mapi (λ (i : ℕ). f (suc i)) (λ (i : ℕ). g (suc i)) xs)

pub mapi-same : (xs : List ℕ) → mapi (λ (i old : ℕ). old) xs ≡ xs
unfolding mapi
mapi-same [] = refl
mapi-same (x ∷ xs) = ap (λ (l : List ℕ). x ∷ l) (mapi-same xs)

-- after a store at k of what `g` says, where `f` and `g` agree elsewhere
pub set-mapi : (f g : ℕ → ℕ → ℕ) (xs : List ℕ) (k v : ℕ) → v ≡ g k (get_or xs k 0) → ((i : ℕ) → i ≢ k → (old : ℕ) → f i old ≡ g i old) →
    set (mapi f xs) k v ≡ mapi g xs
set-mapi f g xs k v e h =
    is-mapi g xs (set (mapi f xs) k v) (length-set (mapi f xs) k v ∙ length-mapi f xs)
    (λ i l. at i l (ℕ_discrete i k))
  where
    at : (i : ℕ) → i < length xs → Dec (i ≡ k) → get_or (set (mapi f xs) k v) i 0 ≡ g i (get_or xs i 0)
    at i l (yes q) = rw q (get_or-set_same (mapi f xs) k v 0 (rw (length-mapi f xs, ← q) l) ∙ e)
    at i l (no n) = get_or-set_other (mapi f xs) k i v 0 n ∙ get_or-mapi f xs i l ∙ h i n (get_or xs i 0)

-- The laws of the sixteen settings, each computed once over all of them.
use mathlib.Core.Path.{◌≡◌, refl, ap, ◌∙◌}
use mathlib.Core.Bool.{Bool, true, false, cond, not, ◌||◌}
use mathlib.Core.Logic.{◌⊎◌, inl, inr, ⊎_elim, ◌↔◌}
use Prim.Native.Nat.{ℕ}
use lib.Dec.{T, T_not, eqb, eqb_refl}
use Rattle.transform.specs.declared.Transform.{Transform}
use Rattle.orientation.specs.Compose.{compose, neutral, inverse, opposite, SameOrientation, orientation}
use Rattle.orientation.specs.Bits.{setting_of, bits_of}
use Rattle.orientation.specs.Laws.{Settings, ReadBack}
use Rattle.orientation.proofs.Each.{every, each, number_of, same, same_alike, one, two, three}

associative : (a b c : Transform) → compose (compose a b) c ≡ compose a (compose b c)
unfolding compose
associative = three (λ a b c. compose (compose a b) c) (λ a b c. compose a (compose b c)) tt

neutral_first : (t : Transform) → compose neutral t ≡ t
unfolding compose
neutral_first = one (λ t. compose neutral t) (λ t. t) tt

neutral_second : (t : Transform) → compose t neutral ≡ t
unfolding compose
neutral_second = one (λ t. compose t neutral) (λ t. t) tt

inverse_second : (t : Transform) → compose t (inverse t) ≡ neutral
unfolding compose inverse
inverse_second = one (λ t. compose t (inverse t)) (λ t. neutral) tt

inverse_first : (t : Transform) → compose (inverse t) t ≡ neutral
unfolding compose inverse
inverse_first = one (λ t. compose (inverse t) t) (λ t. neutral) tt

-- ---- orientations

no_v : (t : Transform) → (orientation t).flip.vertical ≡ false
unfolding orientation opposite
no_v t = is t.flip.vertical refl
  where
    is : (v : Bool) → t.flip.vertical ≡ v → (cond v (opposite t) t).flip.vertical ≡ false
    is true e = ap not e
    is false e = e

same-opposite : (t : Transform) → orientation (opposite t) ≡ orientation t
unfolding orientation opposite
same-opposite = one (λ t. orientation (opposite t)) orientation tt

-- one of the two settings of an orientation
abbrev either-one : Transform → Transform → Bool
either-one a b = same a b || same a (opposite b)

or_split : (a b : Bool) → T (a || b) → T a ⊎ T b
or_split true b t = inl tt
or_split false b t = inr t

split : (a b : Transform) → T (either-one a b) → SameOrientation a b
split a b t = ⊎_elim (λ (h : T (same a b)). inl (same_alike a b h)) (λ (h : T (same a (opposite b))). inr (same_alike a (opposite b) h)) (or_split (same a b) (same a (opposite b)) t)

pub itself : (t : Transform) → SameOrientation (orientation t) t
unfolding orientation opposite
itself t = split (orientation t) t (each (λ (t : Transform). either-one (orientation t) t) tt t)

-- a number that no two settings of different orientation share distinguishes them
pub distinguishes : (seen : Transform → ℕ) → T (every (λ (a : Transform). every (λ (b : Transform). either-one a b || not (eqb (seen a) (seen b))))) →
    (a b : Transform) → seen a ≡ seen b → SameOrientation a b
distinguishes seen all a b e =
    ⊎_elim (split a b) (λ (n : T (not (eqb (seen a) (seen b)))). absurd (T_not (eqb (seen a) (seen b)) n alike))
    (or_split (either-one a b) (not (eqb (seen a) (seen b)))
    (each (λ (b : Transform). either-one a b || not (eqb (seen a) (seen b)))
    (each (λ (a : Transform). every (λ (b : Transform). either-one a b || not (eqb (seen a) (seen b)))) all a) b))
  where
    alike : T (eqb (seen a) (seen b))
    alike = rw e (eqb_refl (seen b))

-- settings with the same one of the eight are the same setting or opposite ones
agree : (a b : Transform) → orientation a ≡ orientation b → SameOrientation a b
unfolding orientation opposite
agree a b e = distinguishes (λ (t : Transform). number_of (orientation t)) tt a b (ap number_of e)

pub oriented : (a b : Transform) → (orientation a ≡ orientation b) ↔ SameOrientation a b
oriented a b =
    (agree a b, λ s. ⊎_elim (λ (e : a ≡ b). ap orientation e) (λ (e : a ≡ opposite b). ap orientation e ∙ same-opposite b) s)

composed : (a b : Transform) → orientation (compose (orientation a) (orientation b)) ≡ orientation (compose a b)
unfolding compose orientation opposite
composed = two (λ a b. orientation (compose (orientation a) (orientation b))) (λ a b. orientation (compose a b)) tt

-- ---- as bits

pub read_back : ReadBack
unfolding setting_of bits_of
read_back = one (λ t. setting_of (bits_of t)) (λ t. t) tt

pub settings : Settings
settings = record {
  associative = associative;
  neutral_first = neutral_first;
  neutral_second = neutral_second;
  inverse_second = inverse_second;
  inverse_first = inverse_first;
  upright = no_v;
  oriented = oriented;
  itself = itself;
  composed = composed;
}

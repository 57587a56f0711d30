-- The source pixel of a composed setting is that of the first, of that of the second: a turn after a turn, a flip after a flip, and a flip
-- after a turn, which is another flip before it.
use mathlib.Core.Path.{◌≡◌, refl, sym, ap, ◌∙◌}
use mathlib.Core.Bool.{Bool, true, false}
use Prim.Native.Nat.{ℕ, ◌-◌, ◌<◌}
use native.Mathlib.Omega.{arith}
use Rattle.transform.specs.declared.Rotation.{Rotation}
use Rattle.transform.specs.declared.Rotation.TheVariants.{Rotate0, Rotate90, Rotate180, Rotate270}
use Rattle.transform.specs.declared.Flip.{Flip}
use Rattle.transform.specs.declared.Transform.{Transform}
use Rattle.transform.specs.declared.Size.{Size}
use Rattle.transform.specs.declared.Point.{Point}
use Rattle.transform.specs.Transform.{InPicture, rotated_size, unrotated, mirrored, unflipped, source_pixel}
use Rattle.orientation.specs.Compose.{quarter, added, is_odd, either, flipped_twice, exchanged, compose}
use Rattle.orientation.specs.Laws.{Composes}
use Rattle.transform.proofs.Inside.{unrotated-within}

point : {x x' y y' : ℕ} → x ≡ x' → y ≡ y' → ◌≡◌ {A = Point} (record { x = x; y = y }) (record { x = x'; y = y' })
point p q = λ i. record { x = p i; y = q i }

-- ---- a turn after a turn

quarter-size : (r : Rotation) (s : Size) → rotated_size (quarter r) s ≡ rotated_size r (rotated_size Rotate90 s)
quarter-size Rotate0 s = refl
quarter-size Rotate90 s = refl
quarter-size Rotate180 s = refl
quarter-size Rotate270 s = refl

pub added-size : (a b : Rotation) (s : Size) → rotated_size (added a b) s ≡ rotated_size b (rotated_size a s)
added-size Rotate0 b s = refl
added-size Rotate90 b s = quarter-size b s
added-size Rotate180 b s = quarter-size (quarter b) s ∙ quarter-size b (rotated_size Rotate90 s)
added-size Rotate270 b s =
    quarter-size (quarter (quarter b)) s ∙ quarter-size (quarter b) (rotated_size Rotate90 s) ∙ quarter-size b s

quarter_turn : (r : Rotation) (s : Size) (p : Point) → InPicture (rotated_size (quarter r) s) p →
    unrotated (quarter r) s p ≡ unrotated Rotate90 s (unrotated r (rotated_size Rotate90 s) p)
quarter_turn Rotate0 s p h = refl
quarter_turn Rotate90 s p h = refl
quarter_turn Rotate180 s p h = point refl (omega (arith, h.across))
quarter_turn Rotate270 s p h = point refl (omega (arith, h.down))

turn_turn : (a b : Rotation) (s : Size) (p : Point) → InPicture (rotated_size (added a b) s) p →
    unrotated (added a b) s p ≡ unrotated a s (unrotated b (rotated_size a s) p)
turn_turn Rotate0 b s p h = refl
turn_turn Rotate90 b s p h = quarter_turn b s p h
turn_turn Rotate180 b s p h =
    let s' = rotated_size Rotate90 s in
    quarter_turn (quarter b) s p h ∙ ap (unrotated Rotate90 s) (quarter_turn b s' p (rw (quarter-size (quarter b) s) at h))
turn_turn Rotate270 b s p h =
    let s' = rotated_size Rotate90 s in
    let h' : InPicture (rotated_size (quarter (quarter b)) s') p = rw (quarter-size (quarter (quarter b)) s) at h in
    let h'' : InPicture (rotated_size (quarter b) s) p = rw (quarter-size (quarter b) s') at h' in
    let h''' : InPicture (rotated_size b s') p = rw (quarter-size b s) at h'' in
    quarter_turn (quarter (quarter b)) s p h
    ∙ ap (unrotated Rotate90 s) (quarter_turn (quarter b) s' p h' ∙ ap (unrotated Rotate90 s') (quarter_turn b s p h''))
    ∙ sym (quarter_turn Rotate180 s (unrotated b s' p) (unrotated-within b s' p h'''))

-- ---- a flip after a flip

mirrored-twice : (a b : Bool) (n i : ℕ) → i < n → mirrored a n (mirrored b n i) ≡ mirrored (either a b) n i
mirrored-twice true true n i h = omega arith
mirrored-twice true false n i h = refl
mirrored-twice false true n i h = refl
mirrored-twice false false n i h = refl

flip-flip : (f g : Flip) (s : Size) (p : Point) → InPicture s p → unflipped f s (unflipped g s p) ≡ unflipped (flipped_twice f g) s p
flip-flip f g s p h =
    point
    (mirrored-twice f.horizontal g.horizontal s.width p.x h.across)
    (mirrored-twice f.vertical g.vertical s.height p.y h.down)

-- ---- a flip after a turn

-- a place counted from the other end, and again, in either order
mirrored-mirror : (on : Bool) (n i : ℕ) → n - 1 - mirrored on n i ≡ mirrored on n (n - 1 - i)
mirrored-mirror true n i = refl
mirrored-mirror false n i = refl

turn_flip : (r : Rotation) (f : Flip) (s : Size) (p : Point) →
    unrotated r s (unflipped f (rotated_size r s) p) ≡ unflipped (exchanged (is_odd r) f) s (unrotated r s p)
turn_flip Rotate0 f s p = refl
turn_flip Rotate90 f s p = point refl (mirrored-mirror f.horizontal s.height p.x)
turn_flip Rotate180 f s p = point (mirrored-mirror f.horizontal s.width p.x) (mirrored-mirror f.vertical s.height p.y)
turn_flip Rotate270 f s p = point (mirrored-mirror f.vertical s.width p.y) refl

-- ---- all together

pub composed-source : (a b : Transform) (s : Size) (p : Point) → InPicture (rotated_size (compose a b).rotation s) p →
    source_pixel (compose a b) s p ≡ source_pixel a s (source_pixel b (rotated_size a.rotation s) p)
unfolding compose source_pixel
composed-source a b s p h =
    let f = a.flip in
    let g = exchanged (is_odd a.rotation) b.flip in
    let turned = turn_turn a.rotation b.rotation s p h in
    let inner = unrotated-within (added a.rotation b.rotation) s p h in
    sym (flip-flip f g s (unrotated (added a.rotation b.rotation) s p) inner)
    ∙ ap (λ (q : Point). unflipped f s (unflipped g s q)) turned
    ∙ ap (unflipped f s) (sym (turn_flip a.rotation b.flip s (unrotated b.rotation (rotated_size a.rotation s) p)))

pub composes : Composes
unfolding compose
composes = record { size = λ a b s. added-size a.rotation b.rotation s; source = composed-source }

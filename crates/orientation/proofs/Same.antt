-- Settings bring the same source pixel to each place of every picture exactly if they have the same orientation.
use mathlib.Core.Path.{◌≡◌, refl, ap, ap₂, ◌∙◌}
use mathlib.Core.Bool.{true}
use mathlib.Core.Logic.{⊎_elim}
use Prim.Native.Nat.{ℕ, ◌+◌, ◌-◌, ◌*◌, ◌<◌}
use native.Mathlib.Omega.{arith}
use lib.Dec.{lit<}
use Rattle.transform.specs.declared.Rotation.{Rotation}
use Rattle.transform.specs.declared.Rotation.TheVariants.{Rotate0, Rotate90, Rotate180, Rotate270}
use Rattle.transform.specs.declared.Transform.{Transform}
use Rattle.transform.specs.declared.Size.{Size}
use Rattle.transform.specs.declared.Point.{Point}
use Rattle.transform.specs.Transform.{InPicture, rotated_size, source_pixel}
use Rattle.orientation.specs.Compose.{compose, opposite, SameOrientation}
use Rattle.orientation.specs.Laws.{Alike, square, place, Exactly}
use Rattle.transform.proofs.Inside.{source-within}
use Rattle.orientation.proofs.Each.{one}
use Rattle.orientation.proofs.Composed.{added-size, composed-source}
use Rattle.orientation.proofs.Settings.{distinguishes}

-- ---- the same orientation

-- both flips and half a turn leave every pixel where it is
abbrev over : Transform
over = record { flip = record { horizontal = true; vertical = true }; rotation = Rotate180 }

over-stays : (s : Size) (p : Point) → InPicture s p → source_pixel over s p ≡ p
unfolding source_pixel
over-stays s p h =
    let x : s.width - 1 - (s.width - 1 - p.x) ≡ p.x = omega (arith, h.across) in
    let y : s.height - 1 - (s.height - 1 - p.y) ≡ p.y = omega (arith, h.down) in
    λ i. record { x = x i; y = y i }

-- and the opposite setting is these and then the setting
over-opposite : (t : Transform) → opposite t ≡ compose over t
unfolding opposite compose
over-opposite = one opposite (compose over) tt

opposite-size : (t : Transform) (s : Size) → rotated_size (opposite t).rotation s ≡ rotated_size t.rotation s
unfolding opposite
opposite-size t s = added-size Rotate180 t.rotation s

opposite-source : (t : Transform) (s : Size) (p : Point) → InPicture (rotated_size t.rotation s) p → source_pixel (opposite t) s p ≡ source_pixel t s p
opposite-source t s p h =
    let e = over-opposite t in
    let h' : InPicture (rotated_size (compose over t).rotation s) p = rw (← e, opposite-size t s) h in
    ap (λ (u : Transform). source_pixel u s p) e ∙ composed-source over t s p h' ∙ over-stays s (source_pixel t s p) (source-within t s p h)

alike : (a b : Transform) → SameOrientation a b → Alike a b
alike a b o =
    ⊎_elim
    (λ (e : a ≡ b). record { size = λ s. ap (λ (t : Transform). rotated_size t.rotation s) e; source = λ s p h. ap (λ (t : Transform). source_pixel t s p) e })
    (λ (e : a ≡ opposite b).
    let size : (s : Size) → rotated_size a.rotation s ≡ rotated_size b.rotation s = λ s. ap (λ (t : Transform). rotated_size t.rotation s) e ∙ opposite-size b s in
    record { size = size; source = λ s p h. ap (λ (t : Transform). source_pixel t s p) e ∙ opposite-source b s p (rw (size s) at h) })
    o

-- ---- another orientation

-- what two places of a picture of 2 by 2 show, as one number
abbrev at : Point → ℕ
at p = p.x + 2 * p.y

seen : Transform → ℕ
seen t = at (source_pixel t square (place 0)) + 4 * at (source_pixel t square (place 1))

determined : (a b : Transform) → source_pixel a square (place 0) ≡ source_pixel b square (place 0) → source_pixel a square (place 1) ≡ source_pixel b square (place 1) →
    SameOrientation a b
unfolding seen source_pixel opposite
determined a b e f = distinguishes seen tt a b (ap₂ (λ (p q : Point). at p + 4 * at q) e f)

-- turned, it is again 2 by 2
pub turned-square : (r : Rotation) → rotated_size r square ≡ square
turned-square Rotate0 = refl
turned-square Rotate90 = refl
turned-square Rotate180 = refl
turned-square Rotate270 = refl

square-within : (r : Rotation) (x : ℕ) → x < 2 → InPicture (rotated_size r square) (place x)
square-within r x l = rw (turned-square r) (record { across = l; down = lit< tt })

same : (a b : Transform) → Alike a b → SameOrientation a b
same a b h = determined a b (h.source square (place 0) (square-within a.rotation 0 (lit< tt))) (h.source square (place 1) (square-within a.rotation 1 (lit< tt)))

pub exactly : Exactly
exactly = record { alike = alike; same = same; determined = determined }

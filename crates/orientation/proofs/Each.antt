-- A test of settings that antt computes over all sixteen, and what it says of each.
use mathlib.Core.Path.{◌≡◌, refl, sym, ap, ◌∙◌}
use mathlib.Core.Bool.{Bool, true, false, cond, ◌&&◌, beq}
use Prim.Native.Nat.{ℕ, ◌+◌}
use lib.Dec.{T, eqb, eqb→eq}
use Rattle.transform.specs.declared.Rotation.{Rotation}
use Rattle.transform.specs.declared.Rotation.TheVariants.{Rotate0, Rotate90, Rotate180, Rotate270}
use Rattle.transform.specs.declared.Transform.{Transform}
use Rattle.transform.specs.Transform.{rotation_of, turns}

-- ---- all settings

abbrev setting : Bool → Bool → Rotation → Transform
setting h v r = record { flip = record { horizontal = h; vertical = v }; rotation = r }

abbrev both_ways : (Bool → Bool) → Bool
both_ways f = f false && f true

abbrev all_turns : (Rotation → Bool) → Bool
all_turns f = f Rotate0 && (f Rotate90 && (f Rotate180 && f Rotate270))

abbrev pub every : (Transform → Bool) → Bool
every f = both_ways (λ (h : Bool). both_ways (λ (v : Bool). all_turns (λ (r : Rotation). f (setting h v r))))

left : (a b : Bool) → T (a && b) → T a
left true b t = tt
left false b t = t

right : (a b : Bool) → T (a && b) → T b
right true b t = t
right false b t = absurd t

one_way : (f : Bool → Bool) → T (both_ways f) → (b : Bool) → T (f b)
one_way f t false = left (f false) (f true) t
one_way f t true = right (f false) (f true) t

one_turn : (f : Rotation → Bool) → T (all_turns f) → (r : Rotation) → T (f r)
one_turn f t Rotate0 = left (f Rotate0) _ t
one_turn f t Rotate90 = left (f Rotate90) _ (right (f Rotate0) _ t)
one_turn f t Rotate180 = left (f Rotate180) _ (right (f Rotate90) _ (right (f Rotate0) _ t))
one_turn f t Rotate270 = right (f Rotate180) _ (right (f Rotate90) _ (right (f Rotate0) _ t))

-- a test that every setting passes, each passes
pub each : (f : Transform → Bool) → T (every f) → (t : Transform) → T (f t)
each f all t =
    one_turn (λ r. f (setting t.flip.horizontal t.flip.vertical r))
    (one_way (λ v. all_turns (λ r. f (setting t.flip.horizontal v r)))
    (one_way (λ h. both_ways (λ v. all_turns (λ r. f (setting h v r)))) all t.flip.horizontal)
    t.flip.vertical)
    t.rotation

-- ---- when two are alike

turn_turns : (r : Rotation) → rotation_of (turns r) ≡ r
turn_turns Rotate0 = refl
turn_turns Rotate90 = refl
turn_turns Rotate180 = refl
turn_turns Rotate270 = refl

-- a number for each setting
abbrev pub number_of : Transform → ℕ
number_of t = turns t.rotation + cond t.flip.horizontal 4 0 + cond t.flip.vertical 8 0

abbrev same_h : Transform → Transform → Bool
same_h a b = beq a.flip.horizontal b.flip.horizontal

abbrev same_v : Transform → Transform → Bool
same_v a b = beq a.flip.vertical b.flip.vertical

abbrev same_r : Transform → Transform → Bool
same_r a b = eqb (turns a.rotation) (turns b.rotation)

abbrev pub same : Transform → Transform → Bool
same a b = same_h a b && (same_v a b && same_r a b)

beq_same : (a b : Bool) → T (beq a b) → a ≡ b
beq_same true true t = refl
beq_same true false t = absurd t
beq_same false true t = absurd t
beq_same false false t = refl

pub same_alike : (a b : Transform) → T (same a b) → a ≡ b
same_alike a b t =
    let rest = right (same_h a b) (same_v a b && same_r a b) t in
    let h = beq_same a.flip.horizontal b.flip.horizontal (left (same_h a b) (same_v a b && same_r a b) t) in
    let v = beq_same a.flip.vertical b.flip.vertical (left (same_v a b) (same_r a b) rest) in
    let n = eqb→eq (turns a.rotation) (turns b.rotation) (right (same_v a b) (same_r a b) rest) in
    let r : a.rotation ≡ b.rotation = sym (turn_turns a.rotation) ∙ ap rotation_of n ∙ turn_turns b.rotation in
    λ i. record { flip = record { horizontal = h i; vertical = v i }; rotation = r i }

-- ---- an equation over all settings, computed once

-- of one setting, of two, of three
pub one : (f g : Transform → Transform) → T (every (λ (a : Transform). same (f a) (g a))) → (a : Transform) → f a ≡ g a
one f g all a = same_alike (f a) (g a) (each (λ (a : Transform). same (f a) (g a)) all a)

pub two : (f g : Transform → Transform → Transform) → T (every (λ (a : Transform). every (λ (b : Transform). same (f a b) (g a b)))) →
    (a b : Transform) → f a b ≡ g a b
two f g all a b = one (f a) (g a) (each (λ (a : Transform). every (λ (b : Transform). same (f a b) (g a b))) all a) b

pub three : (f g : Transform → Transform → Transform → Transform) →
    T (every (λ (a : Transform). every (λ (b : Transform). every (λ (c : Transform). same (f a b c) (g a b c))))) →
    (a b c : Transform) → f a b c ≡ g a b c
three f g all a b c = two (f a) (g a) (each (λ (a : Transform). every (λ (b : Transform). every (λ (c : Transform). same (f a b c) (g a b c)))) all a) b c

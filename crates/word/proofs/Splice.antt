-- Laws of `spliced`: its length, each of its elements, its parts, and stores one after another.
use mathlib.Core.Path.{◌≡◌, refl, ap, sym, ◌∙◌}
use mathlib.Core.List.{List, [], ◌++◌, append_assoc}
use Prim.Native.Nat.{ℕ, ◌+◌, ◌-◌, ◌≤◌, ◌<◌}
use native.Mathlib.Nat.{add-zero}
use native.Mathlib.Omega.{arith}
use lib.ListN.{length, take, drop, get_or, length-append, length-take, length-drop, take-append-drop, get_or-append}
use lib.Seq.{sets, sets-eq, get_or-take, get_or-drop, get_or-append-add, length-take-le, take_at, drop_at, drop-drop}
use Rattle.word.specs.Splice.{spliced}

-- stores one after the other
pub sets-spliced : (at : ℕ) (ys xs : List ℕ) → at + length ys ≤ length xs → sets xs at ys ≡ spliced at ys xs
unfolding spliced
sets-spliced at ys xs fits = sets-eq ys xs at fits ∙ append_assoc (take at xs) ys (drop (at + length ys) xs)

-- an element past the first list of an append
pub get_or_right : (p q : List ℕ) (m i : ℕ) → length p ≡ m → m ≤ i → get_or (p ++ q) i 0 ≡ get_or q (i - m) 0
get_or_right p q m i e h =
    let w : i ≡ length p + (i - m) = omega arith in
    ap (λ (k : ℕ). get_or (p ++ q) k 0) w ∙ get_or-append-add p q (i - m) 0

module _ (at : ℕ) (ys xs : List ℕ) (fits : at + length ys ≤ length xs) where
  pub length-spliced : length (spliced at ys xs) ≡ length xs
  unfolding spliced
  length-spliced = simp (length-append, length-take, length-drop) (omega arith)

  pub spliced-before : (i : ℕ) → i < at → get_or (spliced at ys xs) i 0 ≡ get_or xs i 0
  unfolding spliced
  spliced-before i h =
      let front : length (take at xs) ≡ at = length-take-le at xs (omega arith) in
      get_or-append (take at xs) (ys ++ drop (at + length ys) xs) 0 i (omega arith) ∙ get_or-take at xs i 0 h

  pub spliced_in : (i : ℕ) → at ≤ i → i < at + length ys → get_or (spliced at ys xs) i 0 ≡ get_or ys (i - at) 0
  unfolding spliced
  spliced_in i h k =
      let front : length (take at xs) ≡ at = length-take-le at xs (omega arith) in
      get_or_right (take at xs) (ys ++ drop (at + length ys) xs) at i front h ∙ get_or-append ys (drop (at + length ys) xs) 0 (i - at) (omega arith)

  pub spliced-past : (i : ℕ) → at + length ys ≤ i → get_or (spliced at ys xs) i 0 ≡ get_or xs i 0
  unfolding spliced
  spliced-past i h =
      let front : length (take at xs) ≡ at = length-take-le at xs (omega arith) in
      let back : at + length ys + (i - at - length ys) ≡ i = omega arith in
      get_or_right (take at xs) (ys ++ drop (at + length ys) xs) at i front (omega arith)
      ∙ get_or_right ys (drop (at + length ys) xs) (length ys) (i - at) refl (omega arith)
      ∙ get_or-drop (at + length ys) xs (i - at - length ys) 0
      ∙ ap (λ (k : ℕ). get_or xs k 0) back

  front : length (take at xs ++ ys) ≡ at + length ys
  front = length-append (take at xs) ys ∙ ap (λ (n : ℕ). n + length ys) (length-take-le at xs (omega arith))

  grouped : spliced at ys xs ≡ (take at xs ++ ys) ++ drop (at + length ys) xs
  unfolding spliced
  grouped = sym (append_assoc (take at xs) ys (drop (at + length ys) xs))

  -- up to the end of what was put in
  pub take-spliced : take (at + length ys) (spliced at ys xs) ≡ take at xs ++ ys
  take-spliced = rw grouped (take_at (take at xs ++ ys) (drop (at + length ys) xs) (at + length ys) front)

  -- and past it
  pub drop-spliced : drop (at + length ys) (spliced at ys xs) ≡ drop (at + length ys) xs
  drop-spliced = rw grouped (drop_at (take at xs ++ ys) (drop (at + length ys) xs) (at + length ys) front)

-- nothing put in
pub spliced-none : (at : ℕ) (xs : List ℕ) → spliced at [] xs ≡ xs
unfolding spliced
spliced-none at xs = rw (add-zero at) (take-append-drop at xs)

-- two runs put in, the second where the first ends
pub spliced-on : (at : ℕ) (a b xs : List ℕ) → at + (length a + length b) ≤ length xs → spliced (at + length a) b (spliced at a xs) ≡ spliced at (a ++ b) xs
unfolding spliced
spliced-on at a b xs fits =
    let end : at + length a + length b ≡ at + length (a ++ b) = simp length-append (omega arith) in
    let past : drop (at + length a + length b) (spliced at a xs) ≡ drop (at + length (a ++ b)) xs =
    sym (drop-drop (length b) (at + length a) (spliced at a xs))
    ∙ ap (drop (length b)) (drop-spliced at a xs (omega arith))
    ∙ drop-drop (length b) (at + length a) xs
    ∙ ap (λ (n : ℕ). drop n xs) end
    in
    rw (take-spliced at a xs (omega arith), past) (simp append_assoc)

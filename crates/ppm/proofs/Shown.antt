-- Laws of pictures: a header typed part by part, and a row put down pixel by pixel.
use mathlib.Core.Path.{◌≡◌, ap, ◌∙◌}
use mathlib.Core.List.{List, [], ◌∷◌, ◌++◌}
use mathlib.Core.Bool.{true}
use Prim.Native.Nat.{ℕ, ◌+◌, ◌*◌, ◌/◌, ◌%◌, ◌≤◌, ◌<◌}
use native.Mathlib.Omega.{arith}
use lib.ListN.{length, set}
use lib.Dec.{leb}
use borrow.Author.Tests.{leb-true}
use Rattle.word.proofs.Tests.{and-true}
use Rattle.text.specs.Line.{Line, pushed, appended}
use Rattle.text.specs.Decimal.{decimal}
use Rattle.text.proofs.Typing.{typed-append, typed-cons}
use Rattle.pixel.specs.declared.colour.Colour.{Colour}
use Rattle.surface.specs.declared.Surface.{Surface}
use Rattle.surface.specs.Surface.{row_start, row_length}
use Rattle.surface.proofs.Parts.{none_within, set-within}
use Rattle.ppm.specs.Picture.{header_of, shown_length, channel_of, shown_byte, has_room, row_shown}

pub typed_header : (l : Line) (width height : ℕ) →
    appended l (header_of width height)
    ≡ appended (appended (pushed (appended (appended l (80 ∷ 54 ∷ 10 ∷ [])) (decimal width)) 32) (decimal height)) (10 ∷ 50 ∷ 53 ∷ 53 ∷ 10 ∷ [])
unfolding header_of
typed_header l width height =
    let end : List ℕ = 10 ∷ 50 ∷ 53 ∷ 53 ∷ 10 ∷ [] in
    let a : Line = appended l (80 ∷ 54 ∷ 10 ∷ []) in
    let b : Line = appended a (decimal width) in
    typed-append l (80 ∷ 54 ∷ 10 ∷ []) (decimal width ++ (32 ∷ (decimal height ++ end)))
    ∙ typed-append a (decimal width) (32 ∷ (decimal height ++ end))
    ∙ typed-cons b 32 (decimal height ++ end)
    ∙ typed-append (pushed b 32) (decimal height) end

-- nothing is shown yet
pub shown_none : (colour : ℕ → Colour) (out : List ℕ) → out ≡ row_shown colour 0 out
unfolding row_shown
shown_none colour out = none_within 0 _ out

-- byte k of pixel x
byte_of_colour : (colour : ℕ → Colour) (x k j : ℕ) → k < 3 → j ≡ 3 * x + k → channel_of (colour x) k ≡ shown_byte colour j
unfolding shown_byte
byte_of_colour colour x k j l e =
    let q : j / 3 ≡ x = omega arith in
    let r : j % 3 ≡ k = omega arith in
    rw (q, r)

-- one pixel more
pub shown_more : (colour : ℕ → Colour) (out₀ out : List ℕ) (x at : ℕ) (c : Colour) → out ≡ row_shown colour at out₀ → at ≡ 3 * x → c ≡ colour x →
    set (set (set out at c.red) (at + 1) c.green) (at + 2) c.blue ≡ row_shown colour (3 * (x + 1)) out₀
unfolding row_shown channel_of
shown_more colour out₀ out x at c so is e =
    let two : at + 1 + 1 ≡ at + 2 = omega arith in
    let three : at + 2 + 1 ≡ 3 * (x + 1) = omega arith in
    let red = set-within 0 at _ out₀ out at c.red so (omega arith) (ap (λ (k : Colour). k.red) e ∙ byte_of_colour colour x 0 at (omega arith) (omega arith)) in
    let green = set-within 0 (at + 1) _ out₀ (set out at c.red) (at + 1) c.green red (omega arith)
    (ap (λ (k : Colour). k.green) e ∙ byte_of_colour colour x 1 (at + 1) (omega arith) (omega arith)) in
    let blue = set-within 0 (at + 2) _ out₀ (set (set out at c.red) (at + 1) c.green) (at + 2) c.blue (rw two at green) (omega arith)
    (ap (λ (k : Colour). k.blue) e ∙ byte_of_colour colour x 2 (at + 2) (omega arith) (omega arith)) in
    rw three at blue

-- a row that lies in memory, and a buffer that has room for it
pub room-true : (s : Surface) (memory : List ℕ) (y : ℕ) (out : List ℕ) → has_room s memory y out ≡ true →
    (row_start s y + row_length s ≤ length memory) × (shown_length s ≤ length out)
room-true s memory y out e =
    let both = and-true (leb (row_start s y + row_length s) (length memory)) (leb (shown_length s) (length out)) e in
    (leb-true (row_start s y + row_length s) (length memory) both.0, leb-true (shown_length s) (length out) both.1)

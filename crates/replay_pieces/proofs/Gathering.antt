-- Laws of lines gathered in one buffer: one call of feed more.
use Rattle.std.proofs.Common.{◌≡◌, ℕ, ◌+◌, ◌-◌, ◌≤◌, List, ◌++◌, length, take, drop, sym, refl, ap, ◌∙◌, subst, append_assoc, append-nil, arith, length-drop, length-take-le, take_all, take_at, take-add, drop_at}
use lib.Seq.{take-append-le}
use borrow.Rule.Slice.PartMut.{mid_of, put_mid}
use Rattle.claims.specs.Engine.{State}
use Rattle.replay.specs.declared.Replay.{Replay}
use Rattle.replay.specs.declared.FeedResult.{FeedResult}
use Rattle.replay.specs.Calls.{FeedContract}
use Rattle.replay.specs.Chunking.{Stands}
use Rattle.replay.proofs.Chunking.{chunking}

-- ---- the buffers

-- what is used behind what was used before
pub take_behind : (xs : List ℕ) (used n k : ℕ) → n ≡ length xs - used → take used xs ++ take k (mid_of used n xs) ≡ take (used + k) xs
take_behind xs used n k all =
    let rest : mid_of used n xs ≡ drop used xs = take_all n (drop used xs) (omega (arith, length-drop used xs)) in
    ap (λ (ys : List ℕ). take used xs ++ take k ys) rest ∙ sym (take-add used k xs)

-- what is written behind what was written before
put_behind : (out line : List ℕ) (written m k : ℕ) → written ≤ length out → k ≤ length line → take written out ++ take k line ≡ take (written + k) (put_mid written m out line)
put_behind out line written m k few less =
    let a : List ℕ = take written out in
    let post : List ℕ = drop m (drop written out) in
    let size : length a ≡ written = length-take-le written out few in
    sym (take-add written k (a ++ (line ++ post))
    ∙ ap (λ (ys : List ℕ). ys ++ take k (drop written (a ++ (line ++ post)))) (take_at a (line ++ post) written size)
    ∙ ap (λ (ys : List ℕ). a ++ take k ys) (drop_at a (line ++ post) written size)
    ∙ ap (λ (ys : List ℕ). a ++ ys) (take-append-le k line post less))

-- ---- one call more

-- gathered so far
abbrev pub Going : (r₀ : Replay) (held₀ ring₀ memory₀ input : List ℕ) (used written : ℕ) (r : Replay) (held ring memory out : List ℕ) → Type 0
Going r₀ held₀ ring₀ memory₀ input used written r held ring memory out =
    (r.edition ≡ r₀.edition)
    × ((engine : State) (seen text : List ℕ) → Stands engine seen text r₀ held₀ ring₀ memory₀ → Stands engine (seen ++ take used input) (text ++ take written out) r held ring memory)

pub going_none : (r : Replay) (held ring memory input out : List ℕ) → Going r held ring memory input 0 0 r held ring memory out
going_none r held ring memory input out = (refl, λ engine seen text S. rw (append-nil seen, append-nil text) S)

pub going_more : (r₀ : Replay) (held₀ ring₀ memory₀ input : List ℕ) (used written : ℕ) (r : Replay) (held ring memory out : List ℕ)
    → Going r₀ held₀ ring₀ memory₀ input used written r held ring memory out
    → (n m : ℕ) (f : FeedResult) (held' ring' memory' line : List ℕ) → n ≡ length input - used → 128 ≤ length (mid_of written m out) → written ≤ length out → f.written ≤ length line
    → FeedContract r held ring memory (mid_of used n input) (mid_of written m out) f held' ring' memory' line
    → Going r₀ held₀ ring₀ memory₀ input (used + f.used) (written + f.written) f.replay held' ring' memory' (put_mid written m out line)
going_more r₀ held₀ ring₀ memory₀ input used written r held ring memory out g n m f held' ring' memory' line all room few less F = (F.edition_is ∙ g.0, more)
  where
    more : (engine : State) (seen text : List ℕ) → Stands engine seen text r₀ held₀ ring₀ memory₀
        → Stands engine (seen ++ take (used + f.used) input) (text ++ take (written + f.written) (put_mid written m out line)) f.replay held' ring' memory'
    more engine seen text S =
        let one = ((chunking r.edition).feeds engine (seen ++ take used input) (text ++ take written out) r held ring memory (mid_of used n input) (mid_of written m out) f held' ring' memory' line F room (g.1 engine seen text S)).0 in
        let bytes : (seen ++ take used input) ++ take f.used (mid_of used n input) ≡ seen ++ take (used + f.used) input =
        append_assoc seen (take used input) (take f.used (mid_of used n input)) ∙ ap (λ (xs : List ℕ). seen ++ xs) (take_behind input used n f.used all) in
        let lines : (text ++ take written out) ++ take f.written line ≡ text ++ take (written + f.written) (put_mid written m out line) =
        append_assoc text (take written out) (take f.written line) ∙ ap (λ (xs : List ℕ). text ++ xs) (put_behind out line written m f.written few less) in
        subst (λ (xs : List ℕ). Stands engine xs (text ++ take (written + f.written) (put_mid written m out line)) f.replay held' ring' memory') bytes
        (subst (λ (xs : List ℕ). Stands engine ((seen ++ take used input) ++ take f.used (mid_of used n input)) xs f.replay held' ring' memory') lines one)

-- A batch copied into the ring (01, "Engine, desks, queue": submit "going on at byte 0 after the last byte .. other ring
-- bytes stay").
use Rattle.std.specs.Prelude.{ℕ, ◌-◌, List, length, take, drop}
use Rattle.word.specs.Splice.{spliced}

-- the ring after the batch was copied in from `offset` on: what fits before the ring's end there, the rest from byte 0 on
unfoldable pub copied_in : List ℕ → ℕ → List ℕ → List ℕ
copied_in ring offset batch =
    let tail : ℕ = length ring - offset in
    spliced 0 (drop tail batch) (spliced offset (take tail batch) ring)

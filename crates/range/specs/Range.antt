-- Ranges of bytes: a client's window, common, and the span of a rectangle (01, "Engine, desks, queue" and "Faults of a taken
-- batch"). Ends are plain numbers, so that no sum of a start and a length wraps.
use Rattle.std.specs.Prelude.{ℕ, ◌+◌, ◌≤◌, ◌<◌, min, max, Bool, ◌&&◌, leb, ltb}
use Rattle.range.specs.declared.Range.{Range}

-- Internal: byte i lies in the range
abbrev pub Contains : Range → ℕ → Type 0
Contains r i = (r.start ≤ i) × (i < r.end)

-- the range of `size` bytes from `start` on
abbrev pub range_of : ℕ → ℕ → Range
range_of start size = record { start = start; end = start + size }

-- the range r lies wholly in q
abbrev pub contained_in : Range → Range → Bool
contained_in r q = leb q.start r.start && leb r.end q.end

-- r and q have a byte in common: the later start lies before the earlier end
abbrev pub overlaps : Range → Range → Bool
overlaps r q = ltb (max r.start q.start) (min r.end q.end)

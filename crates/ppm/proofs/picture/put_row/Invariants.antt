use Rattle.std.proofs.Common.{◌≡◌, ℕ, ◌+◌, ◌*◌}
use Rattle.pixel.specs.Formats.{bytes_per_pixel}
use Rattle.surface.specs.Drawn.{load_pixel}
use Rattle.ppm.specs.Picture.{row_shown}
use Rattle.ppm.proofs.picture.put_row.Given as goal

abbrev pub invariant-loop-x : goal.invariant-loop-x
invariant-loop-x l =
    l.out ≡ row_shown (λ (x : ℕ). load_pixel l.format l.memory (l.start + x * bytes_per_pixel l.format)) (3 * l.x) l.initial.out

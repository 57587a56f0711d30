use mathlib.Core.Path.{◌≡◌}
use Prim.Native.Nat.{◌+◌, ◌-◌}
use native.Mathlib.Omega.{arith}
use Rattle.word.specs.Word.{byte_of}
use Rattle.pixel.specs.Formats.{bytes_per_pixel, layout_of}
use Rattle.pixel.specs.Colours.{packed}
use Rattle.surface.specs.Drawn.{store_pixel}
use Rattle.surface.proofs.Parts.{part_mapi}
use Rattle.surface.proofs.store.Goals as goal

pub returns : goal.returns
unfolding store_pixel
returns c =
    let m = c.args.memory.now in
    let n : c.args.at + c.bytes.result - c.args.at ≡ bytes_per_pixel c.args.format = omega arith in
    part_mapi (λ k old. byte_of (packed (layout_of c.args.format) c.args.c) k) m c.write_le_number.new.bytes c.args.at _ (bytes_per_pixel c.args.format) n (omega arith)
    (rw c.pack.ensures at c.write_le_number.ensures)

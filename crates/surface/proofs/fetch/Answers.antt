use mathlib.Core.Path.{◌≡◌, refl, ◌∙◌}
use Prim.Native.Nat.{◌+◌, ◌-◌}
use native.Mathlib.Omega.{arith}
use Rattle.pixel.specs.Formats.{bytes_per_pixel}
use Rattle.surface.proofs.Sizes.{bytes_most}
use Rattle.surface.proofs.Parts.{length_mid}
use Rattle.surface.proofs.Pixels.{pixel_part}
use Rattle.surface.proofs.fetch.Goals as goal

pub number_of-requires : goal.number_of-requires
number_of-requires c =
    omega (arith, bytes_most c.args.format, length_mid c.args.at (c.args.at + c.bytes.result - c.args.at) c.args.memory.now (omega arith))

pub returns : goal.returns
returns c =
    let n : c.args.at + c.bytes.result - c.args.at ≡ bytes_per_pixel c.args.format = omega arith in
    c.number_of.ensures ∙ pixel_part (bytes_per_pixel c.args.format) _ c.args.at c.args.at c.args.memory.now n refl

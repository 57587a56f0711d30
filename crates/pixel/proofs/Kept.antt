-- An ARGB8888 pixel keeps all of a colour.
use mathlib.Core.Path.{◌≡◌, ap, ◌∙◌}
use Prim.Native.Nat.{ℕ, ◌<◌}
use Rattle.pixel.specs.Formats.{layout_of}
use Rattle.pixel.specs.Colours.{widened, narrowed, packed, unpacked}
use Rattle.pixel.specs.declared.colour.Colour.{Colour}
use Rattle.pixel.specs.declared.format.Format.TheVariants.{Argb8888}
use Rattle.pixel.proofs.Channels.{widened-byte, narrowed-byte}
use Rattle.pixel.proofs.Stored.{Bytes, kept, narrow, unpacked-packed}

byte-kept : (c : ℕ) → c < 256 → widened 8 (narrowed 8 c) ≡ c
byte-kept c l = ap (widened 8) (narrowed-byte c) ∙ widened-byte c l

all-kept : (c : Colour) → Bytes c → kept (layout_of Argb8888) c ≡ c
all-kept c h = rw (byte-kept c.alpha h.alpha, byte-kept c.red h.red, byte-kept c.green h.green, byte-kept c.blue h.blue)

-- a colour's word stands for the colour
pub word-colour : (c : Colour) → Bytes c → unpacked (layout_of Argb8888) (packed (layout_of Argb8888) c) ≡ c
word-colour c h = unpacked-packed (layout_of Argb8888) (narrow Argb8888) c h ∙ all-kept c h

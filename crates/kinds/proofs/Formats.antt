-- Two formats are equal where their codes are.
use Rattle.std.proofs.Common.{◌≡◌, refl}
use denote.Enum.Bare.{sameb}
use Rattle.pixel.specs.contracts.format.Format.{the_type}
use Rattle.pixel.specs.declared.format.Format.{Format}
use Rattle.pixel.specs.declared.format.Format.TheVariants.{Argb8888, Rgb888, Rgb565}
use Rattle.task_check.specs.Rules.{same_format}

pub equal_formats : (a b : Format) → sameb the_type a b ≡ same_format a b
equal_formats Argb8888 Argb8888 = refl
equal_formats Argb8888 Rgb888 = refl
equal_formats Argb8888 Rgb565 = refl
equal_formats Rgb888 Argb8888 = refl
equal_formats Rgb888 Rgb888 = refl
equal_formats Rgb888 Rgb565 = refl
equal_formats Rgb565 Argb8888 = refl
equal_formats Rgb565 Rgb888 = refl
equal_formats Rgb565 Rgb565 = refl

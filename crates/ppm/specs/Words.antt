-- Words of a command line: numbers in decimal digits, and pixel formats by their names (01, "Pixels").
use Rattle.std.specs.Prelude.{ℕ, cond, ◌&&◌, List, length, ltb, codes, Option, Some, None}
use Rattle.std.specs.Str.{str_eq_ignore_ascii_case}
use Rattle.text.specs.Numerals.{all_digits, decimal_value}
use Rattle.pixel.specs.declared.format.Format.{Format}
use Rattle.pixel.specs.declared.format.Format.TheVariants.{Argb8888, Rgb888, Rgb565}

-- one digit at least, nothing but digits, and a number of 32 bits
unfoldable pub parse_number : List ℕ → Option ℕ
parse_number text = cond (ltb 0 (length text) && all_digits text && ltb (decimal_value 0 text) 4294967296) (Some (decimal_value 0 text)) None

-- argb8888, rgb888, rgb565
abbrev pub name_of : Format → List ℕ
name_of Argb8888 = codes "argb8888"
name_of Rgb888 = codes "rgb888"
name_of Rgb565 = codes "rgb565"

-- the format whose name this text is, ignoring case
unfoldable pub format_named : List ℕ → Option Format
format_named text =
    cond (str_eq_ignore_ascii_case text (name_of Argb8888)) (Some Argb8888)
    (cond (str_eq_ignore_ascii_case text (name_of Rgb888)) (Some Rgb888)
    (cond (str_eq_ignore_ascii_case text (name_of Rgb565)) (Some Rgb565)
    None))

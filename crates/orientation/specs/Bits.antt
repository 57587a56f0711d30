-- A setting as bits, where the source control word, register 0x010, has it (01, "Groups and registers"): 7 V flip, 6 H flip, 5:4 quarter turns. Settings
-- are handed over so by the library (02, request 8).
use Rattle.std.specs.Prelude.{ℕ, ◌+◌, ◌*◌, ◌/◌, ◌%◌, Bool, cond, eqb}
use Rattle.transform.specs.declared.Transform.{Transform}
use Rattle.transform.specs.Transform.{rotation_of, turns}

-- the setting in any word; its other bits are not looked at
unfoldable pub setting_of : ℕ → Transform
setting_of word = record {
  flip = record { horizontal = eqb (word / 64 % 2) 1; vertical = eqb (word / 128 % 2) 1 };
  rotation = rotation_of (word / 16 % 4);
}

-- what a bit counts for
abbrev pub weight : Bool → ℕ → ℕ
weight on n = cond on n 0

-- the bits of a setting, with zeros in all other places
unfoldable pub bits_of : Transform → ℕ
bits_of t = weight t.flip.vertical 128 + weight t.flip.horizontal 64 + turns t.rotation * 16

-- Two settings of flips and quarter turns, drawn one after the other, as one setting (02, request 8). What the definitions have to be is said in
-- Laws.antt.
use Rattle.std.specs.Prelude.{◌≡◌, Bool, true, false, not, cond, ◌⊎◌}
use Rattle.std.specs.Bool.{beq}
use Rattle.transform.specs.declared.Rotation.{Rotation}
use Rattle.transform.specs.declared.Rotation.TheVariants.{Rotate0, Rotate90, Rotate180, Rotate270}
use Rattle.transform.specs.declared.Flip.{Flip}
use Rattle.transform.specs.declared.Transform.{Transform}

-- one quarter turn more
abbrev pub quarter : Rotation → Rotation
quarter Rotate0 = Rotate90
quarter Rotate90 = Rotate180
quarter Rotate180 = Rotate270
quarter Rotate270 = Rotate0

-- quarter turns add modulo 4
abbrev pub added : Rotation → Rotation → Rotation
added Rotate0 r = r
added Rotate90 r = quarter r
added Rotate180 r = quarter (quarter r)
added Rotate270 r = quarter (quarter (quarter r))

-- as many quarter turns the other way
abbrev pub turned_back : Rotation → Rotation
turned_back Rotate0 = Rotate0
turned_back Rotate90 = Rotate270
turned_back Rotate180 = Rotate180
turned_back Rotate270 = Rotate90

-- an odd number of quarter turns: width and height change places
abbrev pub is_odd : Rotation → Bool
is_odd Rotate0 = false
is_odd Rotate90 = true
is_odd Rotate180 = false
is_odd Rotate270 = true

-- one of two, and not both
abbrev pub either : Bool → Bool → Bool
either a b = not (beq a b)

-- two flips, one after the other
abbrev pub flipped_twice : Flip → Flip → Flip
flipped_twice f g = record { horizontal = either f.horizontal g.horizontal; vertical = either f.vertical g.vertical }

-- the flip before a turn that is as good as flip f after it: under an odd turn H and V change places
abbrev pub exchanged : Bool → Flip → Flip
exchanged on f = record { horizontal = cond on f.vertical f.horizontal; vertical = cond on f.horizontal f.vertical }

-- the one setting for the first and then the second
unfoldable pub compose : Transform → Transform → Transform
compose first second = record {
  flip = flipped_twice first.flip (exchanged (is_odd first.rotation) second.flip);
  rotation = added first.rotation second.rotation;
}

abbrev pub neutral : Transform
neutral = record { flip = record { horizontal = false; vertical = false }; rotation = Rotate0 }

-- the setting that undoes one
unfoldable pub inverse : Transform → Transform
inverse t = record { flip = exchanged (is_odd t.rotation) t.flip; rotation = turned_back t.rotation }

-- ---- orientations

-- the setting that differs in both flips and by two quarter turns
unfoldable pub opposite : Transform → Transform
opposite t = record {
  flip = record { horizontal = not t.flip.horizontal; vertical = not t.flip.vertical };
  rotation = added Rotate180 t.rotation;
}

-- two settings of one orientation: alike, or they differ in both flips and by two quarter turns
abbrev pub SameOrientation : Transform → Transform → Type 0
SameOrientation a b = (a ≡ b) ⊎ (a ≡ opposite b)

-- the orientation of a setting, as the one of its two settings that has no V flip: eight of the sixteen
unfoldable pub orientation : Transform → Transform
orientation t = cond t.flip.vertical (opposite t) t

-- Internal: how a rule is computed; used only in contracts of helper functions and in what `Plan` says of itself. That a plan has the rule's factors is proofs/Factors.
use Rattle.std.specs.Prelude.{Bool, true, false, ◌&&◌, ℕ, ◌-◌, Option, Some, None, eqb}
use Rattle.std.specs.Int.Bits.{bit_and, bit_xor}
use Rattle.pixel.specs.declared.blend.Factor.{Factor}
use Rattle.pixel.specs.declared.blend.Factor.TheVariants.{Zero, One, SourceAlpha, InverseSourceAlpha, DestinationAlpha, InverseDestinationAlpha}
use Rattle.plan.specs.declared.Masks.{Masks}

-- the masks of a factor
abbrev pub masks_of : Factor → Masks
masks_of Zero = record { source = 0; destination = 0; flip = 0 }
masks_of One = record { source = 0; destination = 0; flip = 255 }
masks_of SourceAlpha = record { source = 255; destination = 0; flip = 0 }
masks_of InverseSourceAlpha = record { source = 255; destination = 0; flip = 255 }
masks_of DestinationAlpha = record { source = 0; destination = 255; flip = 0 }
masks_of InverseDestinationAlpha = record { source = 0; destination = 255; flip = 255 }

-- a factor by its masks
unfoldable pub factor_by : Masks → ℕ → ℕ → ℕ
factor_by m s d = bit_xor (bit_xor (bit_and s m.source) (bit_and d m.destination)) m.flip

-- what a factor is where the source alpha is a; none where that is not all that counts
abbrev pub at_source_alpha : Factor → ℕ → Option ℕ
at_source_alpha Zero a = Some 0
at_source_alpha One a = Some 255
at_source_alpha SourceAlpha a = Some a
at_source_alpha InverseSourceAlpha a = Some (255 - a)
at_source_alpha DestinationAlpha a = None
at_source_alpha InverseDestinationAlpha a = None

-- whether it is this number
abbrev pub is_number : Option ℕ → ℕ → Bool
is_number (Some w) v = eqb w v
is_number None v = false

-- whether it is v there
abbrev pub is_at : Factor → ℕ → ℕ → Bool
is_at f a v = is_number (at_source_alpha f a) v

-- whether it is `full` where the source alpha is 255, and `empty` where that is 0
abbrev pub ends : Factor → ℕ → ℕ → Bool
ends f full empty = is_at f 255 full && is_at f 0 empty

-- a factor that does not go by alpha: it is its flip
abbrev pub is_constant : Factor → Bool
is_constant Zero = true
is_constant One = true
is_constant SourceAlpha = false
is_constant InverseSourceAlpha = false
is_constant DestinationAlpha = false
is_constant InverseDestinationAlpha = false

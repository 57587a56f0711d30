-- The setting that a task has is the one that crate orientation reads out of its source control word.
use mathlib.Core.Path.{◌≡◌, refl}
use Prim.Native.Nat.{ℕ}
use Rattle.orientation.specs.Bits.{setting_of}
use Rattle.register.specs.Task.{transform_of}

pub same-setting : (control : ℕ) → transform_of control ≡ setting_of control
unfolding transform_of setting_of
same-setting control = refl

-- Nearest division by 255 by shifts and adds: where the trick is exact, and why holding makes the rest right.
use mathlib.Core.Path.{refl}
use native.Mathlib.Omega.{arith}
use Rattle.division.specs.Division.{div255, Division}

pub division : Division
unfolding div255
division = record {
  exact = λ n l. omega arith;
  one_short = refl;
  past = λ n l. (omega arith, omega arith);
  held = λ n. omega arith;
}

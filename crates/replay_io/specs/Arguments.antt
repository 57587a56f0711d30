-- Internal: the word that asks a program for the slow engine. 02, request 13, has two engines, and leaves it to us how one is chosen.
use Rattle.std.specs.Prelude.{ℕ, List, [], ◌∷◌}
use Rattle.renderer.specs.declared.Renderer.{Renderer}
use Rattle.renderer.specs.declared.Renderer.TheVariants.{Fast, Slow}

-- --slow
abbrev pub slow_word : List ℕ
slow_word = 45 ∷ 45 ∷ 115 ∷ 108 ∷ 111 ∷ 119 ∷ []

-- the place of the argument that names the file: after that word, where it is given
abbrev pub file_argument : Renderer → ℕ
file_argument Fast = 1
file_argument Slow = 2

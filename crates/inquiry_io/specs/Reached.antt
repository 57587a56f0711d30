-- An inquiry that has read some bytes of a file. Which they are no contract can say.
use Rattle.std.specs.Prelude.{List, ℕ}
use Rattle.inquiry.specs.declared.Question.{Question}
use Rattle.inquiry.specs.declared.Inquiry.{Inquiry}
use Rattle.inquiry.specs.Inquiry.{Stands}

pub record Reached (q : Question) (s : Inquiry) (held : List ℕ) : Type 0 where
  pub seen : List ℕ
  pub stands : Stands q seen s held

-- what was read: an inquiry that stands for some bytes
pub record ReachedSome (q : Question) (s : Inquiry) : Type 0 where
  pub held : List ℕ
  pub reached : Reached q s held

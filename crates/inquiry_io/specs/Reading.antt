-- Internal: a file that is read for an inquiry, piece after piece.
use Rattle.std.specs.Prelude.{◌≡◌}
use Rattle.command.specs.Orders.{Reflexive, Transitive}
use Rattle.inquiry.specs.declared.Question.{Question}
use Rattle.inquiry_io.specs.declared.Reading.{Reading}
use Rattle.inquiry_io.specs.Reached.{Reached}

-- some bytes were read for this question
pub record Asks (q : Question) (r : Reading) : Type 0 where
  pub same : r.question ≡ q
  pub reached : Reached r.question r.inquiry r.held

-- so it is after more bytes, if it was so before
abbrev pub Leads : Reading → Reading → Type 0
Leads a b = (q : Question) → Asks q a → Asks q b

pub stays : Reflexive Leads
stays a q h = h

pub goes_on : Transitive Leads
goes_on a b c f g q h = g q (f q h)

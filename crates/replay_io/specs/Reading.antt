-- Internal: a file that is replayed, piece after piece.
use Rattle.std.specs.Prelude.{◌≡◌, length, refl}
use Rattle.std.proofs.Common.{◌∙◌}
use Rattle.command.specs.Orders.{Reflexive, Transitive}
use Rattle.claims.specs.Engine.{State}
use Rattle.records.specs.declared.Edition.{Edition}
use Rattle.replay_pieces.specs.Reached.{Reached}
use Rattle.replay_io.specs.declared.Reading.{Reading}

-- some bytes were replayed, in an engine that was so at the start
abbrev pub Stood : Edition → State → Reading → Type 0
Stood edition engine r = Reached edition engine r.shows r.handed r.replay r.held r.ring r.memory.now

-- so it is after more bytes, in the same memory, if it was so before
pub record Leads (a b : Reading) : Type 0 where
  pub same : b.memory.ghost_name ≡ a.memory.ghost_name
  pub size : length b.memory.now ≡ length a.memory.now
  pub shows : b.shows ≡ a.shows
  pub stood : (edition : Edition) (engine : State) → Stood edition engine a → Stood edition engine b

pub stays : Reflexive Leads
stays a = record { same = refl; size = refl; shows = refl; stood = λ edition engine s. s }

pub goes_on : Transitive Leads
goes_on a b c f g = record {
  same = g.same ∙ f.same;
  size = g.size ∙ f.size;
  shows = g.shows ∙ f.shows;
  stood = λ edition engine s. g.stood edition engine (f.stood edition engine s);
}

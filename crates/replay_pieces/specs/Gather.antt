-- Internal: lines gathered in one buffer: several calls of feed at once (crate replay: Chunking).
use Rattle.std.specs.Prelude.{◌≡◌, ℕ, ◌≤◌, List, ◌++◌, length, take}
use Rattle.claims.specs.Engine.{State}
use Rattle.replay.specs.declared.Replay.{Replay}
use Rattle.replay.specs.declared.FeedResult.{FeedResult}
use Rattle.replay.specs.Chunking.{Stands}

-- the first bytes of the input were used, and what they print stands at the start of the buffer
pub record FeedLinesContract (r : Replay) (held ring memory input out : List ℕ) (f : FeedResult) (held' ring' memory' out' : List ℕ) : Type 0 where
  pub within : f.used ≤ length input
  pub room : f.written ≤ length out
  pub same : f.replay.edition ≡ r.edition
  pub onward : (engine : State) (seen text : List ℕ) → Stands engine seen text r held ring memory
      → Stands engine (seen ++ take f.used input) (text ++ take f.written out') f.replay held' ring' memory'

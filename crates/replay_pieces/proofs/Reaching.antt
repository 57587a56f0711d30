-- Laws of what is reached: from the start, by some lines gathered, and what it leaves in memory and hands over.
use Rattle.std.proofs.Common.{◌≡◌, ℕ, ◌+◌, ◌-◌, ◌%◌, ◌^◌, ◌≤◌, Bool, true, false, cond, leb, List, [], ◌++◌, length, take, sym, refl, ap, ◌∙◌, subst, true≢false, append_assoc, append-nil, arith, length-append, length-take-le, le-leb}
use Rattle.std.specs.Prelude.{Result, Ok, Err}
use Rattle.command.specs.declared.Failed.{Failed}
use borrow.Rule.Slice.PartMut.{mid_of}
use Rattle.claims.specs.Engine.{State}
use Rattle.records.specs.declared.Edition.{Edition}
use Rattle.records.specs.declared.Edition.TheVariants.{First, Second}
use Rattle.records.specs.Records.{records}
use Rattle.records.proofs.Bytes.{room-between}
use Rattle.records.specs.Editions.{scored, submitted_entries}
use Rattle.lines.specs.Lines.{engine_opened, lines_from}
use Rattle.lines.specs.Answered.{submit_and_run_all}
use Rattle.lines.proofs.Start.{started_state}
use Rattle.replay.specs.declared.Replay.{Replay}
use Rattle.replay.specs.declared.FeedResult.{FeedResult}
use Rattle.lines.specs.Prints.{Prints}
use Rattle.replay.specs.Calls.{at_start, finished_text}
use Rattle.replay.specs.Chunking.{Stands}
use Rattle.replay.proofs.Chunking.{chunking}
use Rattle.replay_pieces.specs.Gather.{FeedLinesContract}
use Rattle.replay_pieces.specs.Reached.{handed_of, PieceFed, Reached, Finishes, Replayed}
use Rattle.replay_pieces.proofs.Bounds.{prints-within}
use Rattle.replay_pieces.proofs.Gathering.{take_behind}

-- ---- how many bytes are handed over

-- none of no text
handed-none : (shows : Bool) → 0 ≡ handed_of shows []
handed-none true = omega arith
handed-none false = omega arith

-- a text more
handed-more : (shows : Bool) (text more : List ℕ) (handed size written : ℕ) → handed ≡ handed_of shows text → size ≡ cond shows written 0 → written ≡ length more
    → (handed + size) % 2 ^ 64 ≡ handed_of shows (text ++ more)
handed-more true text more handed size written e is so = simp length-append (omega (arith, e, is, so))
handed-more false text more handed size written e is so = omega (arith, e, is)

-- what is shown of a buffer that has so many bytes
shown_all : (shows : Bool) (n size : ℕ) (out : List ℕ) → n ≤ length out → size ≡ cond shows (cond (leb n (length out)) n 0) 0 → size ≡ cond shows n 0
shown_all shows n size out few is = is ∙ rw (le-leb n (length out) few)

-- ---- a piece

-- fed so far, and handed over
pub record Feeding (edition : Edition) (engine : State) (seen text piece : List ℕ) (shows : Bool) (used : ℕ) (r : Replay) (handed : ℕ) (held ring memory : List ℕ) : Type 0 where
  pub more : List ℕ
  pub of : r.edition ≡ edition
  pub stands : Stands engine (seen ++ take used piece) (text ++ more) r held ring memory
  pub counts : handed ≡ handed_of shows (text ++ more)

pub feeding_none : (engine : State) (seen text piece : List ℕ) (shows : Bool) (r : Replay) (handed : ℕ) (held ring memory : List ℕ)
    → Stands engine seen text r held ring memory → handed ≡ handed_of shows text → Feeding r.edition engine seen text piece shows 0 r handed held ring memory
feeding_none engine seen text piece shows r handed held ring memory S e =
    record { more = []; of = refl; stands = rw (append-nil seen, append-nil text) S; counts = rw (append-nil text) e }

pub feeding_more : (edition : Edition) (engine : State) (seen text piece : List ℕ) (shows : Bool) (used : ℕ) (r : Replay) (handed : ℕ) (held ring memory : List ℕ)
    → Feeding edition engine seen text piece shows used r handed held ring memory
    → (n : ℕ) (out : List ℕ) (f : FeedResult) (held' ring' memory' out' : List ℕ) (size : ℕ) → n ≡ length piece - used → length out' ≡ length out
    → FeedLinesContract r held ring memory (mid_of used n piece) out f held' ring' memory' out' → size ≡ cond shows (cond (leb f.written (length out')) f.written 0) 0
    → Feeding edition engine seen text piece shows (used + f.used) f.replay ((handed + size) % 2 ^ 64) held' ring' memory'
feeding_more edition engine seen text piece shows used r handed held ring memory G n out f held' ring' memory' out' size all same F is =
    let new : List ℕ = take f.written out' in
    let few : f.written ≤ length out' = omega (arith, F.room, same) in
    let one = F.onward engine (seen ++ take used piece) (text ++ G.more) G.stands in
    let bytes : (seen ++ take used piece) ++ take f.used (mid_of used n piece) ≡ seen ++ take (used + f.used) piece =
    append_assoc seen (take used piece) (take f.used (mid_of used n piece)) ∙ ap (λ (xs : List ℕ). seen ++ xs) (take_behind piece used n f.used all) in
    let texts : (text ++ G.more) ++ new ≡ text ++ (G.more ++ new) = append_assoc text G.more new in
    record {
      more = G.more ++ new;
      of = F.same ∙ G.of;
      stands = subst (λ (xs : List ℕ). Stands engine xs (text ++ (G.more ++ new)) f.replay held' ring' memory') bytes
          (subst (λ (xs : List ℕ). Stands engine ((seen ++ take used piece) ++ take f.used (mid_of used n piece)) xs f.replay held' ring' memory') texts one);
      counts = handed-more shows (text ++ G.more) new handed size f.written G.counts (shown_all shows f.written size out' few is) (sym (length-take-le f.written out' few))
          ∙ ap (handed_of shows) texts;
    }

-- something failed: no more can be said
pub piece_failed : (failed : Failed) (edition : Edition) (engine : State) (seen text piece : List ℕ) (shows : Bool) (used : ℕ) (r : Replay) (handed : ℕ) (held ring memory : List ℕ)
    → Feeding edition engine seen text piece shows used r handed held ring memory → PieceFed edition engine seen text piece shows r handed (Err failed) held ring memory
piece_failed failed edition engine seen text piece shows used r handed held ring memory G =
    record { used = used; more = G.more; of = G.of; stands = G.stands; counts = G.counts; whole = λ e. absurd (true≢false (sym e)) }

-- ---- some pieces

-- with a buffer that suffices for either edition
pub reached-start : (edition : Edition) (shows : Bool) (r : Replay) (held ring memory : List ℕ) → r ≡ at_start edition → 32777 ≤ length held
    → Reached edition (engine_opened edition ring memory) shows 0 r held ring memory
reached-start edition shows r held ring memory is room =
    rw is (record { seen = []; text = []; of = refl; stands = (chunking edition).starts held ring memory (omega (arith, room-between edition)); counts = handed-none shows })

pub piece-reached : (edition : Edition) (engine : State) (shows : Bool) (handed : ℕ) (r : Replay) (held ring memory : List ℕ) (R : Reached edition engine shows handed r held ring memory)
    → (piece : List ℕ) (r' : Replay) (handed' : ℕ) (outcome : Result Unit Failed) (held' ring' memory' : List ℕ)
    → PieceFed r.edition engine R.seen R.text piece shows r' handed' outcome held' ring' memory' → Reached edition engine shows handed' r' held' ring' memory'
piece-reached edition engine shows handed r held ring memory R piece r' handed' outcome held' ring' memory' P =
    record { seen = R.seen ++ take P.used piece; text = R.text ++ P.more; of = P.of ∙ R.of; stands = P.stands; counts = P.counts }

-- ---- the end

-- how many bytes of the last line are handed over
pub finishes : (r : Replay) (shows : Bool) (line : List ℕ) (n size : ℕ) (line' : List ℕ) → Prints (finished_text r line) line n line'
    → length line' ≡ length line → size ≡ cond shows (cond (leb n (length line')) n 0) 0 → Finishes r shows line size line'
finishes r shows line n size line' P same is =
    record { written = n; prints = P; counts = shown_all shows n size line' (omega (arith, prints-within _ line n line' P same, same)) is }

module _ (edition : Edition) (ring memory : List ℕ) (shows : Bool) (handed : ℕ) (r : Replay) (held ring' memory' : List ℕ)
    (R : Reached edition (engine_opened edition ring memory) shows handed r held ring' memory') where
  left : memory' ≡ (submit_and_run_all (submitted_entries edition (records edition R.seen).entries) (engine_opened edition ring memory)).memory
  left =
      subst (λ (e : Edition). memory' ≡ (submit_and_run_all (submitted_entries e (records e R.seen).entries) (engine_opened edition ring memory)).memory) R.of
      (ap (λ (s : State). s.memory) ((chunking edition).left (engine_opened edition ring memory) R.seen R.text r held ring' memory' R.stands))

  -- something failed before the end
  pub replayed-some : (failed : Failed) → Replayed edition memory shows (Err failed) memory'
  replayed-some failed = record { ring = ring; seen = R.seen; left = left; lines = tt }

  -- read to the end
  pub replayed-all : (line : List ℕ) (size : ℕ) (line' : List ℕ) → 128 ≤ length line → length line' ≡ length line → Finishes r shows line size line'
      → Replayed edition memory shows (Ok ((handed + size) % 2 ^ 64)) memory'
  replayed-all line size line' room same F =
      let whole : R.text ++ take F.written line' ≡ lines_from edition (engine_opened edition ring memory) (records edition R.seen) =
      subst (λ (e : Edition). R.text ++ take F.written line' ≡ lines_from e (engine_opened edition ring memory) (records e R.seen)) R.of
      ((chunking edition).finishes (engine_opened edition ring memory) R.seen R.text r held ring' memory' line F.written line' R.stands room F.prints) in
      let few : length (take F.written line') ≡ F.written = length-take-le F.written line' (omega (arith, prints-within _ line F.written line' F.prints same, same)) in
      record {
        ring = ring;
        seen = R.seen;
        left = left;
        lines = handed-more shows R.text (take F.written line') handed size F.written R.counts F.counts (sym few) ∙ ap (handed_of shows) whole;
      }

-- nothing read
pub unread : (edition : Edition) (memory : List ℕ) (shows : Bool) (failed : Failed) → Replayed edition memory shows (Err failed) memory
unfolding submit_and_run_all records scored
unread First memory shows failed =
    record { ring = []; seen = []; left = ap (λ (s : State). s.memory) (started_state First [] memory); lines = tt }
unread Second memory shows failed =
    record { ring = []; seen = []; left = ap (λ (s : State). s.memory) (started_state Second [] memory); lines = tt }

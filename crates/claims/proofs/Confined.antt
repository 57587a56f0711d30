-- A batch is drawn by its client's window and common alone, and changes the window alone, from any bank on: the model's one premise.
use mathlib.Core.Path.{◌≡◌, refl}
use mathlib.Core.List.{List, [], ◌∷◌}
use mathlib.Core.Logic.{⊎_elim}
use Prim.Native.Nat.{ℕ, ◌+◌, ◌<◌}
use native.Mathlib.Omega.{arith}
use Rattle.word.specs.Word.{words}
use Rattle.range.specs.Range.{Contains}
use Rattle.transform.specs.Transform.{InPicture as Pixel}
use Rattle.transform.specs.declared.Point.{Point}
use Rattle.surface.specs.Surface.{span, pixel_start}
use Rattle.surface.specs.declared.Surface.{Surface}
use Rattle.surface.proofs.Outside.{pixel_in_span, length_drawn_on, outside-span, drawn_on_agree}
use Rattle.surface.proofs.Loaded.{loaded_same}
use Rattle.register.specs.declared.bank.Bank.{Bank}
use Rattle.register.specs.declared.task.Task.{Task}
use Rattle.register.specs.Size.{size_of}
use Rattle.task_check.specs.declared.task.Bounds.{Bounds}
use Rattle.task_check.specs.Rules.{common_of}
use Rattle.task_check.proofs.Sound.{Within, Sound, AllSound}
use Rattle.batch.specs.Batch.{decode_batch, tasks_drawn}
use Rattle.batch.proofs.Tasks.{drawn-sound}
use Rattle.model.specs.Windows.{Window}
use Rattle.model.specs.BatchSemantics.{SameReadable, LocalAction, Confined}
use Rattle.model.proofs.Locality.{All, local_tasks}
use Rattle.row_pixels.specs.Row.{colour_at}
use Rattle.raster.specs.Task.{pixel_colour, draw_task, draw_tasks}
use Rattle.raster.specs.Batch.{draw_batch}
use Rattle.raster.proofs.RowByRow.{stride-some}
use Rattle.raster.proofs.Pixel.{pixel_same, origin-within, destination-within}
use Rattle.raster.proofs.Judged.{Reach, clear}
use Rattle.claims.specs.BatchSemantics.{bounds_of, semantics_from}

module _ (w : Window) (common : ℕ) where
  -- a client's bounds
  abbrev bounds : Bounds
  bounds = bounds_of w common

  -- a pixel that may be read has one colour in memories that are alike in window and common
  colour_agree : (s : Surface) → Reach bounds s → (m m' : List ℕ) → SameReadable w common m m' → (p : Point) → Pixel (size_of s) p → colour_at s m p ≡ colour_at s m' p
  unfolding colour_at
  colour_agree s r m m' a p h =
      let z = pixel_in_span s p.x p.y h.across h.down in
      loaded_same s.format (pixel_start s p.x p.y) m m' a.size
      (λ k l. ⊎_elim
      (λ (q : Within (span s) bounds.window). a.window (pixel_start s p.x p.y + k) (omega arith))
      (λ (q : Within (span s) (common_of bounds)). a.shared (pixel_start s p.x p.y + k) (omega arith))
      r)

  -- a sound task
  local_task : (t : Task) → Sound bounds t → LocalAction w common (draw_task t)
  unfolding draw_task
  local_task t s =
      let c = clear bounds t s in
      let z : 0 < t.output.stride = stride-some t.output c.output in
      record {
        sized = λ m h. length_drawn_on t.output (pixel_colour t m) m;
        outside = λ m h i o. outside-span t.output (pixel_colour t m) m z i (λ (b : Contains (span t.output) i). o (omega (arith, s.within)));
        inside = λ m m' h a i p.
            drawn_on_agree t.output (pixel_colour t m) (pixel_colour t m') m m' z
            (λ x y u v. pixel_same t m m' x y
            (λ reads. colour_agree t.source.surface (c.source reads).reach m m' a _ (origin-within c x y u v))
            (λ on. colour_agree t.destination.surface (c.destination on).reach m m' a _ (destination-within c x y u v on)))
            i a.size (omega arith) (a.window i p);
      }

  -- sound tasks, one after the other
  local_list : (ts : List Task) → AllSound bounds ts → LocalAction w common (draw_tasks ts)
  unfolding draw_tasks
  local_list ts h = local_tasks w common draw_task draw_tasks (λ m. refl) (λ t ts m. refl) ts (each ts h)
    where
      each : (ts : List Task) → AllSound bounds ts → All (λ t. LocalAction w common (draw_task t)) ts
      each [] h = tt
      each (t ∷ ts) h = (local_task t h.0, each ts h.1)

  -- and so a batch, from any bank on
  local_batch : (bank : Bank) (ws : List ℕ) → LocalAction w common (draw_batch bounds bank ws)
  unfolding draw_batch
  local_batch bank ws = local_list (tasks_drawn (decode_batch bounds bank ws)) (drawn-sound bounds bank ws)

pub confined : (reset : Bank) → Confined (semantics_from reset)
confined reset = λ w common bytes. local_batch w common reset (words bytes)

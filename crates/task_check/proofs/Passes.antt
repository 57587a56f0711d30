-- A task that breaks no rule is sound.
use Prim.Native.Nat.{ℕ, zero, suc, ◌%◌, ◌*◌, ◌≤◌, ◌<◌}
use native.Mathlib.Omega.{arith}
use native.Mathlib.Nat.{mul-le-mul}
use mathlib.Core.Path.{◌≡◌, refl, sym, ap, ◌∙◌}
use mathlib.Core.Bool.{Bool, true, false, cond, not, ◌&&◌, ◌||◌, false≢true}
use mathlib.Core.Logic.{◌⊎◌, inl, inr, ⊎_elim}
use lib.Dec.{eqb, ltb}
use borrow.Author.Tests.{ltb-false, eqb-true, eqb-false, not-false}
use Rattle.word.proofs.Tests.{and-true, and-false, or_false}
use Rattle.range.specs.Range.{contained_in}
use Rattle.range.proofs.Laws.{inside-ends}
use Rattle.pixel.specs.Formats.{bytes_per_pixel}
use Rattle.pixel.specs.declared.format.Format.{Format}
use Rattle.pixel.specs.declared.format.Format.TheVariants.{Argb8888, Rgb888, Rgb565}
use Rattle.transform.specs.declared.Rotation.{Rotation}
use Rattle.transform.specs.declared.Rotation.TheVariants.{Rotate0, Rotate90, Rotate180, Rotate270}
use Rattle.transform.specs.declared.Size.{Size}
use Rattle.surface.specs.Surface.{row_length, span, DisjointRows}
use Rattle.surface.specs.Overlap.{surfaces_overlap}
use Rattle.surface.specs.declared.Surface.{Surface}
use Rattle.surface.proofs.Sizes.{bytes-some}
use Rattle.surface.proofs.overlap.Overlap.{separate}
use Rattle.register.specs.declared.task.Task.{Task}
use Rattle.register.specs.Size.{size_of}
use Rattle.task_check.specs.declared.fault.Fault.{Fault}
use Rattle.task_check.specs.declared.fault.Fault.TheVariants.{BadSurface, SizeMismatch, OutOfBounds, Overlap}
use Rattle.task_check.specs.declared.task.Bounds.{Bounds}
use Rattle.std.specs.Prelude.{Result, Ok, Err, ⊤}
use Rattle.task_check.specs.Rules.{is_buffer_source, bad_side, bad_sides, bad_stride, bad_source, bad_output, bad_destination, bad_surface, is_unrotated, rotated_fill, rotated_source_size, same_size, size_mismatch, common_of, is_writable_span, is_readable, out_of_bounds, same_format, aliases, output_overlaps, check_task}
use Rattle.task_check.proofs.Sound.{Sides, Rows, InReach, SoundSource, SoundDestination, Sound}

-- a rule that is not broken, and those after it
passed : (b : Bool) (f : Fault) (rest : Result ⊤ Fault) → cond b (Err f) rest ≡ Ok tt → (b ≡ false) × (rest ≡ Ok tt)
passed true f rest e = absurd (let z : ◌≡◌ {A = ℕ} 0 1 = cc in omega arith)
passed false f rest e = (refl, e)

-- all parts of a disjunction of three that fails
or_false3 : (a b c : Bool) → a || b || c ≡ false → (a ≡ false) × (b ≡ false) × (c ≡ false)
or_false3 a b c e =
    let first = or_false (a || b) c e in
    let second = or_false a b first.0 in
    (second.0, second.1, first.1)

-- ---- 25

side : (n : ℕ) → bad_side n ≡ false → (0 < n) × (n ≤ 4096)
side n e =
    let two = or_false (eqb n 0) (ltb 4096 n) e in
    let some = eqb-false n 0 two.0 in
    (⊎_elim (λ z. absurd (some z)) (λ h. h) (zero_or n), ltb-false 4096 n two.1)
  where
    zero_or : (n : ℕ) → (n ≡ 0) ⊎ (0 < n)
    zero_or zero = inl refl
    zero_or (suc n) = inr (omega arith)

sides : (s : Surface) → bad_sides s ≡ false → Sides s
unfolding bad_sides
sides s e =
    let two = or_false (bad_side s.width) (bad_side s.height) e in
    let w = side s.width two.0 in
    let h = side s.height two.1 in
    record { width_positive = w.0; width_max = w.1; height_positive = h.0; height_max = h.1 }

rows : (s : Surface) → bad_sides s ≡ false → bad_stride s ≡ false → Rows s
unfolding bad_stride
rows s e f =
    let two = or_false (ltb 0 (s.stride % 8)) (ltb s.stride (row_length s)) f in
    let all = sides s e in
    let row : row_length s ≤ s.stride = ltb-false s.stride (row_length s) two.1 in
    let least : 1 * 1 ≤ s.width * bytes_per_pixel s.format = mul-le-mul all.width_positive (bytes-some s.format) in
    record { sides = all; eights = omega (arith, ltb-false 0 (s.stride % 8) two.0); roomy = row; some = omega arith }

-- ---- 26

upright : (r : Rotation) → is_unrotated r ≡ true → r ≡ Rotate0
upright Rotate0 e = refl
upright Rotate90 e = absurd (false≢true e)
upright Rotate180 e = absurd (false≢true e)
upright Rotate270 e = absurd (false≢true e)

size_by : {w h w' h' : ℕ} → w ≡ w' → h ≡ h' → ◌≡◌ {A = Size} record { width = w; height = h } record { width = w'; height = h' }
size_by p q = cc

same_size_lem : (a b : Size) → same_size a b ≡ true → a ≡ b
same_size_lem a b e =
    let two = and-true (eqb a.width b.width) (eqb a.height b.height) e in
    size_by (eqb-true a.width b.width two.0) (eqb-true a.height b.height two.1)

-- ---- 27

is_readable_lem : (bounds : Bounds) (s : Surface) → is_readable bounds s ≡ true → InReach bounds (span s)
is_readable_lem bounds s e = go (is_writable_span bounds s) refl
  where
    go : (b : Bool) → is_writable_span bounds s ≡ b → InReach bounds (span s)
    go true w = inl (inside-ends (span s) bounds.window w)
    go false w = inr (inside-ends (span s) (common_of bounds) (ap (λ (b : Bool). b || contained_in (span s) (common_of bounds)) (sym w) ∙ e))

-- ---- 28

pub same-format : (a b : Format) → same_format a b ≡ true → a ≡ b
same-format Argb8888 Argb8888 e = refl
same-format Argb8888 Rgb888 e = absurd (false≢true e)
same-format Argb8888 Rgb565 e = absurd (false≢true e)
same-format Rgb888 Argb8888 e = absurd (false≢true e)
same-format Rgb888 Rgb888 e = refl
same-format Rgb888 Rgb565 e = absurd (false≢true e)
same-format Rgb565 Argb8888 e = absurd (false≢true e)
same-format Rgb565 Rgb888 e = absurd (false≢true e)
same-format Rgb565 Rgb565 e = refl

surface_by : {p s w h p' s' w' h' : ℕ} {f f' : Format} → p ≡ p' → s ≡ s' → w ≡ w' → h ≡ h' → f ≡ f'
    → ◌≡◌ {A = Surface} record { address = p; stride = s; width = w; height = h; format = f } record { address = p'; stride = s'; width = w'; height = h'; format = f' }
surface_by p s w h f = cc

-- surfaces of one size at the same place are the same
same_surface : (a b : Surface) → aliases a b ≡ true → size_of a ≡ size_of b → a ≡ b
unfolding aliases
same_surface a b e z =
    let first = and-true (eqb a.address b.address && eqb a.stride b.stride) (same_format a.format b.format) e in
    let two = and-true (eqb a.address b.address) (eqb a.stride b.stride) first.0 in
    surface_by
    (eqb-true a.address b.address two.0)
    (eqb-true a.stride b.stride two.1)
    (ap (λ (z : Size). z.width) z)
    (ap (λ (z : Size). z.height) z)
    (same-format a.format b.format first.1)

separate_or-same : (a b : Surface) → surfaces_overlap a b && not (aliases a b) ≡ false → size_of a ≡ size_of b → DisjointRows a b ⊎ (a ≡ b)
separate_or-same a b e z = go (surfaces_overlap a b) refl
  where
    go : (t : Bool) → surfaces_overlap a b ≡ t → DisjointRows a b ⊎ (a ≡ b)
    go true s = inr (same_surface a b (not-false (aliases a b) (and-false (surfaces_overlap a b) (not (aliases a b)) s e)) z)
    go false s = inl (separate a b s)

-- ---- all of them

-- the four rules of a task that keeps them
pub record Kept (bounds : Bounds) (t : Task) : Type 0 where
  pub surfaces : bad_surface t ≡ false
  pub sizes : size_mismatch t ≡ false
  pub bounded : out_of_bounds bounds t ≡ false
  pub separate : output_overlaps t ≡ false

kept : (bounds : Bounds) (t : Task) → check_task bounds t ≡ Ok tt → Kept bounds t
unfolding check_task
kept bounds t e =
    let r25 = passed (bad_surface t) BadSurface _ e in
    let r26 = passed (size_mismatch t) SizeMismatch _ r25.1 in
    let r27 = passed (out_of_bounds bounds t) OutOfBounds _ r26.1 in
    let r28 = passed (output_overlaps t) Overlap _ r27.1 in
    record { surfaces = r25.0; sizes = r26.0; bounded = r27.0; separate = r28.0 }

-- the source, read from memory
sound-source : (bounds : Bounds) (t : Task) → Kept bounds t → is_buffer_source t.source ≡ true → SoundSource bounds t.source t.output
unfolding bad_surface bad_source out_of_bounds output_overlaps
sound-source bounds t k on =
    let s = t.source.surface in
    let r25 = or_false3 (bad_source t.source) (bad_output t.output) (t.blending.on && bad_destination t.destination) k.surfaces in
    let own = or_false3 (bad_sides s) (is_buffer_source t.source && bad_stride s) (not t.source.enabled) r25.0 in
    let r27 = or_false3 (is_buffer_source t.source && not (is_readable bounds s)) (not (is_writable_span bounds t.output)) (t.blending.on && not (is_readable bounds t.destination.surface)) k.bounded in
    let r28 = or_false (is_buffer_source t.source && surfaces_overlap s t.output) _ k.separate in
    record {
      rows = rows s own.0 (and-false (is_buffer_source t.source) (bad_stride s) on own.1);
      reach = is_readable_lem bounds s (not-false (is_readable bounds s) (and-false (is_buffer_source t.source) (not (is_readable bounds s)) on r27.0));
      separate = separate s t.output (and-false (is_buffer_source t.source) (surfaces_overlap s t.output) on r28.0);
    }

-- the destination, while blending
sound-destination : (bounds : Bounds) (t : Task) → Kept bounds t → t.blending.on ≡ true → SoundDestination bounds t.destination t.output
unfolding bad_surface bad_destination size_mismatch out_of_bounds output_overlaps
sound-destination bounds t k on =
    let d = t.destination.surface in
    let b = t.blending.on in
    let r25 = or_false3 (bad_source t.source) (bad_output t.output) (b && bad_destination t.destination) k.surfaces in
    let own = or_false3 (bad_sides d) (bad_stride d) (not t.destination.enabled) (and-false b (bad_destination t.destination) on r25.2) in
    let r26 = or_false3 (rotated_fill t.source) (not (same_size (size_of t.output) (rotated_source_size t.source))) (b && not (same_size (size_of d) (size_of t.output))) k.sizes in
    let r27 = or_false3 (is_buffer_source t.source && not (is_readable bounds t.source.surface)) (not (is_writable_span bounds t.output)) (b && not (is_readable bounds d)) k.bounded in
    let r28 = or_false (is_buffer_source t.source && surfaces_overlap t.source.surface t.output) _ k.separate in
    let z = same_size_lem (size_of d) (size_of t.output) (not-false (same_size (size_of d) (size_of t.output)) (and-false b (not (same_size (size_of d) (size_of t.output))) on r26.2)) in
    record {
      rows = rows d own.0 own.1;
      enabled = not-false t.destination.enabled own.2;
      size = z;
      reach = is_readable_lem bounds d (not-false (is_readable bounds d) (and-false b (not (is_readable bounds d)) on r27.2));
      separate = separate_or-same d t.output (and_last b (surfaces_overlap d t.output) (not (aliases d t.output)) on r28.1) z;
    }
  where
    and_last : (a b c : Bool) → a ≡ true → a && b && c ≡ false → b && c ≡ false
    and_last true b c h e = e
    and_last false b c h e = absurd (false≢true h)

pub passes : (bounds : Bounds) (t : Task) → check_task bounds t ≡ Ok tt → Sound bounds t
unfolding bad_surface bad_source bad_output size_mismatch out_of_bounds
passes bounds t e =
    let k = kept bounds t e in
    let s = t.source.surface in
    let r25 = or_false3 (bad_source t.source) (bad_output t.output) (t.blending.on && bad_destination t.destination) k.surfaces in
    let source = or_false3 (bad_sides s) (is_buffer_source t.source && bad_stride s) (not t.source.enabled) r25.0 in
    let output = or_false (bad_sides t.output) (bad_stride t.output) r25.1 in
    let turned = same_size (size_of t.output) (rotated_source_size t.source) in
    let r26 = or_false3 (rotated_fill t.source) (not turned) (t.blending.on && not (same_size (size_of t.destination.surface) (size_of t.output))) k.sizes in
    let r27 = or_false3 (is_buffer_source t.source && not (is_readable bounds s)) (not (is_writable_span bounds t.output)) (t.blending.on && not (is_readable bounds t.destination.surface)) k.bounded in
    record {
      sides = sides s source.0;
      enabled = not-false t.source.enabled source.2;
      upright = λ off. upright t.source.transform.rotation
          (not-false (is_unrotated t.source.transform.rotation) (and-false (not (is_buffer_source t.source)) (not (is_unrotated t.source.transform.rotation)) (ap not off) r26.0));
      source = sound-source bounds t k;
      rows = rows t.output output.0 output.1;
      size = same_size_lem (size_of t.output) (rotated_source_size t.source) (not-false turned r26.1);
      within = inside-ends (span t.output) bounds.window (not-false (is_writable_span bounds t.output) r27.1);
      destination = sound-destination bounds t k;
    }

-- Laws of batches that lie end to end: one more at the end, and what the ring holds of each.
use Rattle.std.proofs.Common.{◌≡◌, ℕ, ◌+◌, ◌<◌, ◌≤◌, true, false, not, eqb, List, [], ◌∷◌, ◌++◌, length, sym, refl, ap, ◌∙◌, ap₂, add-zero, arith, eq-eqb, eqb-true}
use Rattle.word.proofs.Tests.{and-true}
use Rattle.ring.specs.Segment.{segment, wrap_offset}
use Rattle.ring.specs.Copied.{copied_in}
use Rattle.ring.proofs.Wrapped.{wrapped_in, wrapped_add}
use Rattle.ring.proofs.Segment.{lies_wrapped}
use Rattle.ring.proofs.Copied.{segment-copied}
use Rattle.ring.proofs.View.{segment-kept-on}
use Rattle.engine_record.specs.declared.Batch.{Batch}
use Rattle.engine_record.specs.declared.EngineRecord.{EngineRecord}
use Rattle.engine_record.specs.Setup.{bad_length}
use Rattle.engine_record.specs.Slots.{sum_over, total_length}
use Rattle.engine_record.specs.Clients.{is_open}
use Rattle.engine_record.specs.Rules.{end_to_end, lengths_allowed, clients_open}

pub sum-snoc : (f : Batch → ℕ) (bs : List Batch) (b : Batch) → sum_over f (bs ++ (b ∷ [])) ≡ sum_over f bs + f b
unfolding sum_over
sum-snoc f [] b = omega arith
sum-snoc f (c ∷ bs) b = omega (arith, sum-snoc f bs b)

pub lengths_snoc : (ring : ℕ) (bs : List Batch) (b : Batch) → lengths_allowed ring bs ≡ true → bad_length ring b.length ≡ false → lengths_allowed ring (bs ++ (b ∷ [])) ≡ true
unfolding lengths_allowed
lengths_snoc ring [] b e h = rw h
lengths_snoc ring (c ∷ bs) b e h =
    let both = and-true (not (bad_length ring c.length)) (lengths_allowed ring bs) e in
    rw both.0 (lengths_snoc ring bs b both.1 h)

pub open_snoc : (engine : EngineRecord) (bs : List Batch) (b : Batch) → clients_open engine bs ≡ true → is_open engine b.client ≡ true → clients_open engine (bs ++ (b ∷ [])) ≡ true
unfolding clients_open
open_snoc engine [] b e h = rw h
open_snoc engine (c ∷ bs) b e h =
    let both = and-true (is_open engine c.client) (clients_open engine bs) e in
    rw both.0 (open_snoc engine bs b both.1 h)

-- the head and the rest of batches that lie end to end from u bytes on
module _ (n read : ℕ) (below : read < n) where
  pub record Headed (u : ℕ) (b : Batch) (bs : List Batch) : Type 0 where
    pub at : b.offset ≡ wrap_offset n (read + u)
    pub rest : end_to_end n (wrap_offset n (read + (u + b.length))) bs ≡ true

  pub headed : (u : ℕ) (b : Batch) (bs : List Batch) → u + b.length ≤ n → end_to_end n (wrap_offset n (read + u)) (b ∷ bs) ≡ true → Headed u b bs
  unfolding end_to_end
  headed u b bs h e =
      let both = and-true (eqb b.offset (wrap_offset n (read + u))) (end_to_end n (wrap_offset n (wrap_offset n (read + u) + b.length)) bs) e in
      record { at = eqb-true _ _ both.0; rest = rw (wrapped_add n read u b.length below h) at both.1 }

  pub end_snoc : (u : ℕ) (bs : List Batch) (b : Batch) → u + total_length bs ≤ n → end_to_end n (wrap_offset n (read + u)) bs ≡ true →
      b.offset ≡ wrap_offset n (read + (u + total_length bs)) → end_to_end n (wrap_offset n (read + u)) (bs ++ (b ∷ [])) ≡ true
  unfolding end_to_end sum_over
  end_snoc u [] b h e is =
      let z : u + 0 ≡ u = omega arith in
      rw (eq-eqb b.offset (wrap_offset n (read + u)) (is ∙ rw z))
  end_snoc u (c ∷ bs) b h e is =
      let q = headed u c bs (omega arith) e in
      let z : u + (c.length + total_length bs) ≡ u + c.length + total_length bs = omega arith in
      rw (eq-eqb c.offset (wrap_offset n (read + u)) q.at, wrapped_add n read u c.length below (omega arith))
      (end_snoc (u + c.length) bs b (omega arith) q.rest (is ∙ rw z))

  -- the same from the read offset on
  pub end-last : (bs : List Batch) (b : Batch) → total_length bs ≤ n → end_to_end n read bs ≡ true → b.offset ≡ wrap_offset n (read + total_length bs) → end_to_end n read (bs ++ (b ∷ [])) ≡ true
  end-last bs b h e is =
      let first : wrap_offset n (read + 0) ≡ read = rw add-zero (wrapped_in n read below) in
      let z : 0 + total_length bs ≡ total_length bs = omega arith in
      rw first at (end_snoc 0 bs b (rw z h) (rw first e) (is ∙ ap (λ (x : ℕ). wrap_offset n (read + x)) (sym z)))

  -- where the last one lies
  last-at : (u : ℕ) (bs : List Batch) (b : Batch) → u + total_length (bs ++ (b ∷ [])) ≤ n → end_to_end n (wrap_offset n (read + u)) (bs ++ (b ∷ [])) ≡ true →
      b.offset ≡ wrap_offset n (read + (u + total_length bs))
  unfolding sum_over
  last-at u [] b h e =
      let z : u + 0 ≡ u = omega arith in
      (headed u b [] (omega arith) e).at ∙ ap (λ (x : ℕ). wrap_offset n (read + x)) (sym z)
  last-at u (c ∷ bs) b h e =
      let q = headed u c (bs ++ (b ∷ [])) (omega arith) e in
      let z : u + c.length + total_length bs ≡ u + (c.length + total_length bs) = omega arith in
      last-at (u + c.length) bs b (omega arith) q.rest ∙ ap (λ (x : ℕ). wrap_offset n (read + x)) z

  -- and what follows it
  pub after_last : (bs : List Batch) (b : Batch) → total_length (bs ++ (b ∷ [])) ≤ n → end_to_end n read (bs ++ (b ∷ [])) ≡ true →
      wrap_offset n (read + total_length (bs ++ (b ∷ []))) ≡ wrap_offset n (b.offset + b.length)
  after_last bs b h e =
      let first : wrap_offset n (read + 0) ≡ read = rw add-zero (wrapped_in n read below) in
      let more = sum-snoc (λ x. x.length) bs b in
      let z : 0 + total_length bs ≡ total_length bs = omega arith in
      let at : b.offset ≡ wrap_offset n (read + total_length bs) = last-at 0 bs b (omega arith) (rw first e) ∙ ap (λ (x : ℕ). wrap_offset n (read + x)) z in
      ap (λ (x : ℕ). wrap_offset n (read + x)) more
      ∙ sym (wrapped_add n read (total_length bs) b.length below (omega arith))
      ∙ ap (λ (x : ℕ). wrap_offset n (x + b.length)) (sym at)

-- ---- what the ring holds

-- each batch with its bytes in the ring, put together by g
module _ {A : Type 0} (g : Batch → List ℕ → A) where
  unfoldable pub held : List ℕ → List Batch → List A
  held ring [] = []
  held ring (b ∷ bs) = g b (segment ring b.offset b.length) ∷ held ring bs

  pub held-snoc : (ring : List ℕ) (bs : List Batch) (b : Batch) → held ring (bs ++ (b ∷ [])) ≡ held ring bs ++ (g b (segment ring b.offset b.length) ∷ [])
  unfolding held
  held-snoc ring [] b = refl
  held-snoc ring (c ∷ bs) b = ap (λ (l : List A). g c (segment ring c.offset c.length) ∷ l) (held-snoc ring bs b)

  -- a batch copied in past their end leaves their bytes
  pub held_kept : (ring : List ℕ) (read u v : ℕ) (bs : List Batch) (batch : List ℕ) → read < length ring → u + total_length bs ≤ v → v + length batch ≤ length ring →
      end_to_end (length ring) (wrap_offset (length ring) (read + u)) bs ≡ true →
      held (copied_in ring (wrap_offset (length ring) (read + v)) batch) bs ≡ held ring bs
  unfolding held sum_over
  held_kept ring read u v [] batch below h k e = refl
  held_kept ring read u v (b ∷ bs) batch below h k e =
      let q = headed (length ring) read below u b bs (omega arith) e in
      let same = segment-kept-on ring read u b.length v batch below (omega arith) k in
      ap₂ (λ (x : List ℕ) (l : List A). g b x ∷ l) (rw q.at same) (held_kept ring read (u + b.length) v bs batch below (omega arith) k q.rest)

  -- and the new one is the last
  pub held_new : (ring : List ℕ) (read : ℕ) (bs : List Batch) (b : Batch) (batch : List ℕ) → read < length ring → total_length bs + length batch ≤ length ring →
      end_to_end (length ring) read bs ≡ true → b.offset ≡ wrap_offset (length ring) (read + total_length bs) → b.length ≡ length batch →
      held (copied_in ring (wrap_offset (length ring) (read + total_length bs)) batch) (bs ++ (b ∷ [])) ≡ held ring bs ++ (g b batch ∷ [])
  held_new ring read bs b batch below k e at size =
      let new : List ℕ = copied_in ring (wrap_offset (length ring) (read + total_length bs)) batch in
      let first : wrap_offset (length ring) (read + 0) ≡ read = rw add-zero (wrapped_in (length ring) read below) in
      let kept = held_kept ring read 0 (total_length bs) bs batch below (omega arith) k (rw first e) in
      let own : segment new b.offset b.length ≡ batch =
      rw (at, size) (segment-copied ring (wrap_offset (length ring) (read + total_length bs)) batch (lies_wrapped ring read (total_length bs) (length batch) below k))
      in
      held-snoc new bs b ∙ ap₂ (λ (l : List A) (x : List ℕ). l ++ (g b x ∷ [])) kept own

-- What one call may do, in five cases: it changes nothing but the staged submission; it puts one batch last among the waiting; an opening; the
-- execution of the first waiting batch; a closing. The proofs go by these five where they do not ask which of the eight calls it is.
use mathlib.Core.Path.{◌≡◌, refl, ap, ◌∙◌}
use mathlib.Core.List.{List, [], ◌∷◌, ◌++◌}
use mathlib.Core.Bool.{true}
use Prim.Native.Nat.{ℕ, ◌+◌, ◌-◌, ◌%◌, ◌≤◌}
use native.Mathlib.Omega.{arith}
use lib.ListN.{length, length-append}
use lib.Dec.{eqb}
use borrow.Author.Tests.{eqb-true, eqb-false}
use Rattle.model.specs.Windows.{Window}
use Rattle.model.specs.Calls.{Setup, Call, opens, submit, run, pending, begin, piece, cancel, close, Answer, opened, accepted, completed, ready, missing, done, refused}
use Rattle.model.specs.BatchSemantics.{BatchSemantics}
use Rattle.model.specs.State.{Batch, batch, Staging, idle, staging, Model, is_open, staged_by, missing_bytes, total_bytes, taken_slots, taken_bytes}
use Rattle.model.specs.Refusals.{refusal, refusal_table}
use Rattle.model.specs.Model.{Step, plain, with_staged, open_step, enqueue, run_step, piece_step, close_step, effect, step}
use Rattle.model.specs.Order.{changes}
use Rattle.model.specs.Properties.{Proper, HandedIn, whole, pieces}
use Rattle.model.proofs.Tests.{cond_cases}
use Rattle.model.proofs.Refusals.{unless_cases, OpenAllowed, open_allowed, batch-allowed, sized-positive, run-allowed, piece-allowed, CloseAllowed, close-allowed}

-- at most eight slots are taken, in the ring's room
pub record Fits (setup : Setup) (model : Model) : Type 0 where
  pub slots : taken_slots model ≤ 8
  pub room : taken_bytes model ≤ setup.ring

-- neither a ticket nor a completion
abbrev pub Plain : Answer → Type 0
Plain (opened k) = Unit {0}
Plain (accepted t) = ⊥
Plain (completed k t v) = ⊥
Plain (ready n) = Unit {0}
Plain (missing n) = Unit {0}
Plain done = Unit {0}
Plain (refused n) = Unit {0}

refused_still : (c : Call) (k : ℕ) → changes c (refused k) ≡ []
unfolding changes
refused_still (opens w) k = refl
refused_still (submit d x) k = refl
refused_still run k = refl
refused_still (pending d) k = refl
refused_still (begin d n) k = refl
refused_still (piece d x) k = refl
refused_still (cancel d) k = refl
refused_still (close d) k = refl

pub record Cases (way : BatchSemantics) (setup : Setup) (model : Model) (c : Call) (P : Step → Type 0) : Type 0 where
  pub staging : (a : Answer) (g : Staging) → Plain a × (changes c a ≡ []) → (Fits setup model → Fits setup (with_staged model g)) → (Proper setup (is_open model) model.staged → Proper setup (is_open model) g) → P (plain a (with_staged model g))
  pub entering : (k : ℕ) (x : List ℕ) → HandedIn model c (batch k (model.accepted % 4294967296) x) → is_open model k ≡ true → (Fits setup model → Fits setup (enqueue model k x).after) → P (enqueue model k x)
  pub opening : (w : Window) → c ≡ opens w → OpenAllowed setup model w → P (open_step model w)
  pub running : (b : Batch) (rest : List Batch) → c ≡ run → model.waiting ≡ b ∷ rest → length model.memory ≡ setup.memory → P (run_step way setup.common model (b ∷ rest))
  pub closing : (client : ℕ) → c ≡ close client → CloseAllowed setup model client → P (close_step model client)

total-snoc : (bs : List Batch) (b : Batch) → total_bytes (bs ++ (b ∷ [])) ≡ total_bytes bs + length b.bytes
unfolding total_bytes
total-snoc [] b = omega arith
total-snoc (v ∷ bs) b = rw (total-snoc bs b) (omega arith)

-- one more waiting, in slot and room that are free or were held for it
fits_more : (setup : Setup) (model : Model) (k : ℕ) (x : List ℕ) → length model.waiting + 1 ≤ 8 → total_bytes model.waiting + length x ≤ setup.ring → Fits setup (enqueue model k x).after
fits_more setup model k x s r = record {
  slots = rw (length-append model.waiting _) (omega arith);
  room = rw (total-snoc model.waiting _) (omega arith);
}

module _ (way : BatchSemantics) (setup : Setup) (ring : ℕ) (model : Model) (P : Step → Type 0) where
  piece_cases : (k : ℕ) (x : List ℕ) → Cases way setup model (piece k x) P → (g : Staging) → model.staged ≡ g → staged_by g k ≡ true → is_open model k ≡ true → length x ≤ missing_bytes g → P (piece_step model g x)
  unfolding changes
  piece_cases k x C idle q e h l = C.staging (refused 14) model.staged (tt, refl) (λ F. F) (λ o. o)
  piece_cases k x C (staging d n y) q e h l = cond_cases P (eqb (length (y ++ x)) n) _ _
      (λ t. C.entering d (y ++ x) (rw (eqb-true d k e) (pieces k _ n y x (q ∙ ap (λ (j : ℕ). staging j n y) (eqb-true d k e)))) (rw (eqb-true d k e) h) (λ F.
      let long : length (y ++ x) ≡ n = eqb-true _ _ t in
      let s : length model.waiting + 1 ≤ 8 = rw q at F.slots in
      let r : total_bytes model.waiting + n ≤ setup.ring = rw q at F.room in
      fits_more setup model d (y ++ x) s (rw long r)))
      (λ t. C.staging _ (staging d n (y ++ x)) (tt, refl) (λ F. record { slots = rw q at F.slots; room = rw q at F.room })
      (λ o.
      let p : Proper setup (is_open model) (staging d n y) = rw q at o in
      let short : length x ≤ n - length y = l in
      let other : ¬ (length (y ++ x) ≡ n) = eqb-false _ _ t in
      (p.0, p.1, omega (arith, length-append y x))))

  refuses : (c : Call) → Cases way setup model c P → (k : ℕ) → P (plain (refused k) model)
  refuses c C k = C.staging (refused k) model.staged (tt, refused_still c k) (λ F. F) (λ o. o)

  pub step_cases : (c : Call) → Cases way setup model c P → P (step way setup ring c model)
  unfolding effect refusal_table changes
  step_cases (opens w) C = unless_cases P (refusal setup ring model (opens w)) model _ (λ e. C.opening w refl (open_allowed setup ring model w e)) (refuses _ C)
  step_cases (submit k x) C = unless_cases P (refusal setup ring model (submit k x)) model _
      (λ e.
      let A = batch-allowed setup ring model k (length x) e in
      C.entering k x (whole k _ x) A.client_open (λ F. fits_more setup model k x (omega (arith, A.slot)) (omega (arith, A.room, F.room))))
      (refuses _ C)
  step_cases run C = unless_cases P (refusal setup ring model run) model _ (λ e. go model.waiting refl (run-allowed setup ring model e)) (refuses _ C)
    where
      go : (bs : List Batch) → model.waiting ≡ bs → length model.memory ≡ setup.memory → P (run_step way setup.common model bs)
      go [] w e = refuses _ C 9
      go (b ∷ bs) w e = C.running b bs refl w e
  step_cases (pending k) C = unless_cases P (refusal setup ring model (pending k)) model _ (λ e. C.staging _ model.staged (tt, refl) (λ F. F) (λ o. o)) (refuses _ C)
  step_cases (begin k n) C = unless_cases P (refusal setup ring model (begin k n)) model _
      (λ e.
      let A = batch-allowed setup ring model k n e in
      C.staging done (staging k n []) (tt, refl)
      (λ F. record { slots = omega (arith, A.slot); room = omega (arith, A.room, F.room) })
      (λ _. (A.client_open, A.sized, sized-positive setup n A.sized)))
      (refuses _ C)
  step_cases (piece k x) C = unless_cases P (refusal setup ring model (piece k x)) model _
      (λ e. let A = piece-allowed setup ring model k x e in piece_cases k x C model.staged refl A.own A.client_open A.fits)
      (refuses _ C)
  step_cases (cancel k) C = unless_cases P (refusal setup ring model (cancel k)) model _
      (λ e. C.staging done idle (tt, refl) (λ F. record { slots = omega (arith, F.slots); room = omega (arith, F.room) }) (λ _. tt))
      (refuses _ C)
  step_cases (close k) C = unless_cases P (refusal setup ring model (close k)) model _ (λ e. C.closing k refl (close-allowed setup ring model k e)) (refuses _ C)

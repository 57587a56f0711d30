-- Two models that differ only in what some clients hand in, and one call on each; then a list of calls.
use mathlib.Core.Path.{◌≡◌, refl, sym, ap, ap₂, ◌∙◌}
use mathlib.Core.List.{List, [], ◌∷◌, ◌++◌}
use mathlib.Core.Bool.{Bool, true, false, cond}
use mathlib.Core.Logic.{◌⊎◌, ⊎_elim}
use Prim.Native.Nat.{ℕ, suc, ◌-◌, ◌%◌, ◌<◌}
use native.Mathlib.Omega.{arith}
use lib.ListN.{length, length-append}
use lib.Dec.{eqb}
use borrow.Author.Tests.{eqb-true}
use Rattle.model.specs.Windows.{Window, In, byte, zeroed}
use Rattle.model.specs.Calls.{Setup, Call, opens, submit, run, pending, begin, piece, cancel, close, CompletionStatus, Answer, accepted, completed, done}
use Rattle.model.specs.BatchSemantics.{BatchSemantics, WindowInMemory, Confined}
use Rattle.model.specs.State.{Batch, Staging, idle, staging, Model, is_open, window_of, Owns, is_idle, staged_by, missing_bytes, staged_slots, staged_bytes, total_bytes, count_of}
use Rattle.model.specs.Refusals.{refusal_table, refusal}
use Rattle.model.specs.Model.{Step, plain, refuse, with_staged, enqueue, run_step, piece_step, effect, step, answers, memories, after}
use Rattle.model.specs.Noninterference.{Pointwise, nil, cons, AgreeOutside}
use Rattle.model.proofs.Tests.{by_in}
use Rattle.model.proofs.Refusals.{unless_both, run-allowed, piece-allowed, close-allowed}
use Rattle.model.proofs.Locality.{zero_local, zero_in}
use Rattle.model.proofs.Sound.{Named, Sound, fitted}

pub each_append : {A : Type 0} {R : A → A → Type 0} {xs ys us vs : List A} → Pointwise R xs ys → Pointwise R us vs → Pointwise R (xs ++ us) (ys ++ vs)
each_append nil r = r
each_append (cons q qs) r = cons q (each_append qs r)

cond_both : (Q : Step → Step → Type 0) (t t' : Bool) (a a' b b' : Step) → t ≡ t' → Q a a' → Q b b' → Q (cond t a b) (cond t' a' b')
cond_both Q t t' a a' b b' e f g = rw (← e) (go t)
  where
    go : (t : Bool) → Q (cond t a b) (cond t a' b')
    go true = f
    go false = g

module _ (Secret : ℕ → Type 0) where
  -- two waiting batches: client, ticket and length are the same, and the bytes too if the client is not secret
  pub record SameBatch (v w : Batch) : Type 0 where
    pub client : v.client ≡ w.client
    pub ticket : v.ticket ≡ w.ticket
    pub size : length v.bytes ≡ length w.bytes
    pub bytes : ¬ (Secret v.client) → v.bytes ≡ w.bytes

  pub data SameStaging : Staging → Staging → Type 0 where
    both-idle : SameStaging idle idle
    both-staging : (client total : ℕ) (x y : List ℕ) → length x ≡ length y → (¬ (Secret client) → x ≡ y) → SameStaging (staging client total x) (staging client total y)

  same_length : {vs ws : List Batch} → Pointwise SameBatch vs ws → length vs ≡ length ws
  same_length nil = refl
  same_length (cons q qs) = ap suc (same_length qs)

  same_total : {vs ws : List Batch} → Pointwise SameBatch vs ws → total_bytes vs ≡ total_bytes ws
  unfolding total_bytes
  same_total nil = refl
  same_total (cons q qs) = rw (q.size, same_total qs)

  pub same_count : (k : ℕ) {vs ws : List Batch} → Pointwise SameBatch vs ws → count_of k vs ≡ count_of k ws
  unfolding count_of
  same_count k nil = refl
  same_count k (cons q qs) = rw (q.client, same_count k qs)

  -- what the table asks of a staged submission
  pub record Shape (g h : Staging) : Type 0 where
    idle? : is_idle g ≡ is_idle h
    pub by : (k : ℕ) → staged_by g k ≡ staged_by h k
    missing : missing_bytes g ≡ missing_bytes h
    slots : staged_slots g ≡ staged_slots h
    bytes : staged_bytes g ≡ staged_bytes h

  pub same_shape : {g h : Staging} → SameStaging g h → Shape g h
  same_shape both-idle = record { idle? = refl; by = λ k. refl; missing = refl; slots = refl; bytes = refl }
  same_shape (both-staging client total x y e f) = record { idle? = refl; by = λ k. refl; missing = ap (λ (n : ℕ). total - n) e; slots = refl; bytes = refl }

-- What may differ: the clients whose batches may, the bytes that may, and how the answers to both are related.
pub record View : Type 1 where
  pub Secret : ℕ → Type 0
  pub secret? : (k : ℕ) → Secret k ⊎ ¬ (Secret k)
  pub Hid : ℕ → Type 0
  pub AnswersAgree : Answer → Answer → Type 0
  pub alike : (a : Answer) → AnswersAgree a a
  pub own_agree : (k t : ℕ) (v v' : CompletionStatus) → Secret k → AnswersAgree (completed k t v) (completed k t v')

pub record Rel (X : View) (model model' : Model) : Type 0 where
  pub places : model.places ≡ model'.places
  pub waiting : Pointwise (SameBatch X.Secret) model.waiting model'.waiting
  pub staged : SameStaging X.Secret model.staged model'.staged
  pub accepted : model.accepted ≡ model'.accepted
  pub size : length model.memory ≡ length model'.memory
  pub bytes : (i : ℕ) → ¬ (X.Hid i) → byte model.memory i ≡ byte model'.memory i

-- the hidden bytes hold every secret client's window, no byte of another's and none of the common area
pub record Hidden (setup : Setup) (X : View) (model : Model) : Type 0 where
  pub own : (k i : ℕ) → X.Secret k → Owns model k i → X.Hid i
  pub others : (k i : ℕ) → ¬ (X.Secret k) → Owns model k i → ¬ (X.Hid i)
  pub common : (i : ℕ) → i < setup.common → ¬ (X.Hid i)

abbrev pub Both : View → Step → Step → Type 0
Both X s s' = X.AnswersAgree s.answer s'.answer × Rel X s.after s'.after

-- two lists of calls; w holds the hidden bytes
pub record Runs (way : BatchSemantics) (setup : Setup) (ring : ℕ) (X : View) (w : Window) (cs cs' : List Call) (model model' : Model) : Type 0 where
  pub same_answers : Pointwise X.AnswersAgree (answers way setup ring cs model) (answers way setup ring cs' model')
  pub seen : Pointwise (AgreeOutside w) (memories way setup ring cs model) (memories way setup ring cs' model')
  pub rel : Rel X (after way setup ring cs model) (after way setup ring cs' model')

module _ (way : BatchSemantics) (L : Confined way) (setup : Setup) (ring : ℕ) (X : View) where
  module _ (v : Window) (m m' : List ℕ) (h : WindowInMemory v setup.common m) (size : length m ≡ length m') (agree : (i : ℕ) → ¬ (X.Hid i) → byte m i ≡ byte m' i) where
    h' : WindowInMemory v setup.common m'
    h' = (h.0, rw (← size) h.1)

    own-drawn : (x x' : List ℕ) → ((i : ℕ) → In v i → X.Hid i) → (i : ℕ) → ¬ (X.Hid i) → byte (way.draw v setup.common x m) i ≡ byte (way.draw v setup.common x' m') i
    own-drawn x x' f i n =
        let o : ¬ (In v i) = λ p. n (f i p) in
        (L v setup.common x).outside m h i o ∙ agree i n ∙ sym ((L v setup.common x').outside m' h' i o)

    other-drawn : (x : List ℕ) → ((i : ℕ) → In v i → ¬ (X.Hid i)) → ((i : ℕ) → i < setup.common → ¬ (X.Hid i)) →
        (i : ℕ) → ¬ (X.Hid i) → byte (way.draw v setup.common x m) i ≡ byte (way.draw v setup.common x m') i
    other-drawn x f g i n =
        ⊎_elim
        (λ (p : In v i). (L v setup.common x).inside m m' h (record { size = size; window = λ j q. agree j (f j q); shared = λ j q. agree j (g j q) }) i p)
        (λ (o : ¬ (In v i)). (L v setup.common x).outside m h i o ∙ agree i n ∙ sym ((L v setup.common x).outside m' h' i o))
        (by_in v i)

    pub zeroed-sized : length (zeroed v m) ≡ length (zeroed v m')
    zeroed-sized = (zero_local v setup.common).sized m h ∙ size ∙ sym ((zero_local v setup.common).sized m' h')

    pub zeroed-same : (i : ℕ) → (¬ (In v i) → byte m i ≡ byte m' i) → byte (zeroed v m) i ≡ byte (zeroed v m') i
    zeroed-same i f =
        ⊎_elim
        (λ (p : In v i). zero_in v m h.1 i p ∙ sym (zero_in v m' h'.1 i p))
        (λ (o : ¬ (In v i)). (zero_local v setup.common).outside m h i o ∙ f o ∙ sym ((zero_local v setup.common).outside m' h' i o))
        (by_in v i)

  agree_eq : (a a' : Answer) → a ≡ a' → X.AnswersAgree a a'
  agree_eq a a' e = rw e (X.alike a')

  module _ (model model' : Model) (S : Sound setup model) (R : Rel X model model') where
    G : Shape X.Secret model.staged model'.staged
    G = same_shape X.Secret R.staged

    refused-both : (k : ℕ) → Both X (refuse k model) (refuse k model')
    refused-both k = (X.alike _, R)

    staged-both : (a : Answer) (g g' : Staging) → SameStaging X.Secret g g' → Both X (plain a (with_staged model g)) (plain a (with_staged model' g'))
    staged-both a g g' q = (X.alike a, record { places = R.places; waiting = R.waiting; staged = q; accepted = R.accepted; size = R.size; bytes = R.bytes })

    enqueued_both : (k : ℕ) (x y : List ℕ) → length x ≡ length y → (¬ (X.Secret k) → x ≡ y) → Both X (enqueue model k x) (enqueue model' k y)
    enqueued_both k x y e f =
        let t : model.accepted % 4294967296 ≡ model'.accepted % 4294967296 = ap (λ (a : ℕ). a % 4294967296) R.accepted in (
          agree_eq _ _ (ap accepted t),
          record {
            places = R.places;
            waiting = each_append R.waiting (cons (record { client = refl; ticket = t; size = e; bytes = f }) nil);
            staged = both-idle;
            accepted = ap suc R.accepted;
            size = R.size;
            bytes = R.bytes;
          },
        )

    pub open_both : (w : Window) → Both X (step way setup ring (opens w) model) (step way setup ring (opens w) model')
    unfolding effect refusal_table
    open_both w = unless_both (Both X) (refusal setup ring model (opens w)) (refusal setup ring model' (opens w)) model model' _ _
        (rw R.places)
        (λ e. (
          rw R.places (X.alike _),
          record { places = rw R.places; waiting = R.waiting; staged = R.staged; accepted = R.accepted; size = R.size; bytes = R.bytes },
        ))
        refused-both

    pub submit-both : (k : ℕ) (x y : List ℕ) → length x ≡ length y → (¬ (X.Secret k) → x ≡ y) → Both X (step way setup ring (submit k x) model) (step way setup ring (submit k y) model')
    unfolding effect refusal_table
    submit-both k x y e f = unless_both (Both X) (refusal setup ring model (submit k x)) (refusal setup ring model' (submit k y)) model model' _ _
        (rw (R.places, same_length X.Secret R.waiting, same_total X.Secret R.waiting, G.idle?, G.slots, G.bytes, e))
        (λ z. enqueued_both k x y e f)
        refused-both

    begin-both : (k n : ℕ) → Both X (step way setup ring (begin k n) model) (step way setup ring (begin k n) model')
    unfolding effect refusal_table
    begin-both k n = unless_both (Both X) (refusal setup ring model (begin k n)) (refusal setup ring model' (begin k n)) model model' _ _
        (rw (R.places, same_length X.Secret R.waiting, same_total X.Secret R.waiting, G.idle?, G.slots, G.bytes))
        (λ z. staged-both done (staging k n []) (staging k n []) (both-staging k n [] [] refl (λ _. refl)))
        refused-both

    pending-both : (k : ℕ) → Both X (step way setup ring (pending k) model) (step way setup ring (pending k) model')
    unfolding effect refusal_table
    pending-both k = unless_both (Both X) (refusal setup ring model (pending k)) (refusal setup ring model' (pending k)) model model' _ _
        (rw R.places)
        (λ e. (rw (same_count X.Secret k R.waiting) (X.alike _), R))
        refused-both

    cancel-both : (k : ℕ) → Both X (step way setup ring (cancel k) model) (step way setup ring (cancel k) model')
    unfolding effect refusal_table
    cancel-both k = unless_both (Both X) (refusal setup ring model (cancel k)) (refusal setup ring model' (cancel k)) model model' _ _
        (rw (R.places, G.by k))
        (λ e. staged-both done idle idle both-idle)
        refused-both

    -- one more piece, the last or not
    pieced_both : (k : ℕ) (x y : List ℕ) → length x ≡ length y → (¬ (X.Secret k) → x ≡ y) → {g g' : Staging} → SameStaging X.Secret g g' → staged_by g k ≡ true → Both X (piece_step model g x) (piece_step model' g' y)
    pieced_both k x y e f both-idle h = refused-both 14
    pieced_both k x y e f (both-staging d n u v l q) h =
        let long : length (u ++ x) ≡ length (v ++ y) = length-append u x ∙ omega arith ∙ sym (length-append v y) in
        let same : ¬ (X.Secret d) → u ++ x ≡ v ++ y = λ s. ap₂ (λ (a b : List ℕ). a ++ b) (q s) (f (λ z. s (rw (eqb-true d k h) z))) in
        cond_both (Both X) (eqb (length (u ++ x)) n) (eqb (length (v ++ y)) n) _ _ _ _ (rw long)
        (enqueued_both d (u ++ x) (v ++ y) long same)
        (rw long (staged-both _ _ _ (both-staging d n (u ++ x) (v ++ y) long same)))

    pub piece-both : (k : ℕ) (x y : List ℕ) → length x ≡ length y → (¬ (X.Secret k) → x ≡ y) → Both X (step way setup ring (piece k x) model) (step way setup ring (piece k y) model')
    unfolding effect refusal_table
    piece-both k x y e f = unless_both (Both X) (refusal setup ring model (piece k x)) (refusal setup ring model' (piece k y)) model model' _ _
        (rw (R.places, G.by k, G.missing, e))
        (λ z. pieced_both k x y e f R.staged (piece-allowed setup ring model k x z).own)
        refused-both

    -- closing one alike in both: its bytes are zero in both
    close-both : (k : ℕ) → Both X (step way setup ring (close k) model) (step way setup ring (close k) model')
    unfolding effect refusal_table
    close-both k = unless_both (Both X) (refusal setup ring model (close k)) (refusal setup ring model' (close k)) model model' _ _
        (rw (R.size, R.places, same_count X.Secret k R.waiting, G.by k))
        (λ e.
        let A = close-allowed setup ring model k e in
        let fits = fitted setup model S A.size k A.client_open in (
          X.alike _,
          record {
            places = rw R.places;
            waiting = R.waiting;
            staged = R.staged;
            accepted = R.accepted;
            size = rw (← R.places) (zeroed-sized (window_of model k) model.memory model'.memory fits R.size R.bytes);
            bytes = λ i n. rw (← R.places) (zeroed-same (window_of model k) model.memory model'.memory fits R.size R.bytes i (λ _. R.bytes i n));
          },
        ))
        refused-both

    taken-both : Hidden setup X model → length model.memory ≡ setup.memory → (b b' : Batch) (bs bs' : List Batch) → is_open model b.client ≡ true → SameBatch X.Secret b b' → Pointwise (SameBatch X.Secret) bs bs' →
        Both X (run_step way setup.common model (b ∷ bs)) (run_step way setup.common model' (b' ∷ bs'))
    taken-both H e b b' bs bs' h q qs =
        let v : Window = window_of model b.client in
        let fits : WindowInMemory v setup.common model.memory = fitted setup model S e b.client h in
        let fits' : WindowInMemory v setup.common model'.memory = (fits.0, rw (← R.size) fits.1) in
        let ev : v ≡ window_of model' b'.client = rw (R.places, q.client) in
        let size : length (way.draw v setup.common b.bytes model.memory) ≡ length (way.draw (window_of model' b'.client) setup.common b'.bytes model'.memory) =
        rw (← ev) ((L v setup.common b.bytes).sized model.memory fits ∙ R.size ∙ sym ((L v setup.common b'.bytes).sized model'.memory fits'))
        in
        ⊎_elim
        (λ (own : X.Secret b.client). (
          rw (← q.client, ← q.ticket) (X.own_agree b.client b.ticket _ _ own),
          record {
            places = R.places;
            waiting = qs;
            staged = R.staged;
            accepted = R.accepted;
            size = size;
            bytes = rw (← ev) (own-drawn v model.memory model'.memory fits R.size R.bytes b.bytes b'.bytes (λ i p. H.own b.client i own (h, p)));
          },
        ))
        (λ (other : ¬ (X.Secret b.client)). (
          agree_eq _ _ (rw (ev, q.client, q.ticket, q.bytes other)),
          record {
            places = R.places;
            waiting = qs;
            staged = R.staged;
            accepted = R.accepted;
            size = size;
            bytes = rw (← ev, ← q.bytes other) (other-drawn v model.memory model'.memory fits R.size R.bytes b.bytes (λ i p. H.others b.client i other (h, p)) H.common);
          },
        ))
        (X.secret? b.client)

    run-both : Hidden setup X model → Both X (step way setup ring run model) (step way setup ring run model')
    unfolding effect refusal_table
    run-both H = unless_both (Both X) (refusal setup ring model run) (refusal setup ring model' run) model model' _ _
        (rw (R.size, same_length X.Secret R.waiting))
        (λ e. go (run-allowed setup ring model e) S.named R.waiting)
        refused-both
      where
        go : length model.memory ≡ setup.memory → {bs bs' : List Batch} → Named (is_open model) bs → Pointwise (SameBatch X.Secret) bs bs' → Both X (run_step way setup.common model bs) (run_step way setup.common model' bs')
        go e n nil = refused-both 9
        go e n (cons {x = b} {y = b'} {xs = bs} {ys = bs'} q qs) = taken-both H e b b' bs bs' n.0 q qs

    pub same-both : Hidden setup X model → (c : Call) → Both X (step way setup ring c model) (step way setup ring c model')
    same-both H (opens w) = open_both w
    same-both H (submit k x) = submit-both k x x refl (λ n. refl)
    same-both H run = run-both H
    same-both H (pending k) = pending-both k
    same-both H (begin k n) = begin-both k n
    same-both H (piece k x) = piece-both k x x refl (λ n. refl)
    same-both H (cancel k) = cancel-both k
    same-both H (close k) = close-both k

  -- ---- a list of calls on each: Pair relates the calls, Inv is what the calls to come are known to do

  module _ (w : Window) (inside : (i : ℕ) → X.Hid i → In w i) (Pair : Call → Call → Type 0) (Inv : List Call → Model → Type 0)
      (sound : (cs : List Call) (model : Model) → Inv cs model → Sound setup model)
      (hides : (c : Call) (cs : List Call) (model : Model) → Inv (c ∷ cs) model → Hidden setup X model)
      (next : (c : Call) (cs : List Call) (model : Model) → Inv (c ∷ cs) model → Inv cs (step way setup ring c model).after)
      (pair-both : (c c' : Call) → Pair c c' → (model model' : Model) → Sound setup model → Hidden setup X model → Rel X model model' → Both X (step way setup ring c model) (step way setup ring c' model')) where
    pub runs : (cs cs' : List Call) → Pointwise Pair cs cs' → (model model' : Model) → Inv cs model → Rel X model model' → Runs way setup ring X w cs cs' model model'
    unfolding answers memories after
    runs _ _ nil model model' I R = record { same_answers = nil; seen = nil; rel = R }
    runs _ _ (cons {x = c} {y = c'} {xs = cs} {ys = cs'} q qs) model model' I R =
        let s = pair-both c c' q model model' (sound (c ∷ cs) model I) (hides c cs model I) R in
        let r = runs cs cs' qs (step way setup ring c model).after (step way setup ring c' model').after (next c cs model I) s.1 in
        record {
          same_answers = cons s.0 r.same_answers;
          seen = cons (record { size = s.1.size; bytes = λ i o. s.1.bytes i (λ h. o (inside i h)) }) r.seen;
          rel = r.rel;
        }

-- What closed places hold does not matter: whatever it is, the record stands for the same model.
use mathlib.Core.Path.{◌≡◌, refl, ap, sym, ◌∙◌}
use mathlib.Core.List.{List, [], ◌∷◌}
use mathlib.Core.Logic.{inl, inr}
use Prim.Native.Nat.{ℕ, zero, suc, ◌%◌}
use native.Mathlib.Omega.{arith}
use lib.ListN.{length, get_or}
use Rattle.engine_record.specs.declared.EngineRecord.{EngineRecord}
use Rattle.engine_record.specs.declared.Client.{Client}
use Rattle.engine_record.specs.declared.Batch.{Batch}
use Rattle.engine_record.specs.Clients.{no_client, windows_of, pending_counts_match}
use Rattle.engine_record.specs.Queue.{waiting}
use Rattle.engine_record.specs.Rules.{clients_open, valid}
use Rattle.model.specs.Calls.{Setup, Call}
use Rattle.claims.specs.Engine.{State, mk_state, answers_of, memories_of}
use Rattle.claims.specs.Queue.{SameButClosed, with_clients, ClosedPlacesFree}
use Rattle.claims.proofs.Abstraction.{seen_places}
use Rattle.claims.proofs.SimulationRelation.{abstraction, seen_staging, Sound, Related}
use Rattle.claims.proofs.Simulation.{calls_simulate, remember}

-- ---- clients that are the same but for closed ones

same_length : (cs ds : List Client) → SameButClosed cs ds → length ds ≡ length cs
unfolding SameButClosed
same_length [] [] h = refl
same_length [] (d ∷ ds) h = absurd h
same_length (c ∷ cs) [] h = absurd h
same_length (c ∷ cs) (d ∷ ds) h = ap suc (same_length cs ds h.1)

same_windows : (cs ds : List Client) → SameButClosed cs ds → windows_of ds ≡ windows_of cs
unfolding SameButClosed windows_of
same_windows [] [] h = refl
same_windows [] (d ∷ ds) h = absurd h
same_windows (c ∷ cs) [] h = absurd h
same_windows (c ∷ cs) (d ∷ ds) (inl e, h) = rw (e, same_windows cs ds h)
same_windows (c ∷ cs) (d ∷ ds) (inr e, h) = rw (e.0, e.1, same_windows cs ds h)

same-opened : (cs ds : List Client) → SameButClosed cs ds → (j : ℕ) → (get_or ds j no_client).opened ≡ (get_or cs j no_client).opened
unfolding SameButClosed
same-opened [] [] h j = refl
same-opened [] (d ∷ ds) h j = absurd h
same-opened (c ∷ cs) [] h j = absurd h
same-opened (c ∷ cs) (d ∷ ds) (inl e, h) zero = ap (λ (x : Client). x.opened) (sym e)
same-opened (c ∷ cs) (d ∷ ds) (inr e, h) zero = e.1 ∙ sym e.0
same-opened (c ∷ cs) (d ∷ ds) h (suc j) = same-opened cs ds h.1 j

same-counts : (id : ℕ) (cs ds : List Client) (bs : List Batch) → SameButClosed cs ds → pending_counts_match id ds bs ≡ pending_counts_match id cs bs
unfolding SameButClosed pending_counts_match
same-counts id [] [] bs h = refl
same-counts id [] (d ∷ ds) bs h = absurd h
same-counts id (c ∷ cs) [] bs h = absurd h
same-counts id (c ∷ cs) (d ∷ ds) bs (inl e, h) = rw (e, same-counts (suc id) cs ds bs h)
same-counts id (c ∷ cs) (d ∷ ds) bs (inr e, h) = rw (e.0, e.1, same-counts (suc id) cs ds bs h)

same-places : (cs ds : List Client) → SameButClosed cs ds → seen_places ds ≡ seen_places cs
unfolding SameButClosed seen_places
same-places [] [] h = refl
same-places [] (d ∷ ds) h = absurd h
same-places (c ∷ cs) [] h = absurd h
same-places (c ∷ cs) (d ∷ ds) (inl e, h) = rw (e, same-places cs ds h)
same-places (c ∷ cs) (d ∷ ds) (inr e, h) = rw (e.0, e.1, same-places cs ds h)

-- ---- the record

module _ (engine : EngineRecord) (clients : List Client) (h : SameButClosed engine.clients clients) where
  same_owners : (bs : List Batch) → clients_open (with_clients engine clients) bs ≡ clients_open engine bs
  unfolding clients_open
  same_owners [] = refl
  same_owners (b ∷ bs) = rw (same-opened engine.clients clients h b.client, same_owners bs)

  same-valid : valid (with_clients engine clients) ≡ valid engine
  unfolding valid
  same-valid =
      rw (
        same_windows engine.clients clients h,
        same_owners (waiting engine),
        same-counts 0 engine.clients clients _ h,
        same-opened engine.clients clients h engine.staged.client,
      )

module _ (setup : Setup) (n : ℕ) (s : State) (S : Sound setup n s) (clients : List Client) (h : SameButClosed s.engine.clients clients) where
  own : s.engine.next_ticket ≡ s.engine.next_ticket % 4294967296
  own = omega (arith, S.sized.next_ticket)

  abbrev other : State
  other = mk_state (with_clients s.engine clients) s.ring s.memory

  related : Related setup n (abstraction s.engine.next_ticket s) s
  related = record { sound = S; next_ticket = own; is = refl }

  related_other : Related setup n (abstraction s.engine.next_ticket s) other
  unfolding seen_staging
  related_other = record {
    sound = record {
      sized = record { clients = same_length s.engine.clients clients h ∙ S.sized.clients; slots = S.sized.slots; next_ticket = S.sized.next_ticket };
      ok = same-valid s.engine clients h ∙ S.ok;
      numbers = S.numbers;
      long = S.long;
    };
    next_ticket = own;
    is = rw (same-places s.engine.clients clients h);
  }

  both : (calls : List Call) → (answers_of calls other ≡ answers_of calls s) × (memories_of calls other ≡ memories_of calls s)
  both calls = (
    (calls_simulate setup n calls _ other related_other).0 ∙ sym (calls_simulate setup n calls _ s related).0,
    remember setup n calls _ other related_other ∙ sym (remember setup n calls _ s related),
  )

pub closed-places : ClosedPlacesFree
closed-places s ok four eight small clients h calls =
    let numbers = s.engine.setup in
    both (record { ring = numbers.ring; memory = numbers.memory; common = numbers.common; reset = numbers.reset }) (length s.ring) s
    (record { sized = record { clients = four; slots = eight; next_ticket = small }; ok = ok; numbers = refl; long = refl }) clients h calls

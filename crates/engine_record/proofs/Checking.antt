-- What was found by the check of a record, as facts.
use Rattle.std.proofs.Common.{◌≡◌, Bool, true, false, cond, Option, Some, None, is_some, is_none, not, IsSome, sym, refl, ap, ◌∙◌}
use Rattle.engine_record.specs.declared.Counted.{Counted}
use Rattle.engine_record.specs.declared.EngineRecord.{EngineRecord}
use Rattle.engine_record.specs.Queue.{ready_slots, ready_bytes}
use Rattle.engine_record.specs.Rules.{valid}
use Rattle.engine_record.specs.Checking.{checked_of}

module _ (engine : EngineRecord) where
  abbrev counted : Counted
  counted = record { ready = ready_slots engine; bytes = ready_bytes engine }

  pub checked_broken : valid engine ≡ false → checked_of engine ≡ None
  unfolding checked_of
  checked_broken e = rw e

  pub checked_kept : valid engine ≡ true → checked_of engine ≡ Some (record { ready = ready_slots engine; bytes = ready_bytes engine })
  unfolding checked_of
  checked_kept e = rw e

  pub checked_valid : (found : Option Counted) → found ≡ checked_of engine → is_some found ≡ valid engine
  unfolding checked_of
  checked_valid found is = ap (λ (f : Option Counted). is_some f) is ∙ go (valid engine)
    where
      go : (t : Bool) → is_some (cond t (Some counted) None) ≡ t
      go true = refl
      go false = refl

  -- as a test of what was found
  pub checked_none : (found : Option Counted) → found ≡ checked_of engine → is_none found ≡ not (valid engine)
  unfolding checked_of
  checked_none found is = ap (λ (f : Option Counted). is_none f) is ∙ go (valid engine)
    where
      go : (t : Bool) → is_none (cond t (Some counted) None) ≡ not t
      go true = refl
      go false = refl

  pub checked_there : (found : Option Counted) → found ≡ checked_of engine → valid engine ≡ true → IsSome found
  checked_there found is ok = checked_valid found is ∙ ok

  -- what was counted is so of a valid record
  module _ (n : Counted) (is : Some n ≡ checked_of engine) where
    unwrapped : Option Counted → Counted
    unwrapped None = n
    unwrapped (Some m) = m

    pub counted_valid : valid engine ≡ true
    counted_valid = sym (checked_valid (Some n) is)

    same : n ≡ counted
    unfolding unwrapped
    same = ap unwrapped (is ∙ checked_kept counted_valid)

    pub counted_ready : n.ready ≡ ready_slots engine
    counted_ready = ap (λ (m : Counted). m.ready) same

    pub counted_bytes : n.bytes ≡ ready_bytes engine
    counted_bytes = ap (λ (m : Counted). m.bytes) same

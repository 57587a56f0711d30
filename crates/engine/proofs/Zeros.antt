-- Laws of bytes that are filled with zeros, and of close by its refusal number.
use mathlib.Core.Path.{◌≡◌, sym, ap, ap₂, ◌∙◌}
use mathlib.Core.List.{List}
use Prim.Native.Nat.{ℕ, ◌+◌, ◌-◌, ◌≤◌}
use native.Mathlib.Omega.{arith}
use lib.ListN.{length, replicate, length-replicate, get_or-replicate}
use lib.Seq.{ext_get_or}
use borrow.Rule.Slice.PartMut.{put_mid}
use Rattle.range.specs.declared.Range.{Range}
use Rattle.lanes.specs.Lanes.{Done}
use Rattle.engine_record.specs.declared.Window.{Window}
use Rattle.engine_record.specs.declared.EngineRecord.{EngineRecord}
use Rattle.engine_record.specs.Clients.{client_at, window_range}
use Rattle.engine_record.proofs.Rules.{valid_facts}
use Rattle.engine_record.proofs.Windows.{window_placed}
use Rattle.queue.proofs.Refusals.{CloseAllowed}
use Rattle.queue.proofs.Calls.{unless_no, unless_yes}
use Rattle.engine.specs.Close.{zeroed, close_number, close_memory}

-- ---- bytes that have all become zeros

pub zeros-all : (before bytes : List ℕ) (n : ℕ) → length bytes ≡ n → Done (λ j. 0) before bytes 0 n → bytes ≡ replicate n 0
zeros-all before bytes n e zeros =
    ext_get_or 0 bytes (replicate n 0) (e ∙ sym (length-replicate n 0)) (λ k l. zeros.done k (omega arith) (omega arith) ∙ sym (get_or-replicate n k 0 0 (omega arith)))

-- ---- close

module _ (engine : EngineRecord) (memory : List ℕ) (client : ℕ) where
  pub close-left : (close_number engine memory client ≡ 0 → ⊥) → close_memory engine memory client ≡ memory
  unfolding close_memory
  close-left z = unless_no (close_number engine memory client) memory _ z

  pub close-zeroed : close_number engine memory client ≡ 0 → close_memory engine memory client ≡ zeroed (client_at engine client).window memory
  unfolding close_memory
  close-zeroed z = unless_yes (close_number engine memory client) memory _ z

  -- the same of what the code made: `last` is what came back of the window that was lent
  pub close-made : close_number engine memory client ≡ 0 → (window : Range) → window ≡ window_range (client_at engine client).window →
      (last : List ℕ) → last ≡ replicate (window.end - window.start) 0 →
      put_mid window.start (window.end - window.start) memory last ≡ close_memory engine memory client
  close-made z window is last e =
      let w : Window = (client_at engine client).window in
      let start : window.start ≡ w.start = ap (λ (r : Range). r.start) is in
      let size : window.end - window.start ≡ w.length = let end : window.end ≡ w.start + w.length = ap (λ (r : Range). r.end) is in omega arith in
      ap (λ (l : List ℕ). put_mid window.start (window.end - window.start) memory l) e
      ∙ ap₂ (λ (a k : ℕ). put_mid a k memory (replicate k 0)) start size
      ∙ sym (close-zeroed z)

-- the window of a client that may be closed lies in memory
pub window-inside : (engine : EngineRecord) (given client : ℕ) → CloseAllowed engine given client → ((window_range (client_at engine client).window).start ≤ (window_range (client_at engine client).window).end) × ((window_range (client_at engine client).window).end ≤ given)
window-inside engine given client a =
    let p = window_placed engine (valid_facts engine a.ok) client a.owner in
    (omega arith, omega (arith, p.fits, a.memory))

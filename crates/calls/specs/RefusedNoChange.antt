-- A refused call changes nothing: no byte of the record, the ring and the memory that are lent to it, and what it answers is zeros. Pending is lent
-- everything only to be read. proofs/RefusedNoChange.antt proves the promise.
use Rattle.std.specs.Prelude.{◌≡◌, List, [], ◌∷◌, ℕ}
use Rattle.reset.specs.declared.ResetRule.{ResetRule}
use Rattle.engine_record.specs.declared.Window.{Window}
use Rattle.calls.specs.Calls.{SetsUp, Opens, Submits, Begins, HandsOver, Cancels, Closes, Pends, Runs}

module _ (bytes bytesNow : List ℕ) (number : ℕ) (refused : number ≡ 0 → ⊥) where
  pub record RefusedNoChange : Type 0 where
    pub by_set_up : (ring memory common : ℕ) (reset : ResetRule) → SetsUp bytes ring memory common reset number bytesNow → bytesNow ≡ bytes
    pub by_open : (w : Window) (value : ℕ) → Opens bytes w number value bytesNow → (value ≡ 0) × (bytesNow ≡ bytes)
    pub by_submit : (ring ringNow : List ℕ) (client : ℕ) (batch : List ℕ) (value : ℕ) → Submits bytes ring client batch number value bytesNow ringNow →
        (value ≡ 0) × (bytesNow ≡ bytes) × (ringNow ≡ ring)
    pub by_begin : (ring : List ℕ) (client total : ℕ) → Begins bytes ring client total number bytesNow → bytesNow ≡ bytes
    pub by_piece : (ring ringNow : List ℕ) (client : ℕ) (piece two : List ℕ) → HandsOver bytes ring client piece number two bytesNow ringNow →
        (two ≡ 0 ∷ 0 ∷ []) × (bytesNow ≡ bytes) × (ringNow ≡ ring)
    pub by_cancel : (client : ℕ) → Cancels bytes client number bytesNow → bytesNow ≡ bytes
    pub by_close : (memory memoryNow : List ℕ) (client : ℕ) → Closes bytes memory client number bytesNow memoryNow → (bytesNow ≡ bytes) × (memoryNow ≡ memory)
    pub by_run : (ring memory memoryNow five : List ℕ) → Runs bytes ring memory number five bytesNow memoryNow →
        (five ≡ 0 ∷ 0 ∷ 0 ∷ 0 ∷ 0 ∷ []) × (bytesNow ≡ bytes) × (memoryNow ≡ memory)
    pub by_pending : (client value : ℕ) → Pends bytes client number value → value ≡ 0

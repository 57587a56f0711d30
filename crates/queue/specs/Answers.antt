-- Answers in the paper's numbers (01, "Engine, desks, queue"; 02, 6).
use Rattle.std.specs.Prelude.{ℕ, zero, suc, cond, eqb, Result, Ok, Err}
use Rattle.queue.specs.declared.Refusal.{Refusal}
use Rattle.queue.specs.declared.Refusal.TheVariants.{BadRing, BadMemory, NoPlace, BadWindow, NotOpen, BadLength, NoSlot, NoRoom, NothingToRun, OtherLength, BadRecord, OneStaged, NotStaged, NotIdle}
use Rattle.queue.specs.declared.Answer.{Answer}
use Rattle.queue.specs.declared.Answer.TheVariants.{Done, Opened, Accepted, Ready, Missing}

-- a refusal's number
abbrev pub number_of : Refusal → ℕ
number_of BadRing = 1
number_of BadMemory = 2
number_of NoPlace = 3
number_of BadWindow = 4
number_of NotOpen = 5
number_of BadLength = 6
number_of NoSlot = 7
number_of NoRoom = 8
number_of NothingToRun = 9
number_of OtherLength = 10
number_of BadRecord = 11
number_of OneStaged = 13
number_of NotStaged = 14
number_of NotIdle = 18

-- the refusal that has a number; no table has a number but these
unfoldable pub refusal_numbered : (number : ℕ) → Refusal
refusal_numbered number =
    cond (eqb number 1) BadRing
    (cond (eqb number 2) BadMemory
    (cond (eqb number 3) NoPlace
    (cond (eqb number 4) BadWindow
    (cond (eqb number 5) NotOpen
    (cond (eqb number 6) BadLength
    (cond (eqb number 7) NoSlot
    (cond (eqb number 8) NoRoom
    (cond (eqb number 9) NothingToRun
    (cond (eqb number 10) OtherLength
    (cond (eqb number 13) OneStaged
    (cond (eqb number 14) NotStaged
    (cond (eqb number 18) NotIdle
    BadRecord))))))))))))

-- the refusal's number, 0 if the call was not refused
abbrev pub refusal_number_of : {A : Type 0} → Result A Refusal → ℕ
refusal_number_of (Ok answer) = 0
refusal_number_of (Err refusal) = number_of refusal

-- what else is answered: by open the client's id, by submit the ticket, by pending the number of the client's ready batches. "A piece answers the bytes
-- still to come, the last its ticket" (02, 6). Set up, begin, cancel and close answer nothing. "A refusal gives only its number."
abbrev pub value_of : Result Answer Refusal → ℕ
value_of (Err refusal) = 0
value_of (Ok Done) = 0
value_of (Ok (Opened client)) = client
value_of (Ok (Accepted ticket)) = ticket
value_of (Ok (Ready count)) = count
value_of (Ok (Missing bytes)) = bytes

-- with a refusal number, 0 for none: the refusal, or else the answer
unfoldable pub answer_unless_refused : {A : Type 0} → (number : ℕ) → A → Result A Refusal
answer_unless_refused zero otherwise = Ok otherwise
answer_unless_refused (suc n) otherwise = Err (refusal_numbered (suc n))

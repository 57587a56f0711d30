use mathlib.Core.Path.{refl}
use Rattle.engine.proofs.answers.Numbers.{run_small}
use Rattle.script_player.proofs.Turns.{open_plays, submit_plays, run_plays, pending_plays, begin_plays, piece_plays, cancel_plays, close_plays}
use Rattle.script_player.proofs.play_call.Goals as goal

pub run_words-requires : goal.run_words-requires
run_words-requires c = rw c.run-ran.ensures.0 (run_small _ _ _)

pub returns-in-Open : goal.returns-in-Open
returns-in-Open c = rw c.in-Open.is (open_plays _ _ _ _ _ _ _ _ c.open.ensures c.step_of.ensures.0.1 c.step_of.ensures.1)

pub returns-in-Submit : goal.returns-in-Submit
returns-in-Submit c =
    rw c.in-Submit.is (submit_plays _ _ _ _ _ _ _ _ _ c.submit.ensures.0 c.submit.ensures.1 c.step_of-in-Submit.ensures.0.1 c.step_of-in-Submit.ensures.1)

pub returns-in-Run : goal.returns-in-Run
returns-in-Run c =
    rw c.in-Run.is (run_plays _ _ _ _ _ _ _ c.run-ran.ensures.0 c.run-ran.ensures.1 c.run_words.ensures refl)

pub returns-in-Pending : goal.returns-in-Pending
returns-in-Pending c = rw c.in-Pending.is (pending_plays _ _ _ _ _ _ c.pending.ensures c.answer_words.ensures)

pub returns-in-Begin : goal.returns-in-Begin
returns-in-Begin c = rw c.in-Begin.is (begin_plays _ _ _ _ _ _ _ _ c.begin.ensures c.step_of-in-Begin.ensures.0.1 c.step_of-in-Begin.ensures.1)

pub returns-in-Piece : goal.returns-in-Piece
returns-in-Piece c =
    rw c.in-Piece.is (piece_plays _ _ _ _ _ _ _ _ _ c.piece.ensures.0 c.piece.ensures.1 c.step_of-in-Piece.ensures.0.1 c.step_of-in-Piece.ensures.1)

pub returns-in-Cancel : goal.returns-in-Cancel
returns-in-Cancel c = rw c.in-Cancel.is (cancel_plays _ _ _ _ _ _ _ c.cancel.ensures c.step_of-in-Cancel.ensures.0.1 c.step_of-in-Cancel.ensures.1)

pub returns-in-Close : goal.returns-in-Close
returns-in-Close c =
    rw c.in-Close.is (close_plays _ _ _ _ _ _ _ _ c.close.ensures.0 c.close.ensures.1 c.step_of-in-Close.ensures.0.1 c.step_of-in-Close.ensures.1)

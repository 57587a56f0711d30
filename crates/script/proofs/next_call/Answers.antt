use Rattle.std.proofs.Common.{ℕ, ◌-◌, List, length, drop, sym, ap, ◌∙◌, arith, length-drop}
use lib.Seq.{take_all}
use Rattle.model.specs.Calls.{submit, run, pending, piece, cancel, close}
use Rattle.script.specs.Script.{parsed}
use Rattle.script.proofs.Parsing.{next-none, next_open, next-submit, next-run, next-pending, next-begin, next-piece, next-cancel, next-close, next_unknown}
use Rattle.script.proofs.next_call.Goals as goal

pub returns-then-is_empty : goal.returns-then-is_empty
returns-then-is_empty c = record { means = sym (next-none _ (grind arith)) }

pub returns-in-0 : goal.returns-in-0
returns-in-0 c = rw (next_open c.args.bytes.now (grind arith) c.in-0.is) c.open_in.ensures

pub returns-in-2 : goal.returns-in-2
returns-in-2 c =
    let b : List ℕ = c.args.bytes.now in
    record { means = ap (parsed run) (take_all (length b - 1) (drop 1 b) (simp length-drop (omega arith))) ∙ sym (next-run b (grind arith) c.in-2.is) }

pub returns-in-4 : goal.returns-in-4
returns-in-4 c = rw (next-begin c.args.bytes.now (grind arith) c.in-4.is) c.begin_in.ensures

pub returns-in_err-client-in-1 : goal.returns-in_err-client-in-1
returns-in_err-client-in-1 c = rw c.from_residual.ensures (record { means = sym (next-submit c.args.bytes.now (grind arith) c.in-1.is ∙ c.in_err-client-in-1.ensures submit) })

pub returns-in_ok-client-in-1 : goal.returns-in_ok-client-in-1
returns-in_ok-client-in-1 c = record { means = sym (next-submit c.args.bytes.now (grind arith) c.in-1.is ∙ c.in_ok-client-in-1.ensures submit) }

pub returns-in_err-client-in-3 : goal.returns-in_err-client-in-3
returns-in_err-client-in-3 c = rw c.from_residual-in_err-client-in-3.ensures (record { means = sym (next-pending c.args.bytes.now (grind arith) c.in-3.is ∙ c.in_err-client-in-3.ensures pending) })

pub returns-in_ok-client-in-3 : goal.returns-in_ok-client-in-3
returns-in_ok-client-in-3 c = record { means = sym (next-pending c.args.bytes.now (grind arith) c.in-3.is ∙ c.in_ok-client-in-3.ensures pending) }

pub returns-in_err-client-in-5 : goal.returns-in_err-client-in-5
returns-in_err-client-in-5 c = rw c.from_residual-in_err-client-in-5.ensures (record { means = sym (next-piece c.args.bytes.now (grind arith) c.in-5.is ∙ c.in_err-client-in-5.ensures piece) })

pub returns-in_ok-client-in-5 : goal.returns-in_ok-client-in-5
returns-in_ok-client-in-5 c = record { means = sym (next-piece c.args.bytes.now (grind arith) c.in-5.is ∙ c.in_ok-client-in-5.ensures piece) }

pub returns-in_err-client-in-6 : goal.returns-in_err-client-in-6
returns-in_err-client-in-6 c = rw c.from_residual-in_err-client-in-6.ensures (record { means = sym (next-cancel c.args.bytes.now (grind arith) c.in-6.is ∙ c.in_err-client-in-6.ensures cancel) })

pub returns-in_ok-client-in-6 : goal.returns-in_ok-client-in-6
returns-in_ok-client-in-6 c = record { means = sym (next-cancel c.args.bytes.now (grind arith) c.in-6.is ∙ c.in_ok-client-in-6.ensures cancel) }

pub returns-in_err-client-in-7 : goal.returns-in_err-client-in-7
returns-in_err-client-in-7 c = rw c.from_residual-in_err-client-in-7.ensures (record { means = sym (next-close c.args.bytes.now (grind arith) c.in-7.is ∙ c.in_err-client-in-7.ensures close) })

pub returns-in_ok-client-in-7 : goal.returns-in_ok-client-in-7
returns-in_ok-client-in-7 c = record { means = sym (next-close c.args.bytes.now (grind arith) c.in-7.is ∙ c.in_ok-client-in-7.ensures close) }

pub returns-in_default : goal.returns-in_default
returns-in_default c =
    record { means = sym (next_unknown c.args.bytes.now (grind arith) (omega arith) (omega arith) (omega arith) (omega arith) (omega arith) (omega arith) (omega arith) (omega arith)) }

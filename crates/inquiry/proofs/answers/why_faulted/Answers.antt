use Rattle.inquiry.proofs.Answering.{fault-answered}
use Rattle.inquiry.proofs.answers.why_faulted.Goals as goal

pub returns : goal.returns
returns c = λ seen held S. let a = c.args in rw c.answer_fault.ensures (fault-answered a.question a.inquiry seen held S)

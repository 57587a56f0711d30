use Rattle.inquiry.proofs.Answering.{touched-answered}
use Rattle.inquiry.proofs.answers.who_touched.Goals as goal

pub returns : goal.returns
returns c = λ seen held S. let a = c.args in rw c.answer_touched.ensures (touched-answered a.question a.inquiry seen held S)

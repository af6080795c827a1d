use Rattle.plan_build.proofs.AnswersAgree.{answers_agree}
use Rattle.plan_build.proofs.laws.keys_tell_answers.Goals as goal

pub returns : goal.returns
returns c = λ d query tables list keys same. answers_agree d query tables list keys same

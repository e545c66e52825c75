-- What answers what the code asks, by each question.
use Rattle.c_model.proofs.Asking.{free_answers_first}
use Rattle.c_steps.proofs.Asked.{chunk_answers, section_answers}

pub ruleset first_answers_cases = (chunk_answers, section_answers, free_answers_first)

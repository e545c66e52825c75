use Rattle.c_syntax.proofs.OneAnswer.{fault_one, not_both, tree_one, tree_or_fault}
use Rattle.c_syntax.proofs.laws.one_answer_of_a_text.Goals as goal

pub returns : goal.returns
returns c = record { tree_or_fault = tree_or_fault; not_both = not_both; one_tree = tree_one; one_fault = fault_one }

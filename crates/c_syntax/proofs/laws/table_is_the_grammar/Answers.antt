use Rattle.c_syntax.proofs.GoingOn.{goes_by_productions, goes_by_table}
use Rattle.c_syntax.proofs.ProgramMeaning.{derives_program}
use Rattle.c_syntax.proofs.ProgramWords.{program_derives}
use Rattle.c_syntax.proofs.laws.table_is_the_grammar.Goals as goal

pub returns : goal.returns
returns c = record {
  spelled = λ limit words tree. (program_derives limit words tree, derives_program limit words tree);
  goes_on = λ limit words. (goes_by_table limit words, goes_by_productions limit words);
}

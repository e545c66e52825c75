use Rattle.std.proofs.Common.{◌∙◌}
use Rattle.c_syntax.proofs.Lexemes.{look_up-name}
use Rattle.c_syntax.proofs.lexeme.name_term.Goals as goal

pub returns : goal.returns
returns c = cc (c.look_up.ensures, look_up-name c.names_of_len.result.now c.args.bytes.now c.names_of_len.ensures)

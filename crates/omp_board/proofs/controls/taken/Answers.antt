use Rattle.omp_board.proofs.Blanks.{last_is_made, others_are_made}
use Rattle.omp_board.proofs.controls.taken.Goals as goal

pub returns : goal.returns
returns c = record {
  made = last_is_made c.args.code.now c.unwrap.result c.args.blanks.now.items c.pop.new.self.items c.requires.made (rw c.unwrap.ensures at c.pop.ensures.items);
  blanks = others_are_made c.args.code.now c.unwrap.result c.args.blanks.now.items c.pop.new.self.items c.requires.made (rw c.unwrap.ensures at c.pop.ensures.items);
}

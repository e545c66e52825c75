use Rattle.std.proofs.lemmas.Result.{on_err_weaker}
use Rattle.std.proofs.Common.{List, ℕ, subst}
use Rattle.run_edges.specs.Edges.{AppendsFront}
use Rattle.history_file.specs.Fields.{end_fields, spelling}
use Rattle.history_file.proofs.Paged.{paged_more, part_then}
use Rattle.history_file.proofs.writing.write_end.Goals as goal

pub returns-clause-part : goal.returns-clause-part
returns-clause-part g c =
    on_err_weaker c.write_page.result
    (λ part.
    part_then _ _ _ _ _ (paged_more _ _ _ _ (spelling (end_fields c.args.file.now)) c.in_ok-make_room.ensures.paged)
    (subst (λ (page : List ℕ). AppendsFront (g.O.Sink.held c.make_room.new.sink) (g.O.Sink.held c.write_page.new.sink) page) c.put_end.ensures part))
    c.write_page.ensures.part

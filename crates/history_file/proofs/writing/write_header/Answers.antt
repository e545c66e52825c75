use Rattle.std.proofs.Common.{◌++◌, List, ℕ, subst, sym, ◌∙◌, ap}
use Rattle.std.proofs.KnownBytes.{Appends-trans}
use Rattle.std.proofs.lemmas.Result.{on_err_weaker, on_ok_weaker}
use Rattle.std.specs.Io.KnownBytes.{Appends}
use Rattle.run_edges.specs.Edges.{AppendsFront}
use Rattle.history_file.specs.Fields.{head_fields, spelling}
use Rattle.history_file.proofs.Paged.{header_is, on_err, part_behind, part_more}
use Rattle.history_file.proofs.writing.write_header.Goals as goal

pub returns-in_err-write_page-clause-part : goal.returns-in_err-write_page-clause-part
returns-in_err-write_page-clause-part g c =
    on_err c.from_residual.result
    (subst (λ (bytes : List ℕ). AppendsFront (g.O.Sink.held c.args.sink.now) (g.O.Sink.held c.write_page.new.sink) bytes)
    (ap (λ (head : List ℕ). head ++ c.args.file.now.text) c.put_head.ensures.bytes ∙ sym (header_is c.args.file.now))
    (part_more _ _ c.put_head.new.page c.args.file.now.text c.in_err-write_page.ensures.part))

pub returns-clause-whole : goal.returns-clause-whole
returns-clause-whole g c =
    on_ok_weaker c.write_all.result
    (λ all.
    subst (λ (bytes : List ℕ). Appends (g.O.Sink.held c.args.sink.now) (g.O.Sink.held c.write_all.new.sink) bytes)
    (ap (λ (head : List ℕ). head ++ c.as_slice.result.now) c.put_head.ensures.bytes ∙ ap (λ (text : List ℕ). spelling (head_fields c.args.file.now) ++ text) c.as_slice.ensures ∙ sym (header_is c.args.file.now))
    (Appends-trans _ _ _ c.put_head.new.page c.as_slice.result.now c.in_ok-write_page.ensures.whole all))
    c.write_all.ensures.whole

pub returns-clause-part : goal.returns-clause-part
returns-clause-part g c =
    on_err_weaker c.write_all.result
    (λ part.
    subst (λ (bytes : List ℕ). AppendsFront (g.O.Sink.held c.args.sink.now) (g.O.Sink.held c.write_all.new.sink) bytes)
    (ap (λ (head : List ℕ). head ++ c.as_slice.result.now) c.put_head.ensures.bytes ∙ ap (λ (text : List ℕ). spelling (head_fields c.args.file.now) ++ text) c.as_slice.ensures ∙ sym (header_is c.args.file.now))
    (part_behind _ _ _ c.put_head.new.page c.as_slice.result.now c.in_ok-write_page.ensures.whole part))
    c.write_all.ensures.part

use Rattle.std.proofs.Common.{◌∙◌, sym}
use Rattle.tool_both.proofs.Replies.{full-answer, covered-answer, front-answer}
use Rattle.tool_both.proofs.joined_reply.with_before.Goals as goal

pub returns-then-is_some-clause-counts : goal.returns-then-is_some-clause-counts
returns-then-is_some-clause-counts c = λ later counts.
    rw c.in-Some.is (full-answer c.args.snapshot.now c.args.kept c.in-Some.given c.in-Some-target.target later (sym c.target.ensures ∙ c.in-Some-target.is) c.requires (sym c.is_some.ensures ∙ c.if-is_some.true) counts)

pub returns-then-goes_to-clause-counts : goal.returns-then-goes_to-clause-counts
returns-then-goes_to-clause-counts c = λ later counts.
    rw c.in-Some.is (covered-answer c.args.snapshot.now c.args.kept c.in-Some.given c.in-Some-target.target later (sym c.target.ensures ∙ c.in-Some-target.is) (sym c.goes_to.ensures ∙ c.if-goes_to.true) counts)

pub returns-clause-counts : goal.returns-clause-counts
returns-clause-counts c = λ later counts.
    rw c.in-Some.is (front-answer c.args.snapshot.now c.args.kept c.in-Some.given c.in-Some-target.target later (sym c.target.ensures ∙ c.in-Some-target.is) (sym c.is_some.ensures ∙ c.if-is_some.false) (sym c.goes_to.ensures ∙ c.if-goes_to.false) counts)

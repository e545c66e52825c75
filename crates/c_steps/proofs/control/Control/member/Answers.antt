use Rattle.std.proofs.Common.{Option, refl, ap, ◌∙◌, subst}
use Rattle.c_syntax.specs.language.Numbered.{tree_at}
use Rattle.c_model.specs.Begin.{member_items}
use Rattle.c_model.specs.Task.{Item}
use Rattle.c_steps.specs.Beginning.{IsPutBefore, forked_of}
use Rattle.c_steps.specs.ControlView.{ControlView}
use Rattle.c_steps.specs.Items.{with_file}
use Rattle.c_steps.specs.Moves.{beginning}
use Rattle.c_steps.proofs.Members.{member_made, member_stands, none_forked}
use Rattle.c_steps.proofs.control.Control.member.Goals as goal

-- src/control/member.rt:39:13
pub returns-in_default-clause-task : goal.returns-in_default-clause-task
returns-in_default-clause-task c =
    absurd (none_forked c.args.code.now _ c.args.self.now refl c.requires.forked (ap (λ (item : Option Item). forked_of item) c.front.ensures.first ∙ c.in_default.ensures.construct c.args.code.now))

-- src/control/member.rt:30:5
pub returns-clause-task : goal.returns-clause-task
returns-clause-task c =
    member_stands c.args.code.now _ c.args.self.now c.args.into.now c.begin_member.new.self c.in-Some.number c.own_names.result refl
    (ap (λ (item : Option Item). forked_of item) c.front.ensures.first ∙ c.in-Some.ensures.construct c.args.code.now)
    c.own_names.ensures
    (subst (λ (old : ControlView). IsPutBefore c.args.code.now (member_items (tree_at c.args.code.now.trees c.in-Some.number) (with_file c.args.code.now c.own_names.result)) old c.begin_member.new.self) (c.inherit.ensures ∙ ap (λ entries. beginning entries c.args.into.now) c.own_entries.ensures.names) c.begin_member.ensures)

-- src/control/member.rt:30:5
pub returns-clause-made : goal.returns-clause-made
returns-clause-made c =
    member_made c.args.code.now _ c.args.self.now c.args.into.now c.begin_member.new.self c.in-Some.number c.own_names.result refl
    (ap (λ (item : Option Item). forked_of item) c.front.ensures.first ∙ c.in-Some.ensures.construct c.args.code.now)
    c.own_names.ensures
    (subst (λ (old : ControlView). IsPutBefore c.args.code.now (member_items (tree_at c.args.code.now.trees c.in-Some.number) (with_file c.args.code.now c.own_names.result)) old c.begin_member.new.self) (c.inherit.ensures ∙ ap (λ entries. beginning entries c.args.into.now) c.own_entries.ensures.names) c.begin_member.ensures)
    c.requires.made c.requires.into
